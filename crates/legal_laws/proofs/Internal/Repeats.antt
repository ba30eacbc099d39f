-- What is subscribed again on the current link is what is subscribed, until that is answered: no call is confirmed before.
use Rattle.std.proofs.Common.{◌≡◌, ◌≢◌, ◌⊎◌, inl, inr, ℕ, ◌-◌, ◌≤◌, ◌==◌, Bool, true, false, ◌&&◌, not, if◌then◌else◌, List, [], ◌∷◌, ◌++◌, length, Option, Some, None, refl, sym, ◌∙◌, ap, subst, arith}
use Rattle.std.specs.Prelude.{codes}
use Rattle.std.proofs.lemmas.Bool.{not-true}
use Rattle.std.proofs.lemmas.List.{append-nil}
use Rattle.containers.proofs.Choices.{by_test, chosen, left_if, taken_if, eq_from, eq_test, both_right, not_both}
use Rattle.manager_config.specs.declared.config.ConnectionManagerConfig.{ConnectionManagerConfig}
use Rattle.redis_error.specs.declared.fault_kind.FaultKind.TheVariants as kind
use Rattle.redis_error.specs.declared.redis_error.RedisError.{RedisError}
use Rattle.redis_error.specs.declared.redis_error.RedisError.TheVariants as error
use Rattle.resp_value.specs.declared.value.Value.TheVariants.{Nil}
use Rattle.resp_write.specs.Command.{Command, CommandList}
use Rattle.resp_write.specs.Pack.{pack, pack_each, pack_commands}
use Rattle.sub_tracker.specs.Subscribed.{Request}
use Rattle.sub_tracker.specs.Held.{Held, held_after}
use Rattle.sub_tracker.specs.Pipeline.{command_for, resubscription}
use Rattle.driver_model.specs.declared.action.Action.{Action}
use Rattle.driver_model.specs.declared.action.Action.TheVariants as action
use Rattle.driver_model.specs.declared.action.Cause.TheVariants as cause
use Rattle.driver_model.specs.declared.action.Owner.TheVariants as owner
use Rattle.driver_model.specs.declared.action.Purpose.{Purpose}
use Rattle.driver_model.specs.declared.action.Purpose.TheVariants as purpose
use Rattle.driver_model.specs.declared.event.Submission.{Submission}
use Rattle.driver_model.specs.declared.outcome.Outcome.{Outcome}
use Rattle.driver_model.specs.declared.outcome.Outcome.TheVariants as outcome
use Rattle.driver_model.specs.Push.{is_disconnection}
use Rattle.legal_trace.specs.Ledger.{Ledger, End, Ending, Line, by_shutdown, by_fault, by_opening, by_attempt, asks, begins, offers, tells, sources, times, repeats_timed, ends, parts, noted, noted_each, is_served}
use Rattle.legal_trace.specs.Story.{Story, Try, bytes_of, last_of}
use Rattle.legal_trace.specs.Managers.{settings_in, is_last}
use Rattle.legal_trace.specs.Again.{again_message, confirmed, is_subscribed, repeats_in}
use Rattle.legal_trace.specs.Owed.{owed, owed_by, owed_to_try, owed_unstarted}
use Rattle.legal_trace.specs.Book.{Book, entered, hearing_in, if_mine, info_in, is_rest, lines_of, message_of, push_line, timer_lines, wanted_in}
use Rattle.legal_trace.specs.Legal.{MayStand, MayTimer, MayAnswer, MayTell, IsOpen, current_link}
use Rattle.legal_trace.proofs.Again.{unwanted_is_served}
use Rattle.legal_trace.proofs.Clocks.{timer_rests}
use Rattle.legal_trace.proofs.Ledgers.{each_keeps, mine_keeps, IsAsked, asked_keeps}
use Rattle.legal_trace.proofs.Moves.{mover_is_served, mover_is_up, starter_moves}
use Rattle.legal_laws.specs.Notices.{HasMessage}
use Rattle.legal_laws.proofs.Generations.Lives.{Goes}
use Rattle.legal_laws.proofs.Submissions.Messages.{StartsNow, message_from}
use Rattle.legal_laws.proofs.Traces.Numbers.{HasLinks, HasStories, links_kept, up_is_asked}
use Rattle.legal_laws.proofs.Links.Opens.{IsOpening}
use Rattle.legal_laws.proofs.Internal.Served.{IsServed, NoConnects, WantsNone, each_served, none_keeps}

-- a link that isn't asked for wants nothing subscribed again; an open submission whose message started is on a link on which that is
-- answered; and where it isn't on the current link, something is subscribed
pub record Repeats (b : Book) : Type 0 where
  pub unasked : (l : ℕ) → WantsNone (b.link l)
  pub tried : (n l k : ℕ) → IsOpen b n → HasMessage b n l k → ((b.link l).asked ≡ true) × IsServed (b.link l)
  pub holds : is_served (current_link b) ≡ false → repeats_in (settings_in b.config) b.tracked ≡ true

-- an action asks for a link
abbrev is_connecting : Action → Bool
is_connecting (action.Connect l host port) = true
is_connecting _ = false

-- it is that
connect_of : (a : Action) → is_connecting a ≡ true → (l : ℕ) × (host : List ℕ) × (port : ℕ) × (a ≡ action.Connect l host port)
connect_of (action.Connect l host port) e = (l, host, port, refl)
connect_of _ e = absurd (cc e)

-- a line that is no connect, for a link or not
one_plain : (mine : Bool) (x : Line) → NoConnects (x ∷ []) → NoConnects (if_mine mine x)
one_plain mine x plain = chosen NoConnects mine (x ∷ []) [] (λ t. plain) (λ f. tt)

-- what a push tells is none
push_plain : (disconnects : Bool) → NoConnects ((if disconnects then parts else tells) ∷ [])
push_plain true = (refl, tt)
push_plain false = (refl, tt)

-- nor is what a timer does
timer_plain : (l : ℕ) (what : Purpose) → NoConnects (timer_lines l what)
timer_plain l (purpose.Renewal m k) = one_plain (m == l) times (refl, tt)
timer_plain l (purpose.Resubscription m) = one_plain (m == l) repeats_timed (refl, tt)
timer_plain l (purpose.Connect m) = tt
timer_plain l (purpose.Response who) = tt
timer_plain l (purpose.Backoff g) = tt

-- nor is what any other action tells
no_connects : (b : Book) (l : ℕ) (a : Action) → is_connecting a ≡ false → NoConnects (lines_of b l a)
no_connects b l (action.Turn k (cause.Opening config word)) c = tt
no_connects b l (action.Turn k (cause.Event e)) c = (refl, tt)
no_connects b l (action.Connect m host port) c = absurd (cc c)
no_connects b l (action.Timer t ms what) c = timer_plain l what
no_connects b l (action.Took who m count) c = tt
no_connects b l (action.Push m info) c = one_plain (m == l) (push_line info.kind) (push_plain (is_disconnection info.kind))
no_connects b l (action.Message msg) c = one_plain (b.current == l) tells (refl, tt)
no_connects b l (action.Monitor v) c = one_plain (b.current == l) tells (refl, tt)
no_connects b l (action.NeedCreds s m) c = one_plain (m == l) sources (refl, tt)
no_connects b l (action.Generation g) c = tt
no_connects b l (action.Round who m) c = tt
no_connects b l (action.Close m) c = one_plain (m == l) (ends (b.turns - 1)) (refl, tt)
no_connects b l (action.Write m bytes) c = one_plain (m == l) (offers bytes) (refl, tt)
no_connects b l (action.Wait who kind) c = tt
no_connects b l (action.Start m k who count len) c = one_plain (m == l) (begins (message_of b m who)) (refl, tt)
no_connects b l (action.Created e) c = tt
no_connects b l (action.Outcome n o) c = tt

-- so what is answered stays so behind it
served_plain : (b : Book) (a : Action) (l : ℕ) → is_connecting a ≡ false → IsServed (b.link l) → IsServed ((entered b a).link l)
served_plain b a l plain h = each_served (b.link l) (lines_of b l a) (no_connects b l a plain) h

-- and behind a connect, on a link that was asked for
served_connect : (b : Book) (m : ℕ) (host : List ℕ) (port l : ℕ) → MayStand b (action.Connect m host port) → HasLinks b → (b.link l).asked ≡ true → IsServed (b.link l) → IsServed ((entered b (action.Connect m host port)).link l)
served_connect b m host port l may links asked h =
    mine_keeps IsServed (m == l) (b.link l) (asks (info_in b.config) (wanted_in b.config) (hearing_in b.config) (is_last (settings_in b.config) b.attempt) (repeats_in (settings_in b.config) b.tracked))
    (λ t. absurd (not_both (b.link l).asked (let same : m ≡ l = eq_from m l t in let next : m ≡ b.links = may.next in (links.unasked l (omega (arith, same, next))).0) asked)) h

-- so behind each action
pub served_on : (b : Book) (a : Action) (l : ℕ) → MayStand b a → HasLinks b → (b.link l).asked ≡ true → IsServed (b.link l) → IsServed ((entered b a).link l)
served_on b a l may links asked h = by_test (is_connecting a) (IsServed ((entered b a).link l))
    (λ t. let c = connect_of a t in subst (λ x. IsServed ((entered b x).link l)) (sym c.3) (served_connect b c.0 c.1 c.2 l (subst (MayStand b) c.3 may) links asked h))
    (λ f. served_plain b a l f h)

-- a message of a submission starts where it is answered
started_served : (b : Book) (a : Action) (l n k : ℕ) → MayStand b a → HasLinks b → StartsNow l n k a → (((entered b a).link l).asked ≡ true) × IsServed ((entered b a).link l)
started_served b (action.Start m j (owner.Try i round) count len) l n k may links now =
    let a : Action = action.Start m j (owner.Try i round) count len in
    let on : (b.story i).link ≡ m = sym may.1.on_its_link in
    let up : (b.link m).up ≡ true = subst (λ x. (b.link x).up ≡ true) on (mover_is_up b i (starter_moves b m j i count len may.1)) in
    let served : IsServed (b.link m) = subst (λ x. IsServed (b.link x)) on (mover_is_served b i (starter_moves b m j i count len may.1)) in
    subst (λ x. (((entered b a).link x).asked ≡ true) × IsServed ((entered b a).link x)) now.0
    (each_keeps IsAsked asked_keeps (b.link m) (lines_of b m a) (up_is_asked b m links up), served_plain b a m refl served)
started_served b _ l n k may links now = absurd now

-- where these stay, something is subscribed as before
unmoved_holds : (b : Book) (a : Action) → is_connecting a ≡ false → (entered b a).current ≡ b.current → (entered b a).config ≡ b.config → (entered b a).tracked ≡ b.tracked → Repeats b
    → is_served (current_link (entered b a)) ≡ false → repeats_in (settings_in (entered b a).config) (entered b a).tracked ≡ true
unmoved_holds b a plain same told tracked h unserved = by_test (is_served (current_link b)) (repeats_in (settings_in (entered b a).config) (entered b a).tracked ≡ true)
    (λ t. absurd (not_both (is_served (current_link (entered b a))) unserved (subst (λ c. IsServed ((entered b a).link c)) (sym same) (served_plain b a b.current plain t))))
    (λ f. ap (λ c. repeats_in (settings_in c) (entered b a).tracked) told ∙ (ap (repeats_in (settings_in b.config)) tracked ∙ h.holds f))

-- on a link that isn't asked for it is answered
fresh_holds : (c : Book) (P : Type 0) → HasLinks c → ((l : ℕ) → WantsNone (c.link l)) → c.links ≤ c.current → is_served (current_link c) ≡ false → P
fresh_holds c P links none i unserved = absurd (not_both (is_served (current_link c)) unserved (unwanted_is_served (current_link c) (none c.current (links.unasked c.current i).0)))

-- no fault confirms a call
only_by_try : (late unspoken empty overdue : Bool) (w x y z : RedisError) (o : Option Outcome)
    → (if late then Some (outcome.Fault w) else if unspoken then Some (outcome.Fault x) else if empty then Some (outcome.Fault y) else if overdue then Some (outcome.Fault z) else o) ≡ Some outcome.Done → o ≡ Some outcome.Done
only_by_try true unspoken empty overdue w x y z o e = absurd (cc e)
only_by_try false true empty overdue w x y z o e = absurd (cc e)
only_by_try false false true overdue w x y z o e = absurd (cc e)
only_by_try false false false true w x y z o e = absurd (cc e)
only_by_try false false false false w x y z o e = e

-- nor is anything else that is owed without a message
end_confirms_not : (why : Ending) → owed_by why ≡ Some outcome.Done → ⊥
end_confirms_not by_shutdown e = cc e
end_confirms_not (by_fault f) e = cc e
end_confirms_not (by_opening x) e = cc e
end_confirms_not (by_attempt x) e = cc e

waiting_confirms_not : (closed : Bool) (end : Option End) → (if closed then Some (outcome.Fault error.Closed) else owed_unstarted end) ≡ Some outcome.Done → ⊥
waiting_confirms_not true end e = cc e
waiting_confirms_not false None e = cc e
waiting_confirms_not false (Some end) e = end_confirms_not end.why e

-- a call is confirmed on a link where what is subscribed again is answered
answer_confirms_not : (b : Book) (n : ℕ) → Goes b → Repeats b → is_served (current_link b) ≡ false → IsOpen b n → owed b n ≡ Some outcome.Done → ⊥
answer_confirms_not b n goes h unserved o owes =
    let s : Story = b.story n in
    by_try (last_of s.tries) refl
    (only_by_try s.late s.unspoken (length (bytes_of s) == 0) s.overdue error.Closed error.Resp3Required error.EmptyCommand (error.Io kind.TimedOut) (owed_to_try b s (last_of s.tries)) owes)
  where
    by_try : (t : Option Try) → last_of (b.story n).tries ≡ t → owed_to_try b (b.story n) t ≡ Some outcome.Done → ⊥
    by_try None same e = waiting_confirms_not (b.shut && not (b.link (b.story n).link).asked) (b.link (b.story n).link).end e
    by_try (Some t) same e =
        let on : t.link ≡ b.current = (goes n).tries_on t same ∙ (goes n).open_on o in
        not_both (is_served (current_link b)) unserved (subst (λ l. IsServed (b.link l)) on (h.tried n t.link t.message o same).1)

outcome_confirms_not : (b : Book) (n : ℕ) (o : Outcome) → Goes b → Repeats b → is_served (current_link b) ≡ false → MayAnswer b n o ⊎ MayTell b n o → o ≡ outcome.Done → ⊥
outcome_confirms_not b n o goes h unserved (inl owes) e = answer_confirms_not b n goes h unserved owes.asked (owes.owes ∙ ap Some e)
outcome_confirms_not b n o goes h unserved (inr told) e = let x : outcome.One Nil ≡ outcome.Done = sym told.nil ∙ e in cc x

-- what isn't confirmed tracks nothing
else_confirms : (what : Option Submission) (o : Outcome) → (o ≡ outcome.Done → ⊥) → confirmed what o ≡ []
else_confirms what (outcome.One v) never = refl
else_confirms what (outcome.Many vs) never = refl
else_confirms what outcome.Done never = absurd (never refl)
else_confirms what (outcome.Fault e) never = refl

-- so behind an outcome what is subscribed stays, until what is subscribed again is answered
outcome_holds : (b : Book) (n : ℕ) (o : Outcome) → MayAnswer b n o ⊎ MayTell b n o → Goes b → Repeats b → is_served (current_link b) ≡ false
    → repeats_in (settings_in b.config) (b.tracked ++ confirmed (b.story n).submission o) ≡ true
outcome_holds b n o may goes h unserved =
    ap (λ calls. repeats_in (settings_in b.config) (b.tracked ++ calls)) (else_confirms (b.story n).submission o (outcome_confirms_not b n o goes h unserved may))
    ∙ (ap (repeats_in (settings_in b.config)) (append-nil b.tracked) ∙ h.holds unserved)

-- a connect wants what is subscribed
connect_holds : (b : Book) (m : ℕ) (host : List ℕ) (port : ℕ) → is_served (current_link (entered b (action.Connect m host port))) ≡ false → repeats_in (settings_in b.config) b.tracked ≡ true
connect_holds b m host port unserved =
    let wanted : Bool = repeats_in (settings_in b.config) b.tracked in
    let line : Line = asks (info_in b.config) (wanted_in b.config) (hearing_in b.config) (is_last (settings_in b.config) b.attempt) wanted in
    let it : (entered b (action.Connect m host port)).link m ≡ noted (b.link m) line = taken_line (m == m) (b.link m) line (eq_test m m refl) in
    by_test wanted (wanted ≡ true) (λ t. t)
    (λ f. absurd (not_both (is_served (noted (b.link m) line)) (sym (ap is_served it) ∙ unserved) (unwanted_is_served (noted (b.link m) line) f)))
  where
    taken_line : (mine : Bool) (l : Ledger) (x : Line) → mine ≡ true → noted_each l (if_mine mine x) ≡ noted l x
    taken_line true l x e = refl
    taken_line false l x e = absurd (cc e)

-- and a timer
timer_holds : (b : Book) (t ms : ℕ) (what : Purpose) → MayTimer b t ms what → HasLinks b → Repeats b → is_served (current_link (entered b (action.Timer t ms what))) ≡ false → repeats_in (settings_in b.config) b.tracked ≡ true
timer_holds b t ms what may links h unserved = elim (timer_rests b t ms what may) [
  | inl rest ↦
      let a : Action = action.Timer t ms what in
      let next : (entered b a).current ≡ b.links = taken_if (is_rest what) b.links b.current (ap is_rest rest.is_for) in
      fresh_holds (entered b a) (repeats_in (settings_in b.config) b.tracked ≡ true) (links_kept b a may links) (λ l. each_keeps WantsNone none_keeps (b.link l) (lines_of b l a) (h.unasked l)) (subst (λ c. b.links ≤ c) (sym next) (omega arith)) unserved
  | inr other ↦ unmoved_holds b (action.Timer t ms what) refl (left_if (is_rest what) b.links b.current other) refl refl h unserved
]

-- so behind each action
holds_kept : (b : Book) (a : Action) → MayStand b a → IsOpening b → HasLinks b → Goes b → Repeats b → is_served (current_link (entered b a)) ≡ false → repeats_in (settings_in (entered b a).config) (entered b a).tracked ≡ true
holds_kept b (action.Turn k (cause.Opening config word)) may opens links goes h unserved =
    let none : b.links ≡ 0 = opens.no_links may.is_for in
    absurd (not_both (is_served (current_link b)) unserved (unwanted_is_served (current_link b) (h.unasked b.current (links.unasked b.current (omega (arith, none))).0)))
holds_kept b (action.Turn k (cause.Event e)) may opens links goes h unserved = unmoved_holds b (action.Turn k (cause.Event e)) refl refl refl refl h unserved
holds_kept b (action.Connect m host port) may opens links goes h unserved = connect_holds b m host port unserved
holds_kept b (action.Timer t ms what) may opens links goes h unserved = timer_holds b t ms what may links h unserved
holds_kept b (action.Took who m count) may opens links goes h unserved = unmoved_holds b (action.Took who m count) refl refl refl refl h unserved
holds_kept b (action.Push m info) may opens links goes h unserved = unmoved_holds b (action.Push m info) refl refl refl refl h unserved
holds_kept b (action.Message msg) may opens links goes h unserved = unmoved_holds b (action.Message msg) refl refl refl refl h unserved
holds_kept b (action.Monitor v) may opens links goes h unserved = unmoved_holds b (action.Monitor v) refl refl refl refl h unserved
holds_kept b (action.NeedCreds c m) may opens links goes h unserved = unmoved_holds b (action.NeedCreds c m) refl refl refl refl h unserved
holds_kept b (action.Generation g) may opens links goes h unserved =
    fresh_holds (entered b (action.Generation g)) (repeats_in (settings_in b.config) b.tracked ≡ true) (links_kept b (action.Generation g) may links) h.unasked (let all : b.links ≤ b.links = omega arith in all) unserved
holds_kept b (action.Round who m) may opens links goes h unserved = unmoved_holds b (action.Round who m) refl refl refl refl h unserved
holds_kept b (action.Close m) may opens links goes h unserved = unmoved_holds b (action.Close m) refl refl refl refl h unserved
holds_kept b (action.Write m bytes) may opens links goes h unserved = unmoved_holds b (action.Write m bytes) refl refl refl refl h unserved
holds_kept b (action.Wait who kind) may opens links goes h unserved = unmoved_holds b (action.Wait who kind) refl refl refl refl h unserved
holds_kept b (action.Start m k who count len) may opens links goes h unserved = unmoved_holds b (action.Start m k who count len) refl refl refl refl h unserved
holds_kept b (action.Created e) may opens links goes h unserved = unmoved_holds b (action.Created e) refl refl refl refl h unserved
holds_kept b (action.Outcome n o) may opens links goes h unserved = outcome_holds b n o may goes h unserved

-- each action that may stand keeps it
pub repeats_kept : (b : Book) (a : Action) → MayStand b a → IsOpening b → HasLinks b → HasStories b → Goes b → Repeats b → Repeats (entered b a)
repeats_kept b a may opens links stories goes h = record {
  unasked = λ l. each_keeps WantsNone none_keeps (b.link l) (lines_of b l a) (h.unasked l);
  tried = λ n l k o has. elim (message_from b a l n k stories o has) [
    | inl before ↦ let old = h.tried n l k before.0 before.1 in (each_keeps IsAsked asked_keeps (b.link l) (lines_of b l a) old.0, served_on b a l may links old.0 old.1)
    | inr now ↦ started_served b a l n k may links now
  ];
  holds = holds_kept b a may opens links goes h;
}

-- where something is subscribed again, something is subscribed
pub repeats_subscribed : (s : Option ConnectionManagerConfig) (calls : List Request) → repeats_in s calls ≡ true → is_subscribed calls ≡ true
repeats_subscribed None calls e = absurd (cc e)
repeats_subscribed (Some s) calls e = both_right s.automatic_resubscription (is_subscribed calls) e

-- each of these commands has a name
abbrev AreNamed : List Command → Type 0
AreNamed [] = Unit {0}
AreNamed (c ∷ cs) = (c.args ≢ []) × AreNamed cs

named_append : (cs ds : List Command) → AreNamed cs → AreNamed ds → AreNamed (cs ++ ds)
named_append [] ds h k = k
named_append (c ∷ cs) ds h k = (h.0, named_append cs ds h.1 k)

command_named : (word : List ℕ) (names : List (List ℕ)) → AreNamed (command_for word names)
command_named word [] = tt
command_named word (name ∷ names) = ((λ e. cc e), tt)

-- so has each that subscribes again, and they are no transaction
again_named : (h : Held) → AreNamed (resubscription h).commands
unfolding resubscription
again_named h =
    let plain : List Command = command_for (codes "SUBSCRIBE") h.plain in
    let sharded : List Command = command_for (codes "SSUBSCRIBE") h.sharded in
    named_append (plain ++ sharded) (command_for (codes "PSUBSCRIBE") h.pattern)
    (named_append plain sharded (command_named (codes "SUBSCRIBE") h.plain) (command_named (codes "SSUBSCRIBE") h.sharded)) (command_named (codes "PSUBSCRIBE") h.pattern)

again_plain : (h : Held) → (resubscription h).atomic ≡ false
unfolding resubscription
again_plain h = refl

-- a command with a name has bytes
packed_some : (args : List (List ℕ)) → args ≢ [] → pack args ≢ []
packed_some [] some e = some refl
packed_some (name ∷ rest) some e = cc e

append_some : (xs ys : List ℕ) → xs ≢ [] → xs ++ ys ≢ []
append_some [] ys some e = some refl
append_some (x ∷ xs) ys some e = cc e

-- and so have some that are no transaction
commands_some : (atomic : Bool) (cs : List Command) → atomic ≡ false → AreNamed cs → (length cs == 0) ≡ false → pack_commands atomic cs ≢ []
commands_some atomic [] plain named some = absurd (cc some)
commands_some true (c ∷ cs) plain named some = absurd (cc plain)
commands_some false (c ∷ cs) plain named some = append_some (pack c.args) (pack_each cs) (packed_some c.args named.0)

-- so has the message that subscribes again
pub again_has_bytes : (calls : List Request) → is_subscribed calls ≡ true → (again_message calls).bytes ≢ []
again_has_bytes calls some =
    let p : CommandList = resubscription (held_after calls) in
    commands_some p.atomic p.commands (again_plain (held_after calls)) (again_named (held_after calls)) (not-true (length p.commands == 0) some)
