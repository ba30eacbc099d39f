-- What a legal trace tells of the opening.
use Rattle.std.proofs.Common.{◌≡◌, ◌≢◌, ◌⊎◌, inl, inr, ℕ, ◌+◌, ◌<◌, ◌≤◌, ◌==◌, ◌-◌, Bool, true, false, ◌&&◌, ◌||◌, not, List, [], ◌∷◌, ◌++◌, length, Option, Some, None, is_some, refl, sym, ◌∙◌, ap, subst, append_assoc, arith}
use Rattle.std.proofs.lemmas.List.{append-nil, nil_from_length}
use Rattle.containers.proofs.Choices.{by_test, left_if, not_both, both_right, eq_from, ne_test}
use Rattle.redis_error.specs.declared.redis_error.RedisError.{RedisError}
use Rattle.driver_model.specs.declared.action.Action.{Action}
use Rattle.driver_model.specs.declared.action.Action.TheVariants as action
use Rattle.driver_model.specs.declared.action.Cause.TheVariants as cause
use Rattle.driver_model.specs.declared.action.Owner.TheVariants as owner
use Rattle.driver_model.specs.declared.action.Purpose.{Purpose}
use Rattle.driver_model.specs.declared.config.Config.{Config}
use Rattle.driver_model.specs.declared.event.Event.{Event}
use Rattle.driver_model.specs.declared.outcome.Outcome.{Outcome}
use Rattle.driver_model.specs.declared.push_info.PushInfo.{PushInfo}
use Rattle.driver_model.specs.declared.outcome.Outcome.TheVariants as outcome
use Rattle.legal_trace.specs.Ledger.{End, Ending, by_shutdown, by_fault, by_opening, by_attempt, is_over, begins, offers, sources, ends, failure_of, failure_in, is_set_up, setup_due}
use Rattle.legal_trace.specs.Story.{Try, bytes_of, last_of}
use Rattle.legal_trace.specs.Managers.{settings_in, is_lazy}
use Rattle.legal_trace.specs.Book.{Book, blank_book, book, entered, entered_each, has_generations, message_of, is_rest}
use Rattle.legal_trace.specs.Owed.{owed, owed_to_try, owed_by, owed_unstarted}
use Rattle.legal_trace.specs.Legal.{MayTimer, MayGenerate, current_link, is_attempt, rest_due, link_due, MayStand, MayAnswer, MayTell, MaySetUp, MayBeCreated, MayFail, MayShowCreation, AllStand, link_of, Legal}
use Rattle.legal_trace.proofs.Books.{stand_front, stand_behind}
use Rattle.legal_trace.proofs.Ledgers.{mine_keeps}
use Rattle.legal_trace.proofs.Plain.{not_none, same_some}
use Rattle.legal_laws.specs.Creation.{shown_by, creations, HasFailed, IsUnopened, AnswersTell, TellsOfOpening}
use Rattle.legal_trace.proofs.Clocks.{timer_rests, timer_tells}
use Rattle.legal_trace.proofs.Managers.{lazy_comes_back}
use Rattle.legal_laws.proofs.Traces.Configured.{turns_stay}
use Rattle.legal_laws.proofs.Generations.Lives.{attempt_fails_not, due_link_is_next, due_parts, failure_kept}
use Rattle.legal_laws.proofs.Links.Opens.{due_has_no_link}
use Rattle.legal_trace.proofs.Moves.{mover_is_up, teller_moves, ready_is_up, ready_is_set}
use Rattle.legal_trace.proofs.Setups.{set_is_undue, due_is_up}
use Rattle.legal_laws.proofs.Traces.Numbers.{up_is_numbered, up_is_asked, over_is_numbered, asked_is_numbered}
use Rattle.legal_laws.proofs.Submissions.Overdue.{TimesRun, times_run, failed_in_time}
use Rattle.legal_laws.proofs.Links.Quiet.{IsQuiet, begins_quiet, ends_quiet, failed_is_over}
use Rattle.legal_laws.proofs.Traces.Ranks.{none_failed, up_lives, config_began, failed_is_current}
use Rattle.legal_laws.proofs.Links.Turned.{turn_quiet}
use Rattle.legal_laws.proofs.Traces.Sound.{Sound, stays_sound, blank_is_sound, sound_behind}
use Rattle.legal_laws.proofs.Notices.Pushed.{push_keeps, tell_keeps}
use Rattle.driver_model.specs.declared.msg.Msg.{Msg}
use Rattle.resp_value.specs.declared.value.Value.{Value}

-- of what was shown of the creation: how often, and in a turn; where the session doesn't come back, that a link was asked for before,
-- and that no connect is open any more; and that an error that was shown is that of the failed opening of the current link
pub record ToldIn (shown : List (Option RedisError)) (b : Book) : Type 0 where
  pub counted : length shown ≡ b.created
  pub once : b.created ≤ 1
  pub begun : b.created ≢ 0 → b.turns ≢ 0
  pub linked : has_generations b ≡ false → b.created ≢ 0 → b.links ≢ 0
  pub quiet : has_generations b ≡ false → b.created ≢ 0 → (l : ℕ) → IsQuiet shown (b.link l)
  pub fails : (e : RedisError) → shown ≡ Some e ∷ [] → b.failed ≡ true
  pub caused : (e : RedisError) → shown ≡ Some e ∷ [] → HasFailed b b.current e

-- once the creation failed, no generation begins
failed_generates_not : (b : Book) (g : ℕ) → MayGenerate b g → b.failed ≡ true → ⊥
failed_generates_not b g may f = not_both b.failed (due_parts b may.due).1 f

-- no link is asked for where the opening of the current one failed
failed_connects_not : (b : Book) (e : RedisError) → Sound b → HasFailed b b.current e → link_due b ≡ true → ⊥
failed_connects_not b e h fails due =
    let over = failed_is_over (current_link b).end e fails in
    let next : b.current ≡ b.links = due_link_is_next b h.lives h.links due in
    not_none (current_link b).end over.0 (h.links.unasked b.current (omega (arith, next))).2 over.1

-- and no wait begins for another attempt
failed_rests_not : (b : Book) (e : RedisError) → HasFailed b b.current e → rest_due b ≡ true → ⊥
failed_rests_not b e fails due = attempt_fails_not (current_link b).end e (both_right (has_generations b) (is_attempt (current_link b).end) due) fails

-- so the current link stays
timer_stays_current : (b : Book) (t ms : ℕ) (what : Purpose) (e : RedisError) → MayTimer b t ms what → HasFailed b b.current e → (entered b (action.Timer t ms what)).current ≡ b.current
timer_stays_current b t ms what e may fails = elim (timer_rests b t ms what may) [
  | inl rest ↦ absurd (failed_rests_not b e fails rest.due)
  | inr other ↦ left_if (is_rest what) b.links b.current other
]

stays_current : (b : Book) (a : Action) (e : RedisError) → MayStand b a → Sound b → b.failed ≡ true → HasFailed b b.current e → (entered b a).current ≡ b.current
stays_current b (action.Turn k (cause.Opening config word)) e may h f fails = refl
stays_current b (action.Turn k (cause.Event event)) e may h f fails = refl
stays_current b (action.Connect l host port) e may h f fails = absurd (failed_connects_not b e h fails may.due)
stays_current b (action.Timer t ms what) e may h f fails = timer_stays_current b t ms what e may fails
stays_current b (action.Took who l count) e may h f fails = refl
stays_current b (action.Push l info) e may h f fails = refl
stays_current b (action.Message msg) e may h f fails = refl
stays_current b (action.Monitor v) e may h f fails = refl
stays_current b (action.NeedCreds c l) e may h f fails = refl
stays_current b (action.Generation g) e may h f fails = absurd (failed_generates_not b g may f)
stays_current b (action.Round who l) e may h f fails = refl
stays_current b (action.Close l) e may h f fails = refl
stays_current b (action.Write l bytes) e may h f fails = refl
stays_current b (action.Wait who kind) e may h f fails = refl
stays_current b (action.Start l k who count len) e may h f fails = refl
stays_current b (action.Created x) e may h f fails = refl
stays_current b (action.Outcome n o) e may h f fails = refl

-- and a failure that was shown is its own still
cause_kept : (b : Book) (a : Action) (shown : List (Option RedisError)) → MayStand b a → Sound b → ToldIn shown b → (e : RedisError) → shown ≡ Some e ∷ [] → HasFailed (entered b a) (entered b a).current e
cause_kept b a shown may h told e is =
    let fails = told.caused e is in
    ap (λ l. failure_in ((entered b a).link l).end) (stays_current b a e may h (told.fails e is) fails) ∙ failure_kept b a b.current e may (h.up b.current) fails

-- where the session doesn't come back, a link that was asked for is the first, and the only one
is_the_link : (b : Book) (l m : ℕ) → Sound b → has_generations b ≡ false → l < b.links → (b.link m).asked ≡ true → l ≡ m
is_the_link b l m h plain i asked =
    let j : m < b.links = asked_is_numbered b m h.links asked in
    let one : b.links ≤ 1 = h.opens.one_link plain in
    omega (arith, i, j, one)

-- once a link is up, no connect is open there
quiet_by_up : (b : Book) → MayBeCreated b → Sound b → has_generations b ≡ false → (l : ℕ) → IsQuiet (None ∷ []) (b.link l)
quiet_by_up b may h plain l =
    let up : (b.link may.l).up ≡ true = ready_is_up (b.link may.l) may.ready in
    let first : may.l < b.links = up_is_numbered b may.l h.links up in
    record {
      quiet = (
        λ asked down lives. not_both (b.link l).up down (subst (λ k. (b.link k).up ≡ true) (is_the_link b may.l l h plain first asked) up),
        λ is_up. subst (λ k. is_set_up (b.link k) ≡ true) (is_the_link b may.l l h plain first (up_is_asked b l h.links is_up)) (ready_is_set (b.link may.l) may.ready),
      );
      tells = λ e fails. absurd (none_failed b may.l h up l e fails may.once);
    }

-- nor once its opening failed
quiet_by_failure : (b : Book) (e : RedisError) → MayFail b e → Sound b → has_generations b ≡ false → (l : ℕ) → IsQuiet (Some e ∷ []) (b.link l)
quiet_by_failure b e may h plain l =
    let over = failed_is_over (b.link may.l).end e may.fails in
    let i : may.l < b.links = over_is_numbered b may.l over.0 h.links over.1 in
    record {
      quiet = (
        λ asked down lives. not_none (b.link l).end over.0 lives (subst (λ k. (b.link k).end ≡ Some over.0) (is_the_link b may.l l h plain i asked) over.1),
        λ is_up. absurd (up_lives b l h (ap (λ k. is_over (b.link k)) (sym (is_the_link b may.l l h plain i (up_is_asked b l h.links is_up))) ∙ ap is_some over.1) is_up),
      );
      tells = λ d fails.
          let ended = failed_is_over (b.link l).end d fails in
          let j : l < b.links = over_is_numbered b l ended.0 h.links ended.1 in
          let one : b.links ≤ 1 = h.opens.one_link plain in
          let same : may.l ≡ l = omega (arith, i, j, one) in
          let alike : e ≡ d = same_some e d (sym may.fails ∙ (ap (λ k. failure_in (b.link k).end) same ∙ fails)) in
          ap (λ x. Some x ∷ []) alike;
    }

-- or one of two, where the second is
or_true : (p : Bool) → (p || true) ≡ true
or_true true = refl
or_true false = refl

-- the creation is shown first where it may be
creation_told : (b : Book) (e : Option RedisError) → MayShowCreation b e → Sound b → ToldIn (e ∷ []) (entered b (action.Created e))
creation_told b None (inl may) h = record {
  counted = let none : b.created ≡ 0 = may.once in omega (arith, none);
  once = let none : b.created ≡ 0 = may.once in omega (arith, none);
  begun = λ c none. let i : may.l < b.links = up_is_numbered b may.l h.links (ready_is_up (b.link may.l) may.ready) in let empty : b.links ≡ 0 = h.opens.no_links none in omega (arith, i, empty);
  linked = λ plain c none. let i : may.l < b.links = up_is_numbered b may.l h.links (ready_is_up (b.link may.l) may.ready) in omega (arith, i, none);
  quiet = λ plain c. quiet_by_up b may h plain;
  fails = λ d is. absurd (cc is);
  caused = λ d is. absurd (cc is);
}
creation_told b None (inr may) h =
    let has : has_generations b ≡ true = lazy_comes_back b.config (ap is_lazy may.told ∙ may.lazy) in
    record {
      counted = let none : b.created ≡ 0 = may.once in omega (arith, none);
      once = let none : b.created ≡ 0 = may.once in omega (arith, none);
      begun = λ c. config_began b may.config h may.told;
      linked = λ plain. absurd (not_both (has_generations b) plain has);
      quiet = λ plain. absurd (not_both (has_generations b) plain has);
      fails = λ d is. absurd (cc is);
      caused = λ d is. absurd (cc is);
    }
creation_told b (Some e) may h =
    let over = failed_is_over (b.link may.l).end e may.fails in
    let i : may.l < b.links = over_is_numbered b may.l over.0 h.links over.1 in
    record {
      counted = let none : b.created ≡ 0 = may.once in omega (arith, none);
      once = let none : b.created ≡ 0 = may.once in omega (arith, none);
      begun = λ c none. let empty : b.links ≡ 0 = h.opens.no_links none in omega (arith, i, empty);
      linked = λ plain c none. omega (arith, i, none);
      quiet = λ plain c. quiet_by_failure b e may h plain;
      fails = λ d is. or_true b.failed;
      caused = λ d is. let same : e ≡ d = cc is in sym (ap (λ k. failure_in (b.link k).end) (failed_is_current b may.l e h may.fails may.once)) ∙ (may.fails ∙ ap Some same);
    }

-- nothing was shown before
none_before : (b : Book) (e : Option RedisError) → MayShowCreation b e → b.created ≡ 0
none_before b None (inl may) = may.once
none_before b None (inr may) = may.once
none_before b (Some e) may = may.once

-- what shows nothing of the creation
abbrev ShowsNone : Book → Action → Type 0
ShowsNone b a = (shown : List (Option RedisError)) → MayStand b a → Sound b → ToldIn shown b → ToldIn shown (entered b a)

-- and leaves the links as they are in this
unchanged : (b : Book) (a : Action) → (entered b a).created ≡ b.created → (entered b a).links ≡ b.links → (entered b a).config ≡ b.config → (entered b a).failed ≡ b.failed
    → ((shown : List (Option RedisError)) (l : ℕ) → MayStand b a → Sound b → IsQuiet shown (b.link l) → IsQuiet shown ((entered b a).link l)) → ShowsNone b a
unchanged b a created links config failed keeps shown may h told =
    let plainly : has_generations (entered b a) ≡ false → has_generations b ≡ false = λ plain. sym (ap (λ c. is_some (settings_in c)) config) ∙ plain in
    record {
      counted = told.counted ∙ sym created;
      once = subst (λ n. n ≤ 1) (sym created) told.once;
      begun = λ c. turns_stay b a (told.begun (λ zero. c (created ∙ zero)));
      linked = λ plain c none. told.linked (plainly plain) (λ zero. c (created ∙ zero)) (sym links ∙ none);
      quiet = λ plain c l. keeps shown l may h (told.quiet (plainly plain) (λ zero. c (created ∙ zero)) l);
      fails = λ e is. failed ∙ told.fails e is;
      caused = cause_kept b a shown may h told;
    }

-- no setup starts on a link whose opening is over
pub setup_is_open : (b : Book) (m l k count len : ℕ) (shown : List (Option RedisError)) → MaySetUp b m k count len → m ≡ l → IsQuiet shown (b.link l) → ⊥
setup_is_open b m l k count len shown may same q =
    let due : setup_due (b.link l) ≡ Some may.k = ap (λ j. setup_due (b.link j)) (sym same) ∙ may.due in
    set_is_undue (b.link l) may.k (q.quiet.1 (due_is_up (b.link l) may.k due)) due

-- a turn
turn_shows_none : (b : Book) (k : ℕ) (e : Event) → ShowsNone b (action.Turn k (cause.Event e))
turn_shows_none b k e = unchanged b (action.Turn k (cause.Event e)) refl refl refl refl (λ shown l may h q. turn_quiet b k e shown l may h q)

-- a connect, before which nothing is shown
connect_shows_none : (b : Book) (m : ℕ) (host : List ℕ) (port : ℕ) → ShowsNone b (action.Connect m host port)
connect_shows_none b m host port shown may h told = record {
  counted = told.counted;
  once = told.once;
  begun = told.begun;
  linked = λ plain c none. omega (arith, none);
  quiet = λ plain c. absurd (told.linked plain c (due_has_no_link b may.due plain));
  fails = told.fails;
  caused = cause_kept b (action.Connect m host port) shown may h told;
}

-- the opening, before which nothing is shown
opening_shows_none : (b : Book) (k : ℕ) (config : Config) (word : ℕ) → ShowsNone b (action.Turn k (cause.Opening config word))
opening_shows_none b k config word shown may h told = record {
  counted = told.counted;
  once = told.once;
  begun = λ c. absurd (told.begun c may.is_for);
  linked = λ plain c. absurd (told.begun c may.is_for);
  quiet = λ plain c. absurd (told.begun c may.is_for);
  fails = told.fails;
  caused = cause_kept b (action.Turn k (cause.Opening config word)) shown may h told;
}

-- a push
push_shows_none : (b : Book) (m : ℕ) (info : PushInfo) → ShowsNone b (action.Push m info)
push_shows_none b m info = unchanged b (action.Push m info) refl refl refl refl
    (λ shown l may h q. push_keeps (IsQuiet shown) (m == l) info.kind (b.link l) (record { quiet = q.quiet; tells = q.tells }) (record { quiet = q.quiet; tells = q.tells }) q)

-- a close
close_shows_none : (b : Book) (m : ℕ) → ShowsNone b (action.Close m)
close_shows_none b m = unchanged b (action.Close m) refl refl refl refl
    (λ shown l may h q. mine_keeps (IsQuiet shown) (m == l) (b.link l) (ends (b.turns - 1)) (λ t. ends_quiet shown (b.link l) (b.turns - 1) q) q)

-- a source of credentials
need_shows_none : (b : Book) (c m : ℕ) → ShowsNone b (action.NeedCreds c m)
need_shows_none b c m = unchanged b (action.NeedCreds c m) refl refl refl refl
    (λ shown l may h q. mine_keeps (IsQuiet shown) (m == l) (b.link l) sources (λ t. record { quiet = q.quiet; tells = q.tells }) q)

-- a timer
timer_shows_none : (b : Book) (t ms : ℕ) (what : Purpose) → ShowsNone b (action.Timer t ms what)
timer_shows_none b t ms what = unchanged b (action.Timer t ms what) refl refl refl refl
    (λ shown l may h q. timer_tells (IsQuiet shown) (b.link l) l what (λ on k is e. record { quiet = q.quiet; tells = q.tells }) (λ on is e. record { quiet = q.quiet; tells = q.tells }) q)

-- a write
write_shows_none : (b : Book) (m : ℕ) (bytes : List ℕ) → ShowsNone b (action.Write m bytes)
write_shows_none b m bytes = unchanged b (action.Write m bytes) refl refl refl refl
    (λ shown l may h q. mine_keeps (IsQuiet shown) (m == l) (b.link l) (offers bytes) (λ t. record { quiet = q.quiet; tells = q.tells }) q)

-- a start
start_shows_none : (b : Book) (m k n round count len : ℕ) → ShowsNone b (action.Start m k (owner.Try n round) count len)
start_shows_none b m k n round count len = unchanged b (action.Start m k (owner.Try n round) count len) refl refl refl refl
    (λ shown l may h q. mine_keeps (IsQuiet shown) (m == l) (b.link l) (begins (message_of b m (owner.Try n round))) (λ t. begins_quiet shown (b.link l) (message_of b m (owner.Try n round)) refl q) q)

-- a message
message_shows_none : (b : Book) (msg : Msg) → ShowsNone b (action.Message msg)
message_shows_none b msg = unchanged b (action.Message msg) refl refl refl refl
    (λ shown l may h q. tell_keeps (IsQuiet shown) (b.current == l) (b.link l) (record { quiet = q.quiet; tells = q.tells }) q)

-- what a monitor reports
report_shows_none : (b : Book) (v : Value) → ShowsNone b (action.Monitor v)
report_shows_none b v = unchanged b (action.Monitor v) refl refl refl refl
    (λ shown l may h q. tell_keeps (IsQuiet shown) (b.current == l) (b.link l) (record { quiet = q.quiet; tells = q.tells }) q)

-- MONITOR
watch_shows_none : (b : Book) (m k count len : ℕ) → ShowsNone b (action.Start m k owner.Monitor count len)
watch_shows_none b m k count len = unchanged b (action.Start m k owner.Monitor count len) refl refl refl refl
    (λ shown l may h q. mine_keeps (IsQuiet shown) (m == l) (b.link l) (begins (message_of b m owner.Monitor)) (λ t. begins_quiet shown (b.link l) (message_of b m owner.Monitor) refl q) q)

-- what is subscribed again
repeat_shows_none : (b : Book) (m k count len : ℕ) → ShowsNone b (action.Start m k owner.Resub count len)
repeat_shows_none b m k count len = unchanged b (action.Start m k owner.Resub count len) refl refl refl refl
    (λ shown l may h q. mine_keeps (IsQuiet shown) (m == l) (b.link l) (begins (message_of b m owner.Resub)) (λ t. begins_quiet shown (b.link l) (message_of b m owner.Resub) refl q) q)

-- new credentials
renew_shows_none : (b : Book) (m k count len : ℕ) → ShowsNone b (action.Start m k owner.Auth count len)
renew_shows_none b m k count len = unchanged b (action.Start m k owner.Auth count len) refl refl refl refl
    (λ shown l may h q. mine_keeps (IsQuiet shown) (m == l) (b.link l) (begins (message_of b m owner.Auth)) (λ t. begins_quiet shown (b.link l) (message_of b m owner.Auth) refl q) q)

-- a setup, which starts where none is over
setup_shows_none : (b : Book) (m k count len : ℕ) → ShowsNone b (action.Start m k owner.Setup count len)
setup_shows_none b m k count len = unchanged b (action.Start m k owner.Setup count len) refl refl refl refl
    (λ shown l may h q. mine_keeps (IsQuiet shown) (m == l) (b.link l) (begins (message_of b m owner.Setup))
    (λ t. absurd (setup_is_open b m l k count len shown may (eq_from m l t) q)) q)

-- where nothing is shown, what was shown stays
nothing_more : (b : Book) (shown : List (Option RedisError)) → ToldIn shown b → ToldIn (shown ++ []) b
nothing_more b shown told = subst (λ s. ToldIn s b) (sym (append-nil shown)) told

-- so with what shows nothing
still_told : (b : Book) (shown : List (Option RedisError)) (a : Action) → ShowsNone b a → MayStand b a → Sound b → ToldIn shown b → ToldIn (shown ++ []) (entered b a)
still_told b shown a none may h told = nothing_more (entered b a) shown (none shown may h told)

-- and with each action that may stand
step_told : (b : Book) (shown : List (Option RedisError)) (a : Action) → MayStand b a → Sound b → ToldIn shown b → ToldIn (shown ++ shown_by a) (entered b a)
step_told b shown (action.Created e) may h told =
    subst (λ s. ToldIn (s ++ e ∷ []) (entered b (action.Created e))) (sym (nil_from_length shown (told.counted ∙ none_before b e may))) (creation_told b e may h)
step_told b shown (action.Turn k (cause.Opening config word)) may h told = still_told b shown (action.Turn k (cause.Opening config word)) (opening_shows_none b k config word) may h told
step_told b shown (action.Turn k (cause.Event e)) may h told = still_told b shown (action.Turn k (cause.Event e)) (turn_shows_none b k e) may h told
step_told b shown (action.Connect m host port) may h told = still_told b shown (action.Connect m host port) (connect_shows_none b m host port) may h told
step_told b shown (action.Timer t ms what) may h told = still_told b shown (action.Timer t ms what) (timer_shows_none b t ms what) may h told
step_told b shown (action.Took owner.Setup l count) may h told = absurd may
step_told b shown (action.Took owner.Auth l count) may h told = absurd may
step_told b shown (action.Took owner.Resub l count) may h told = absurd may
step_told b shown (action.Took owner.Monitor l count) may h told = absurd may
step_told b shown (action.Took (owner.Try n round) l count) may h told = still_told b shown (action.Took (owner.Try n round) l count) (unchanged b (action.Took (owner.Try n round) l count) refl refl refl refl (λ s j m h q. q)) may h told
step_told b shown (action.Push m info) may h told = still_told b shown (action.Push m info) (push_shows_none b m info) may h told
step_told b shown (action.Message msg) may h told = still_told b shown (action.Message msg) (message_shows_none b msg) may h told
step_told b shown (action.Monitor v) may h told = still_told b shown (action.Monitor v) (report_shows_none b v) may h told
step_told b shown (action.NeedCreds c m) may h told = still_told b shown (action.NeedCreds c m) (need_shows_none b c m) may h told
step_told b shown (action.Generation g) may h told = still_told b shown (action.Generation g) (unchanged b (action.Generation g) refl refl refl refl (λ s l m h q. q)) may h told
step_told b shown (action.Round owner.Setup on) may h told = absurd may
step_told b shown (action.Round owner.Auth on) may h told = absurd may
step_told b shown (action.Round owner.Resub on) may h told = absurd may
step_told b shown (action.Round owner.Monitor on) may h told = absurd may
step_told b shown (action.Round (owner.Try n round) on) may h told = still_told b shown (action.Round (owner.Try n round) on) (unchanged b (action.Round (owner.Try n round) on) refl refl refl refl (λ s j k h q. q)) may h told
step_told b shown (action.Close m) may h told = still_told b shown (action.Close m) (close_shows_none b m) may h told
step_told b shown (action.Write m bytes) may h told = still_told b shown (action.Write m bytes) (write_shows_none b m bytes) may h told
step_told b shown (action.Wait owner.Setup kind) may h told = absurd may
step_told b shown (action.Wait owner.Auth kind) may h told = absurd may
step_told b shown (action.Wait owner.Resub kind) may h told = absurd may
step_told b shown (action.Wait owner.Monitor kind) may h told = absurd may
step_told b shown (action.Wait (owner.Try n round) kind) may h told = still_told b shown (action.Wait (owner.Try n round) kind) (unchanged b (action.Wait (owner.Try n round) kind) refl refl refl refl (λ s l m h q. q)) may h told
step_told b shown (action.Start m k owner.Setup count len) may h told = still_told b shown (action.Start m k owner.Setup count len) (setup_shows_none b m k count len) may h told
step_told b shown (action.Start m k owner.Auth count len) may h told = still_told b shown (action.Start m k owner.Auth count len) (renew_shows_none b m k count len) may h told
step_told b shown (action.Start m k owner.Resub count len) may h told = still_told b shown (action.Start m k owner.Resub count len) (repeat_shows_none b m k count len) may h told
step_told b shown (action.Start m k owner.Monitor count len) may h told = still_told b shown (action.Start m k owner.Monitor count len) (watch_shows_none b m k count len) may h told
step_told b shown (action.Start m k (owner.Try n round) count len) may h told = still_told b shown (action.Start m k (owner.Try n round) count len) (start_shows_none b m k n round count len) may h told
step_told b shown (action.Outcome n o) may h told = still_told b shown (action.Outcome n o) (unchanged b (action.Outcome n o) refl refl refl refl (λ s l m h q. q)) may h told

-- and actions behind one another
each_told : (b : Book) (shown : List (Option RedisError)) (trace : List Action) → AllStand b trace → Sound b → ToldIn shown b → ToldIn (shown ++ creations trace) (entered_each b trace)
each_told b shown [] all h told = nothing_more b shown told
each_told b shown (a ∷ more) all h told =
    subst (λ s. ToldIn s (entered_each (entered b a) more)) (append_assoc shown (shown_by a) (creations more))
    (each_told (entered b a) (shown ++ shown_by a) more all.1 (stays_sound b a all.0 h) (step_told b shown a all.0 h told))

-- so what a front shows is told in its book
pub told_behind : (front : List Action) → AllStand blank_book front → ToldIn (creations front) (book front)
unfolding book
told_behind front all = each_told blank_book [] front all blank_is_sound (record { counted = refl; once = omega arith; begun = λ c. absurd (c refl); linked = λ plain c. absurd (c refl); quiet = λ plain c. absurd (c refl); fails = λ e is. absurd (cc is); caused = λ e is. absurd (cc is) })

-- what a failed opening is owed as
error_of_failure : (why : Ending) (e : RedisError) → failure_of why ≡ Some e → owed_by why ≡ Some (outcome.Fault e)
error_of_failure by_shutdown e fails = absurd (cc fails)
error_of_failure (by_fault f) e fails = absurd (cc fails)
error_of_failure (by_opening x) e fails = ap (λ y. Some (outcome.Fault y)) (same_some x e fails)
error_of_failure (by_attempt x) e fails = absurd (cc fails)

-- where the link of a submission without a message has ended so
owed_by_failure : (o : Option End) (e : RedisError) → failure_in o ≡ Some e → owed_unstarted o ≡ Some (outcome.Fault e)
owed_by_failure None e fails = absurd (cc fails)
owed_by_failure (Some end) e fails = error_of_failure end.why e fails

-- a list that isn't empty has a length
has_length : (bs : List ℕ) → bs ≢ [] → (length bs == 0) ≡ false
has_length bs some = ne_test (length bs) 0 (λ none. some (nil_from_length bs none))

-- such a submission is owed the error of its opening
unopened_owed : (b : Book) (n : ℕ) (e : RedisError) → Sound b → TimesRun b → IsUnopened b n e → owed b n ≡ Some (outcome.Fault e)
unopened_owed b n e h run u =
    let over = failed_is_over (link_of b n).end e u.failed in
    let asked : (link_of b n).asked ≡ true = h.links.asked (b.story n).link (over_is_numbered b (b.story n).link over.0 h.links over.1) in
    let runs : (b.story n).overdue ≡ false = by_test (b.story n).overdue ((b.story n).overdue ≡ false) (λ t. absurd (failed_in_time b n e run u.failed t)) (λ f. f) in
    left_if (b.story n).late _ _ u.in_time
    ∙ (left_if (b.story n).unspoken _ _ u.spoken
    ∙ (left_if (length (bytes_of (b.story n)) == 0) _ _ (has_length (bytes_of (b.story n)) u.some)
    ∙ (left_if (b.story n).overdue _ _ runs
    ∙ (ap (λ (ts : List Try). owed_to_try b (b.story n) (last_of ts)) u.unstarted
    ∙ (left_if (b.shut && not (link_of b n).asked) _ _ (none_of b.shut (not (link_of b n).asked) (ap not asked)) ∙ owed_by_failure (link_of b n).end e u.failed)))))
  where
    none_of : (p q : Bool) → q ≡ false → (p && q) ≡ false
    none_of true q e = e
    none_of false q e = refl

-- so it is answered with that, behind the creation
unopened_answered : (front : List Action) (n : ℕ) (o : Outcome) (e : RedisError) → AllStand blank_book front → MayAnswer (book front) n o → IsUnopened (book front) n e → (o ≡ outcome.Fault e) × (has_generations (book front) ≡ false → creations front ≡ Some e ∷ [])
unopened_answered front n o e all may u =
    let b = book front in
    let over = failed_is_over (link_of b n).end e u.failed in
    let done = may.after_closes (ap is_some over.1) in (
      same_some o (outcome.Fault e) (sym may.owes ∙ unopened_owed b n e (sound_behind front all) (times_run front all) u),
      λ plain. ((told_behind front all).quiet plain (done.2 (b.story n).link e u.failed) (b.story n).link).tells e u.failed,
    )

-- and is told nothing at its place
outcome_tells : (front : List Action) (n : ℕ) (o : Outcome) (e : RedisError) → AllStand blank_book front → MayAnswer (book front) n o ⊎ MayTell (book front) n o → IsUnopened (book front) n e → (o ≡ outcome.Fault e) × (has_generations (book front) ≡ false → creations front ≡ Some e ∷ [])
outcome_tells front n o e all (inl owes) u = unopened_answered front n o e all owes u
outcome_tells front n o e all (inr told) u =
    let b = book front in
    let over = failed_is_over (link_of b n).end e u.failed in
    absurd (not_none (link_of b n).end over.0 ((sound_behind front all).up (b.story n).link (mover_is_up b n (teller_moves b n o told))) over.1)

-- each outcome of a legal trace
answers_tell : (trace : List Action) → AllStand blank_book trace → AnswersTell trace
unfolding book
answers_tell trace all front more n o e is u =
    let whole : AllStand blank_book (front ++ action.Outcome n o ∷ more) = subst (AllStand blank_book) is all in
    outcome_tells front n o e (stand_front blank_book front (action.Outcome n o ∷ more) whole) (stand_behind blank_book front (action.Outcome n o ∷ more) whole).0 u

-- where the opening of the current link failed, it is the last one
failed_is_last : (b : Book) (e : RedisError) → Sound b → HasFailed b b.current e → b.current + 1 ≡ b.links
failed_is_last b e h fails =
    let over = failed_is_over (current_link b).end e fails in
    let i : b.current < b.links = over_is_numbered b b.current over.0 h.links over.1 in
    elim h.lives.near [ inl next ↦ absurd (omega (arith, i, next)) | inr last ↦ last ]

-- so it is of a legal trace
pub opening_is_told : (config : Config) (word : ℕ) (events : List Event) (trace : List Action) → Legal config word events trace → TellsOfOpening trace
opening_is_told config word events trace h =
    let t = told_behind trace h.each in
    let done = h.settled.written.moved.begun.applied in
    record {
      once = subst (λ n. n ≤ 1) (sym t.counted) t.once;
      told = λ plain l e fails. (t.quiet plain (done.shown.created.failed l e fails) l).tells e fails;
      caused = λ e is. ((book trace).current, t.caused e is, failed_is_last (book trace) e (sound_behind trace h.each) (t.caused e is));
      answered = answers_tell trace h.each;
      none_left = λ n e u o. not_none (owed (book trace) n) (outcome.Fault e) (done.shown.answered n o) (unopened_owed (book trace) n e (sound_behind trace h.each) (times_run trace h.each) u);
    }
