-- All that came is told where it is heard, once and in order.
use Rattle.std.proofs.Common.{◌≡◌, ◌⊎◌, inl, inr, ℕ, zero, suc, ◌+◌, ◌-◌, ◌<◌, ◌≤◌, ◌==◌, Bool, true, false, ◌&&◌, not, List, [], ◌∷◌, ◌++◌, length, take, Some, None, if◌then◌else◌, refl, sym, ◌∙◌, ap, subst, append_assoc, arith, length-append}
use Rattle.std.specs.Prelude.{slice_get}
use Rattle.std.proofs.lemmas.List.{append-nil, take-append-le}
use Rattle.containers.proofs.Choices.{by_test, chosen, taken_if, left_if, eq_from, not_both}
use Rattle.redis_error.specs.declared.redis_error.RedisError.TheVariants as error
use Rattle.driver_model.specs.declared.action.Action.{Action}
use Rattle.driver_model.specs.declared.action.Action.TheVariants as action
use Rattle.driver_model.specs.declared.action.Cause.TheVariants as cause
use Rattle.driver_model.specs.declared.config.Config.{Config}
use Rattle.driver_model.specs.declared.event.Event.{Event}
use Rattle.driver_model.specs.declared.push_info.PushInfo.{PushInfo}
use Rattle.driver_model.specs.Config.{hearing_of}
use Rattle.driver_model.specs.Hearing.{hears_something}
use Rattle.driver_model.specs.declared.hearing.Notice.{Notice}
use Rattle.driver_model.specs.declared.hearing.Notice.TheVariants as notice
use Rattle.driver_model.specs.News.{News, silence, connected, refused, overdue, took, came, failed, dropped, shut, news_of, authorized, denied, deserted, renewed, unrenewed, late, unrepeated}
use Rattle.driver_model.specs.Push.{is_disconnection}
use Rattle.legal_trace.specs.Ledger.{Ledger, Heard, asks, hears, begins, offers, tells, ends, parts, noted, noted_each, refused_in, bytes_came, is_over, dials, next_notice, sources, awaits_credentials, authorized_by, may_renew, renewed_by, unrenewed_by, is_renewal_open, lost_by, is_repeating, unrepeated_by}
use Rattle.legal_trace.specs.Managers.{settings_in, is_last}
use Rattle.legal_trace.specs.Book.{Book, blank_book, book, entered, entered_each, if_mine, push_line, info_in, message_of, wanted_in, hearing_in}
use Rattle.legal_trace.specs.Legal.{MayStand, MayNotify, MayPart, MayPush, MayPushBy, AllStand, IsSettled, is_heard, Legal}
use Rattle.legal_trace.specs.Again.{repeats_in}
use Rattle.legal_trace.proofs.Clocks.{timer_tells}
use Rattle.legal_trace.proofs.Books.{stand_front}
use Rattle.legal_trace.proofs.Ledgers.{mine_keeps}
use Rattle.legal_trace.proofs.Plain.{same_some}
use Rattle.legal_trace.proofs.Came.{holds_bytes}
use Rattle.legal_laws.specs.Notices.{told_by, told_each, notices_told, said_by, IsWhole, Tells, TellsEach}
use Rattle.legal_laws.proofs.Links.Bounds.{ready_behind, next_may, applied_began}

-- what may tell that a link has ended, and what may tell a push that came
pub parting_of : (b : Book) (l : ℕ) (info : PushInfo) → is_disconnection info.kind ≡ true → MayPush b l info → MayPart b l info
parting_of b l info e may = subst (λ t. MayPushBy t b l info) e may

noting_of : (b : Book) (l : ℕ) (info : PushInfo) → is_disconnection info.kind ≡ false → MayPush b l info → MayNotify b l (notice.Push info)
noting_of b l info e may = subst (λ t. MayPushBy t b l info) e may

-- what an action tells
pub telling : (b : Book) (l : ℕ) (a : Action) → MayStand b a → Tells b l a → (n : Notice) × MayNotify b l n
telling b l (action.Push m info) may is = (notice.Push info, subst (λ j. MayNotify b j (notice.Push info)) is.0 (noting_of b m info is.1 may))
telling b l (action.Message msg) may is = (notice.Message msg, subst (λ j. MayNotify b j (notice.Message msg)) is may)
telling b l (action.Monitor v) may is = (notice.Monitor v, subst (λ j. MayNotify b j (notice.Monitor v)) is may)
telling b l _ may is = absurd is

-- of a second ledger: nothing was told that wasn't in the first, and what came stands behind what had come
pub record GoesOn (l m : Ledger) : Type 0 where
  pub told : m.told ≡ l.told
  pub more : List Heard
  pub notices : m.notices ≡ l.notices ++ more

-- each goes on from itself
same_notices : (l m : Ledger) → m.told ≡ l.told → m.notices ≡ l.notices → GoesOn l m
same_notices l m told notices = record { told = told; more = []; notices = notices ∙ sym (append-nil l.notices) }

-- so it does with news
hears_on : (l : Ledger) (turn : ℕ) (news : News) → GoesOn l (noted l (hears turn news))
hears_on l turn silence = same_notices l _ refl refl
hears_on l turn connected = chosen (λ (x : Ledger). GoesOn l (record x { heard = connected })) (is_over l) l (record l { up = true }) (λ t. same_notices l _ refl refl) (λ e. same_notices l _ refl refl)
hears_on l turn (refused f) = chosen (λ (x : Ledger). GoesOn l (record x { heard = refused f })) (dials l) (refused_in l turn (error.Io f)) l (λ t. same_notices l _ refl refl) (λ e. same_notices l _ refl refl)
hears_on l turn overdue = same_notices l _ refl refl
hears_on l turn (took count) = chosen (λ (x : Ledger). GoesOn l (record x { heard = took count })) l.up (record l { taken = l.taken ++ take count l.offer; offer = [] }) l (λ t. same_notices l _ refl refl) (λ e. same_notices l _ refl refl)
hears_on l turn (came piece) = chosen (λ (x : Ledger). GoesOn l (record x { heard = came piece })) l.up (bytes_came l piece) l (λ t. holds_bytes (λ (x : Ledger). GoesOn l (record x { heard = came piece })) l piece (λ rest strange told more. record { told = refl; more = told; notices = refl })) (λ e. same_notices l _ refl refl)
hears_on l turn (failed f) = same_notices l _ refl refl
hears_on l turn (authorized c) = chosen (λ (x : Ledger). GoesOn l (record x { heard = authorized c })) (awaits_credentials l) (authorized_by l c) l (λ t. same_notices l _ refl refl) (λ e. same_notices l _ refl refl)
hears_on l turn (denied text) = same_notices l _ refl refl
hears_on l turn deserted = same_notices l _ refl refl
hears_on l turn (renewed c) = chosen (λ (x : Ledger). GoesOn l (record x { heard = renewed c })) (may_renew l) (renewed_by l c) l (λ t. same_notices l _ refl refl) (λ e. same_notices l _ refl refl)
hears_on l turn unrenewed = chosen (λ (x : Ledger). GoesOn l (record x { heard = unrenewed })) l.up (unrenewed_by l) l (λ t. same_notices l _ refl refl) (λ e. same_notices l _ refl refl)
hears_on l turn (late k) = chosen (λ (x : Ledger). GoesOn l (record x { heard = late k })) (l.up && is_renewal_open l k) (lost_by l) l (λ t. same_notices l _ refl refl) (λ e. same_notices l _ refl refl)
hears_on l turn unrepeated = chosen (λ (x : Ledger). GoesOn l (record x { heard = unrepeated })) (is_repeating l) (unrepeated_by l) l (λ t. same_notices l _ refl refl) (λ e. same_notices l _ refl refl)
hears_on l turn dropped = same_notices l _ refl refl
hears_on l turn shut = same_notices l _ refl refl

-- an action tells nothing that came on link l, which goes on
pub record TellsNothing (b : Book) (l : ℕ) (a : Action) : Type 0 where
  pub none : told_by b l a ≡ []
  pub goes : GoesOn (b.link l) ((entered b a).link l)

-- or it tells the next
pub record TellsNext (b : Book) (l : ℕ) (a : Action) : Type 0 where
  pub heard : Heard
  pub next : next_notice (b.link l) ≡ Some heard
  pub one : told_by b l a ≡ heard.what ∷ []
  pub told : ((entered b a).link l).told ≡ (b.link l).told + 1
  pub notices : ((entered b a).link l).notices ≡ (b.link l).notices

-- where it is none that tells
no_notice : (b : Book) (l : ℕ) (a : Action) → told_by b l a ≡ [] → GoesOn (b.link l) ((entered b a).link l) → TellsNothing b l a ⊎ TellsNext b l a
no_notice b l a none goes = inl (record { none = none; goes = goes })

-- a push that tells nothing of link l
other_push : (b : Book) (l m : ℕ) (info : PushInfo) → ((m == l) && not (is_disconnection info.kind)) ≡ false → TellsNothing b l (action.Push m info)
other_push b l m info e = record {
  none = left_if ((m == l) && not (is_disconnection info.kind)) (notice.Push info ∷ []) [] e;
  goes = mine_keeps (GoesOn (b.link l)) (m == l) (b.link l) (push_line info.kind)
      (λ t. chosen (λ x. GoesOn (b.link l) (noted (b.link l) x)) (is_disconnection info.kind) parts tells
      (λ d. same_notices (b.link l) _ refl refl)
      (λ n. absurd (not_both ((m == l) && not (is_disconnection info.kind)) e (ap (λ x. x && not (is_disconnection info.kind)) t ∙ ap (λ x. true && not x) n))))
      (same_notices (b.link l) (b.link l) refl refl);
}

-- what is told of link l, where an action that may stand tells it
next_told : (b : Book) (l : ℕ) (n : Notice) (a : Action) → told_by b l a ≡ n ∷ [] → (entered b a).link l ≡ noted (b.link l) tells → MayNotify b l n → TellsNext b l a
next_told b l n a one e may = record {
  heard = may.heard;
  next = may.next;
  one = one ∙ ap (λ x. x ∷ []) may.says;
  told = ap (λ (x : Ledger). x.told) e;
  notices = ap (λ (x : Ledger). x.notices) e;
}

-- a push that tells one
push_told : (b : Book) (l m : ℕ) (info : PushInfo) → MayPush b m info → (m == l) ≡ true → is_disconnection info.kind ≡ false → TellsNext b l (action.Push m info)
push_told b l m info may mine real =
    next_told b l (notice.Push info) (action.Push m info)
    (taken_if ((m == l) && not (is_disconnection info.kind)) (notice.Push info ∷ []) [] (ap (λ x. x && not (is_disconnection info.kind)) mine ∙ ap (λ x. true && not x) real))
    (ap (λ t. noted_each (b.link l) (if_mine t (push_line info.kind))) mine ∙ ap (λ t. noted (b.link l) (if t then parts else tells)) real)
    (subst (λ j. MayNotify b j (notice.Push info)) (eq_from m l mine) (noting_of b m info real may))

-- what tells it of the link that submissions go to does one of the two
current_told : (b : Book) (l : ℕ) (n : Notice) (a : Action) → told_by b l a ≡ (if b.current == l then n ∷ [] else []) → (entered b a).link l ≡ noted_each (b.link l) (if_mine (b.current == l) tells)
    → MayNotify b b.current n → TellsNothing b l a ⊎ TellsNext b l a
current_told b l n a told e may = by_test (b.current == l) (TellsNothing b l a ⊎ TellsNext b l a)
    (λ t. inr (next_told b l n a (told ∙ taken_if (b.current == l) (n ∷ []) [] t) (e ∙ ap (λ mine. noted_each (b.link l) (if_mine mine tells)) t) (subst (λ j. MayNotify b j n) (eq_from b.current l t) may)))
    (λ f. inl (record {
      none = told ∙ left_if (b.current == l) (n ∷ []) [] f;
      goes = same_notices (b.link l) ((entered b a).link l) (ap (λ (x : Ledger). x.told) (e ∙ ap (λ mine. noted_each (b.link l) (if_mine mine tells)) f)) (ap (λ (x : Ledger). x.notices) (e ∙ ap (λ mine. noted_each (b.link l) (if_mine mine tells)) f));
    }))

-- of two that both hold, each does
both_hold_of : (p q : Bool) → (p && not q) ≡ true → (p ≡ true) × (q ≡ false)
both_hold_of true false e = (refl, refl)
both_hold_of true true e = absurd (cc e)
both_hold_of false q e = absurd (cc e)

-- each action that may stand does one of the two
step_tells : (b : Book) (l : ℕ) (a : Action) → MayStand b a → TellsNothing b l a ⊎ TellsNext b l a
step_tells b l (action.Push m info) may = by_test ((m == l) && not (is_disconnection info.kind)) (TellsNothing b l (action.Push m info) ⊎ TellsNext b l (action.Push m info))
    (λ t. let both = both_hold_of (m == l) (is_disconnection info.kind) t in inr (push_told b l m info may both.0 both.1))
    (λ f. inl (other_push b l m info f))
step_tells b l (action.Message msg) may = current_told b l (notice.Message msg) (action.Message msg) refl refl may
step_tells b l (action.Monitor v) may = current_told b l (notice.Monitor v) (action.Monitor v) refl refl may
step_tells b l (action.Turn k (cause.Opening config word)) may = no_notice b l (action.Turn k (cause.Opening config word)) refl (same_notices (b.link l) (b.link l) refl refl)
step_tells b l (action.Turn k (cause.Event e)) may = no_notice b l (action.Turn k (cause.Event e)) refl (hears_on (b.link l) k (news_of b.timers b.sources l e.kind))
step_tells b l (action.Connect m host port) may = no_notice b l (action.Connect m host port) refl (mine_keeps (GoesOn (b.link l)) (m == l) (b.link l) (asks (info_in b.config) (wanted_in b.config) (hearing_in b.config) (is_last (settings_in b.config) b.attempt) (repeats_in (settings_in b.config) b.tracked)) (λ t. same_notices (b.link l) _ refl refl) (same_notices (b.link l) (b.link l) refl refl))
step_tells b l (action.Timer t ms what) may = no_notice b l (action.Timer t ms what) refl (timer_tells (GoesOn (b.link l)) (b.link l) l what (λ on k is t. same_notices (b.link l) _ refl refl) (λ on is t. same_notices (b.link l) _ refl refl) (same_notices (b.link l) (b.link l) refl refl))
step_tells b l (action.Took who m count) may = no_notice b l (action.Took who m count) refl (same_notices (b.link l) (b.link l) refl refl)
step_tells b l (action.NeedCreds c m) may = no_notice b l (action.NeedCreds c m) refl (mine_keeps (GoesOn (b.link l)) (m == l) (b.link l) sources (λ t. same_notices (b.link l) _ refl refl) (same_notices (b.link l) (b.link l) refl refl))
step_tells b l (action.Generation g) may = no_notice b l (action.Generation g) refl (same_notices (b.link l) (b.link l) refl refl)
step_tells b l (action.Round who m) may = no_notice b l (action.Round who m) refl (same_notices (b.link l) (b.link l) refl refl)
step_tells b l (action.Close m) may = no_notice b l (action.Close m) refl (mine_keeps (GoesOn (b.link l)) (m == l) (b.link l) (ends (b.turns - 1)) (λ t. same_notices (b.link l) _ refl refl) (same_notices (b.link l) (b.link l) refl refl))
step_tells b l (action.Write m bytes) may = no_notice b l (action.Write m bytes) refl (mine_keeps (GoesOn (b.link l)) (m == l) (b.link l) (offers bytes) (λ t. same_notices (b.link l) _ refl refl) (same_notices (b.link l) (b.link l) refl refl))
step_tells b l (action.Wait who kind) may = no_notice b l (action.Wait who kind) refl (same_notices (b.link l) (b.link l) refl refl)
step_tells b l (action.Start m k who count len) may = no_notice b l (action.Start m k who count len) refl (mine_keeps (GoesOn (b.link l)) (m == l) (b.link l) (begins (message_of b m who)) (λ t. same_notices (b.link l) _ refl refl) (same_notices (b.link l) (b.link l) refl refl))
step_tells b l (action.Created e) may = no_notice b l (action.Created e) refl (same_notices (b.link l) (b.link l) refl refl)
step_tells b l (action.Outcome n o) may = no_notice b l (action.Outcome n o) refl (same_notices (b.link l) (b.link l) refl refl)

-- these were told of a link: the first of those that came
pub record IsSaid (shown : List Notice) (l : Ledger) : Type 0 where
  pub within : l.told ≤ length l.notices
  pub said : shown ≡ said_by (take l.told l.notices)

-- what is said one behind another
said_more : (hs : List Heard) (h : Heard) → said_by (hs ++ h ∷ []) ≡ said_by hs ++ h.what ∷ []
said_more [] h = refl
said_more (x ∷ hs) h = ap (λ (is : List Notice). x.what ∷ is) (said_more hs h)

-- the first of a list and the next
take_next : (hs : List Heard) (k : ℕ) (h : Heard) → slice_get hs k ≡ Some h → take (k + 1) hs ≡ take k hs ++ h ∷ []
take_next [] k h e = absurd (cc e)
take_next (x ∷ hs) zero h e = ap (λ (y : Heard). y ∷ []) (same_some x h e)
take_next (x ∷ hs) (suc k) h e =
    let one : suc k + 1 ≡ suc (k + 1) = omega arith in
    ap (λ n. take n (x ∷ hs)) one ∙ ap (λ (ys : List Heard). x ∷ ys) (take_next hs k h e)

-- what stands in a list is within it
get_within : (hs : List Heard) (k : ℕ) (h : Heard) → slice_get hs k ≡ Some h → k < length hs
get_within [] k h e = absurd (cc e)
get_within (x ∷ hs) zero h e = omega arith
get_within (x ∷ hs) (suc k) h e = omega (arith, get_within hs k h e)

-- where nothing is told
said_on : (shown : List Notice) (l m : Ledger) → GoesOn l m → IsSaid shown l → IsSaid (shown ++ []) m
said_on shown l m on h = record {
  within =
      let i : l.told ≤ length l.notices = h.within in
      let e : length m.notices ≡ length l.notices + length on.more = ap (λ (hs : List Heard). length hs) on.notices ∙ length-append l.notices on.more in
      let t : m.told ≡ l.told = on.told in omega (arith, i, e, t);
  said = append-nil shown ∙ (h.said ∙ ap said_by (sym (ap (λ k. take k m.notices) on.told ∙ (ap (take l.told) on.notices ∙ take-append-le l.told l.notices on.more h.within))));
}

-- where the next one is
said_next : (shown : List Notice) (l m : Ledger) (p : Heard) → next_notice l ≡ Some p → m.told ≡ l.told + 1 → m.notices ≡ l.notices → IsSaid shown l → IsSaid (shown ++ p.what ∷ []) m
said_next shown l m p next told notices h = record {
  within =
      let i : l.told < length l.notices = get_within l.notices l.told p next in
      let e : length m.notices ≡ length l.notices = ap (λ (hs : List Heard). length hs) notices in omega (arith, i, e, told);
  said = ap (λ (is : List Notice). is ++ p.what ∷ []) h.said
      ∙ (sym (said_more (take l.told l.notices) p) ∙ ap said_by (sym (ap (λ k. take k m.notices) told ∙ (ap (take (l.told + 1)) notices ∙ take_next l.notices l.told p next))));
}

-- so with each action that may stand
step_said : (b : Book) (l : ℕ) (shown : List Notice) (a : Action) → MayStand b a → IsSaid shown (b.link l) → IsSaid (shown ++ told_by b l a) ((entered b a).link l)
step_said b l shown a may h = elim (step_tells b l a may) [
  | inl nothing ↦ subst (λ (is : List Notice). IsSaid (shown ++ is) ((entered b a).link l)) (sym nothing.none) (said_on shown (b.link l) ((entered b a).link l) nothing.goes h)
  | inr next ↦ subst (λ (is : List Notice). IsSaid (shown ++ is) ((entered b a).link l)) (sym next.one) (said_next shown (b.link l) ((entered b a).link l) next.heard next.next next.told next.notices h)
]

-- and with many
pub each_said : (b : Book) (l : ℕ) (shown : List Notice) (trace : List Action) → AllStand b trace → IsSaid shown (b.link l) → IsSaid (shown ++ told_each b l trace) ((entered_each b trace).link l)
each_said b l shown [] all h = subst (λ (is : List Notice). IsSaid is (b.link l)) (sym (append-nil shown)) h
each_said b l shown (a ∷ more) all h =
    subst (λ (is : List Notice). IsSaid is ((entered_each (entered b a) more).link l)) (append_assoc shown (told_by b l a) (told_each (entered b a) l more))
    (each_said (entered b a) l (shown ++ told_by b l a) more all.1 (step_said b l shown a all.0 h))

-- a list of which no more stands is taken whole
take_whole : (hs : List Heard) (k : ℕ) → slice_get hs k ≡ None → take k hs ≡ hs
take_whole [] zero e = refl
take_whole [] (suc k) e = refl
take_whole (x ∷ hs) zero e = absurd (cc e)
take_whole (x ∷ hs) (suc k) e = ap (λ (ys : List Heard). x ∷ ys) (take_whole hs k e)

-- where none waits, all that came were told
pub all_said : (l : ℕ) (front : List Action) → AllStand blank_book front → next_notice ((book front).link l) ≡ None → notices_told l front ≡ said_by ((book front).link l).notices
unfolding book
all_said l front all none =
    let h = each_said blank_book l [] front all (record { within = omega arith; said = refl }) in
    h.said ∙ ap said_by (take_whole ((book front).link l).notices ((book front).link l).told none)

-- a turn that is over is settled
pub settled_whole : (config : Config) (word : ℕ) (events : List Event) (front more : List Action) → Legal config word events (front ++ more) → IsWhole more → IsSettled (book front)
settled_whole config word events front [] h whole = subst (λ t. IsSettled (book t)) (append-nil front) h.settled
settled_whole config word events front (action.Turn k (cause.Event e) ∷ more) h whole = (next_may config word events front more (action.Turn k (cause.Event e)) h).is_for.1
settled_whole config word events front (action.Turn k (cause.Opening c w) ∷ more) h whole = absurd whole
settled_whole config word events front (action.Connect l host port ∷ more) h whole = absurd whole
settled_whole config word events front (action.Timer t ms what ∷ more) h whole = absurd whole
settled_whole config word events front (action.Took who l count ∷ more) h whole = absurd whole
settled_whole config word events front (action.Push l info ∷ more) h whole = absurd whole
settled_whole config word events front (action.Message msg ∷ more) h whole = absurd whole
settled_whole config word events front (action.Monitor v ∷ more) h whole = absurd whole
settled_whole config word events front (action.NeedCreds c l ∷ more) h whole = absurd whole
settled_whole config word events front (action.Generation g ∷ more) h whole = absurd whole
settled_whole config word events front (action.Round who l ∷ more) h whole = absurd whole
settled_whole config word events front (action.Close l ∷ more) h whole = absurd whole
settled_whole config word events front (action.Write l bytes ∷ more) h whole = absurd whole
settled_whole config word events front (action.Wait who kind ∷ more) h whole = absurd whole
settled_whole config word events front (action.Start l k who count len ∷ more) h whole = absurd whole
settled_whole config word events front (action.Created e ∷ more) h whole = absurd whole
settled_whole config word events front (action.Outcome n o ∷ more) h whole = absurd whole

-- the front of a legal trace
pub front_stands : (config : Config) (word : ℕ) (events : List Event) (front more : List Action) → Legal config word events (front ++ more) → AllStand blank_book front
front_stands config word events front more h = stand_front blank_book front more h.each

-- so a legal trace tells all that came, where it is heard
pub tells_each : (config : Config) (word : ℕ) (events : List Event) (trace : List Action) → Legal config word events trace → hears_something (hearing_of config) ≡ true → TellsEach trace
tells_each config word events trace h some front more l is whole =
    let legal : Legal config word events (front ++ more) = subst (Legal config word events) is h in
    let ready = ready_behind config word events front more legal in
    let settled = settled_whole config word events front more legal whole in
    let done = settled.written.moved.begun.applied in
    let heard : is_heard (book front) ≡ true = ap (λ config. hears_something (hearing_in config)) (ready.configured (applied_began (book front) ready.sound done)) ∙ some in
    all_said l front (front_stands config word events front more legal) (done.shown.pushed l heard)
