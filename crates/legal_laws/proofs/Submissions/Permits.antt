-- Submissions never hold more permits than there are.
use Rattle.std.proofs.Common.{◌≡◌, ◌≢◌, inl, inr, ℕ, zero, suc, ◌+◌, ◌-◌, ◌<◌, ◌≤◌, ◌==◌, nat_lt, nat_le, true, List, [], ◌∷◌, ◌++◌, Some, None, refl, sym, ◌∙◌, ap, subst, arith, max}
use Rattle.std.specs.Prelude.{slice_get}
use Rattle.containers.proofs.Choices.{by_test, chosen, taken_if, left_if, eq_from, ne_from, lt_from, not_lt_from, le_from, not_le_from}
use Rattle.driver_model.specs.declared.action.Action.{Action}
use Rattle.driver_model.specs.declared.action.Action.TheVariants as action
use Rattle.driver_model.specs.declared.action.Cause.TheVariants as cause
use Rattle.driver_model.specs.declared.action.Owner.{Owner}
use Rattle.driver_model.specs.declared.action.Owner.TheVariants as owner
use Rattle.driver_model.specs.declared.config.Config.{Config}
use Rattle.driver_model.specs.declared.event.Event.{Event}
use Rattle.driver_model.specs.declared.event.EventKind.{EventKind}
use Rattle.driver_model.specs.declared.event.EventKind.TheVariants as event
use Rattle.legal_trace.specs.Story.{Story, is_open, handed_in, left, holds, rounds, fires, tried, waits, answered}
use Rattle.legal_trace.specs.Book.{Book, blank_book, book, entered, entered_each, is_clock_of, after_event, is_unspoken}
use Rattle.legal_trace.specs.Steps.{permits_in, permits_on, permits_held}
use Rattle.legal_trace.proofs.Clocks.{timer_keeps}
use Rattle.legal_trace.specs.Legal.{MayTake, MayStand, AllStand, Legal}
use Rattle.legal_trace.proofs.Books.{stand_front}
use Rattle.legal_laws.specs.Permits.{KeepsPermits}
use Rattle.legal_laws.proofs.Links.Bounds.{IsReady, ready_behind, next_may, applied_began}
use Rattle.legal_laws.proofs.Submissions.InLine.{follows, submissions_grow}
use Rattle.legal_trace.proofs.Moves.{takes_mean}
use Rattle.legal_laws.proofs.Submissions.Seated.{gains, holder_is_numbered}
use Rattle.legal_laws.proofs.Traces.Sound.{Sound, stays_sound, blank_is_sound}
use Rattle.legal_trace.proofs.Plain.{not_none}
use Rattle.driver_model.specs.Config.{permits}

-- where each holds no more, all hold no more
held_less : (after before : ℕ → Story) (l n : ℕ) → ((k : ℕ) → k < n → permits_on l (after k) ≤ permits_on l (before k)) → permits_held after l n ≤ permits_held before l n
held_less after before l zero h = omega arith
held_less after before l (suc n) h =
    let rest : permits_held after l n ≤ permits_held before l n = held_less after before l n (λ k i. h k (omega arith)) in
    let one : permits_on l (after n) ≤ permits_on l (before n) = h n (omega arith) in
    omega (arith, rest, one)

-- and where one holds so many more, so many more at most
held_but_one : (after before : ℕ → Story) (l m count n : ℕ) → ((k : ℕ) → k < n → k ≢ m → permits_on l (after k) ≤ permits_on l (before k)) → permits_on l (after m) ≤ permits_on l (before m) + count
    → permits_held after l n ≤ permits_held before l n + count
held_but_one after before l m count zero h own = omega arith
held_but_one after before l m count (suc n) h own = by_test (n == m) (permits_held after l (suc n) ≤ permits_held before l (suc n) + count)
    (λ t.
    let same : n ≡ m = eq_from n m t in
    let rest : permits_held after l n ≤ permits_held before l n = held_less after before l n (λ k i. h k (omega arith) (λ e. omega (arith, same, i, e))) in
    let one : permits_on l (after n) ≤ permits_on l (before n) + count = subst (λ k. permits_on l (after k) ≤ permits_on l (before k) + count) (sym same) own in
    omega (arith, rest, one))
    (λ f.
    let rest : permits_held after l n ≤ permits_held before l n + count = held_but_one after before l m count n (λ k i apart. h k (omega arith) apart) own in
    let one : permits_on l (after n) ≤ permits_on l (before n) = h n (omega arith) (ne_from n m f) in
    omega (arith, rest, one))

-- those that hold none add none
held_more : (story : ℕ → Story) (l n more : ℕ) → n ≤ more → ((k : ℕ) → n ≤ k → (story k).permits ≡ 0) → permits_held story l more ≤ permits_held story l n
held_more story l n zero i none = let e : n ≡ 0 = omega (arith, i) in subst (λ k. 0 ≤ permits_held story l k) (sym e) (omega arith)
held_more story l n (suc more) i none = by_test (nat_le n more) (permits_held story l (suc more) ≤ permits_held story l n)
    (λ t.
    let rest : permits_held story l more ≤ permits_held story l n = held_more story l n more (le_from n more t) none in
    let own : permits_on l (story more) ≡ 0 = chosen (λ k. k ≡ 0) ((story more).link == l) (story more).permits 0 (λ e. none more (le_from n more t)) (λ e. refl) in
    omega (arith, rest, own))
    (λ f. let more_than : more < n = not_le_from n more f in let e : n ≡ suc more = omega (arith, i, more_than) in subst (λ k. permits_held story l (suc more) ≤ permits_held story l k) (sym e) (omega arith))

-- of one link: who holds no more holds no more of that
on_less : (s t : Story) (l : ℕ) → s.link ≡ t.link → s.permits ≤ t.permits → permits_on l s ≤ permits_on l t
on_less s t l same i = by_test (t.link == l) (permits_on l s ≤ permits_on l t)
    (λ e.
    let a : permits_on l s ≡ s.permits = taken_if (s.link == l) s.permits 0 (ap (λ k. k == l) same ∙ e) in
    let c : permits_on l t ≡ t.permits = taken_if (t.link == l) t.permits 0 e in
    omega (arith, a, c, i))
    (λ e.
    let a : permits_on l s ≡ 0 = left_if (s.link == l) s.permits 0 (ap (λ k. k == l) same ∙ e) in
    omega (arith, a))

-- who holds none holds no more
none_on : (s t : Story) (l : ℕ) → s.permits ≡ 0 → permits_on l s ≤ permits_on l t
none_on s t l none =
    let a : permits_on l s ≡ 0 = chosen (λ k. k ≡ 0) (s.link == l) s.permits 0 (λ e. none) (λ e. refl) in
    omega (arith, a)

-- no more permits are held than there are
abbrev pub IsWithinLimit : Book → Type 0
IsWithinLimit b = (limit l : ℕ) → permits_in b.config ≡ Some limit → permits_held b.story l b.submissions ≤ limit

-- behind an action nobody holds permits who wasn't numbered before it
held_behind : (b : Book) (a : Action) → MayStand b a → Sound b → (l : ℕ) → permits_held (entered b a).story l (entered b a).submissions ≤ permits_held (entered b a).story l b.submissions
held_behind b a may sound l = held_more (entered b a).story l b.submissions (entered b a).submissions (submissions_grow b a)
    (λ k i. by_test (nat_lt 0 ((entered b a).story k).permits) (((entered b a).story k).permits ≡ 0)
    (λ t. absurd (let j : k < b.submissions = holder_is_numbered b k sound.stories (gains b a may k (lt_from 0 ((entered b a).story k).permits t)) in omega (arith, i, j)))
    (λ f. let j : ((entered b a).story k).permits ≤ 0 = not_lt_from 0 ((entered b a).story k).permits f in omega (arith, j)))

-- where an action gives none
kept_by : (b : Book) (a : Action) → MayStand b a → Sound b → (entered b a).config ≡ b.config → ((n : ℕ) → n < b.submissions → ((entered b a).story n).permits ≤ (b.story n).permits) → IsWithinLimit b → IsWithinLimit (entered b a)
kept_by b a may sound same less h limit l counted =
    let old : permits_held b.story l b.submissions ≤ limit = h limit l (sym (ap permits_in same) ∙ counted) in
    let now : permits_held (entered b a).story l (entered b a).submissions ≤ permits_held (entered b a).story l b.submissions = held_behind b a may sound l in
    let fewer : permits_held (entered b a).story l b.submissions ≤ permits_held b.story l b.submissions = held_less (entered b a).story b.story l b.submissions
    (λ k i. elim (follows b a may k i).on [ inl stays ↦ on_less ((entered b a).story k) (b.story k) l stays.link (less k i) | inr goes ↦ none_on ((entered b a).story k) (b.story k) l (ap (λ (s : Story). s.permits) goes.2) ]) in
    omega (arith, old, now, fewer)

-- an event gives none
event_less : (b : Book) (n : ℕ) (kind : EventKind) → (after_event b n kind).permits ≤ (b.story n).permits
event_less b n (event.Submit what) = chosen (λ (s : Story). s.permits ≤ (b.story n).permits) (b.submissions == n) (handed_in (b.story n) what b.shut (is_unspoken b what) (max 1 b.generation) b.current b.timeout) (b.story n) (λ t. omega arith) (λ f. omega arith)
event_less b n (event.Cancel m) = chosen (λ (s : Story). s.permits ≤ (b.story n).permits) (m == n) (left (b.story n)) (b.story n)
    (λ t. chosen (λ (s : Story). s.permits ≤ (b.story n).permits) (is_open (b.story n)) (record (b.story n) { cancelled = true; permits = 0; waiting = None }) (b.story n) (λ o. omega arith) (λ o. omega arith)) (λ f. omega arith)
event_less b n (event.Fired t) = chosen (λ (s : Story). s.permits ≤ (b.story n).permits) (is_clock_of n (slice_get b.timers t)) (fires (b.story n)) (b.story n)
    (λ e. chosen (λ (s : Story). s.permits ≤ (b.story n).permits) (is_open (b.story n)) (record (b.story n) { overdue = true }) (b.story n) (λ o. omega arith) (λ o. omega arith)) (λ f. omega arith)
event_less b n (event.Connected l) = omega arith
event_less b n (event.Refused l f) = omega arith
event_less b n (event.Wrote l count) = omega arith
event_less b n (event.Bytes l piece) = omega arith
event_less b n (event.Ended l) = omega arith
event_less b n (event.ReadFault l kind) = omega arith
event_less b n (event.WriteFault l kind) = omega arith
event_less b n (event.Timeout ms) = omega arith
event_less b n (event.Creds c auth) = omega arith
event_less b n (event.CredsError c text) = omega arith
event_less b n (event.CredsEnd c) = omega arith
event_less b n event.DropStream = omega arith
event_less b n event.Shutdown = omega arith

-- where permits are taken, no more are held than there are
taken_within : (b : Book) (m round on count : ℕ) → MayTake b m on count → MayStand b (action.Took (owner.Try m round) on count) → Sound b → IsWithinLimit b → IsWithinLimit (entered b (action.Took (owner.Try m round) on count))
taken_within b m round on count may stand sound h limit l counted =
    let a : Action = action.Took (owner.Try m round) on count in
    let t = takes_mean b m count may.takes in
    let most : t.2.0 ≡ limit = same_limit t.2.0 limit (sym t.2.1 ∙ counted) in
    let old : permits_held b.story l b.submissions ≤ limit = h limit l counted in
    let others : (k : ℕ) → k < b.submissions → k ≢ m → permits_on l ((entered b a).story k) ≤ permits_on l (b.story k) =
    λ k i apart. chosen (λ s. permits_on l s ≤ permits_on l (b.story k)) (m == k) (holds (b.story k) count) (b.story k) (λ e. absurd (apart (sym (eq_from m k e)))) (λ f. omega arith) in
    by_test ((b.story m).link == l) (permits_held (entered b a).story l b.submissions ≤ limit)
    (λ e.
    let link : (b.story m).link ≡ l = eq_from (b.story m).link l e in
    let own : permits_on l ((entered b a).story m) ≤ permits_on l (b.story m) + count =
    chosen (λ s. permits_on l s ≤ permits_on l (b.story m) + count) (m == m) (holds (b.story m) count) (b.story m)
    (λ x. let y : permits_on l (holds (b.story m) count) ≡ count = taken_if ((b.story m).link == l) count 0 e in omega (arith, y)) (λ f. omega arith) in
    let sum : permits_held (entered b a).story l b.submissions ≤ permits_held b.story l b.submissions + count = held_but_one (entered b a).story b.story l m count b.submissions others own in
    let free : count ≤ limit - permits_held b.story l b.submissions = subst (λ x. count ≤ limit - permits_held b.story x b.submissions) link (subst (λ x. count ≤ x - permits_held b.story (b.story m).link b.submissions) most t.2.3) in
    omega (arith, old, sum, free))
    (λ f.
    let own : permits_on l ((entered b a).story m) ≤ permits_on l (b.story m) + 0 =
    chosen (λ s. permits_on l s ≤ permits_on l (b.story m) + 0) (m == m) (holds (b.story m) count) (b.story m)
    (λ x. let y : permits_on l (holds (b.story m) count) ≡ 0 = left_if ((b.story m).link == l) count 0 f in omega (arith, y)) (λ g. omega arith) in
    let sum : permits_held (entered b a).story l b.submissions ≤ permits_held b.story l b.submissions + 0 = held_but_one (entered b a).story b.story l m 0 b.submissions others own in
    omega (arith, old, sum))
  where
    same_limit : (x y : ℕ) → Some x ≡ Some y → x ≡ y
    same_limit x y e = cc e

-- each action that may stand keeps it
within_kept : (b : Book) (a : Action) → MayStand b a → Sound b → IsWithinLimit b → IsWithinLimit (entered b a)
within_kept b (action.Turn k (cause.Opening config word)) may sound h = λ limit l counted.
    let start : b.turns ≡ 0 = may.is_for in
    let none : b.submissions ≡ 0 = sound.opens.none_yet (omega (arith, start)) in
    subst (λ n. permits_held (entered b (action.Turn k (cause.Opening config word))).story l n ≤ limit) (sym none) (omega arith)
within_kept b (action.Turn k (cause.Event e)) may sound h = kept_by b (action.Turn k (cause.Event e)) may sound refl (λ n i. event_less b n e.kind) h
within_kept b (action.Connect m host port) may sound h = kept_by b (action.Connect m host port) may sound refl (λ n i. omega arith) h
within_kept b (action.Timer t ms what) may sound h = kept_by b (action.Timer t ms what) may sound refl
    (λ n i. timer_keeps (λ (s : Story). s.permits ≤ (b.story n).permits) b n t what (λ e o. omega arith) (λ e. omega arith) (omega arith)) h
within_kept b (action.Took owner.Setup l count) may sound h = absurd may
within_kept b (action.Took owner.Auth l count) may sound h = absurd may
within_kept b (action.Took owner.Resub l count) may sound h = absurd may
within_kept b (action.Took owner.Monitor l count) may sound h = absurd may
within_kept b (action.Took (owner.Try m round) l count) may sound h = taken_within b m round l count may.1 may sound h
within_kept b (action.Push m info) may sound h = kept_by b (action.Push m info) may sound refl (λ n i. omega arith) h
within_kept b (action.Message msg) may sound h = kept_by b (action.Message msg) may sound refl (λ n i. omega arith) h
within_kept b (action.Monitor v) may sound h = kept_by b (action.Monitor v) may sound refl (λ n i. omega arith) h
within_kept b (action.NeedCreds c m) may sound h = kept_by b (action.NeedCreds c m) may sound refl (λ n i. omega arith) h
within_kept b (action.Generation g) may sound h = kept_by b (action.Generation g) may sound refl (λ n i. omega arith) h
within_kept b (action.Round owner.Setup on) may sound h = absurd may
within_kept b (action.Round owner.Auth on) may sound h = absurd may
within_kept b (action.Round owner.Resub on) may sound h = absurd may
within_kept b (action.Round owner.Monitor on) may sound h = absurd may
within_kept b (action.Round (owner.Try m round) on) may sound h =
    kept_by b (action.Round (owner.Try m round) on) may sound refl
    (λ n i. chosen (λ (s : Story). s.permits ≤ (b.story n).permits) (m == n) (rounds (b.story n)) (b.story n) (λ e. omega arith) (λ f. omega arith)) h
within_kept b (action.Close m) may sound h = kept_by b (action.Close m) may sound refl (λ n i. omega arith) h
within_kept b (action.Write m bytes) may sound h = kept_by b (action.Write m bytes) may sound refl (λ n i. omega arith) h
within_kept b (action.Wait owner.Setup kind) may sound h = absurd may
within_kept b (action.Wait owner.Auth kind) may sound h = absurd may
within_kept b (action.Wait owner.Resub kind) may sound h = absurd may
within_kept b (action.Wait owner.Monitor kind) may sound h = absurd may
within_kept b (action.Wait (owner.Try m round) kind) may sound h = kept_by b (action.Wait (owner.Try m round) kind) may sound refl
    (λ n i. chosen (λ (s : Story). s.permits ≤ (b.story n).permits) (m == n) (waits (b.story n) kind) (b.story n) (λ e. omega arith) (λ f. omega arith)) h
within_kept b (action.Start l k owner.Setup count len) may sound h = kept_by b (action.Start l k owner.Setup count len) may sound refl (λ n i. omega arith) h
within_kept b (action.Start l k owner.Auth count len) may sound h = kept_by b (action.Start l k owner.Auth count len) may sound refl (λ n i. omega arith) h
within_kept b (action.Start l k owner.Resub count len) may sound h = kept_by b (action.Start l k owner.Resub count len) may sound refl (λ n i. omega arith) h
within_kept b (action.Start l k owner.Monitor count len) may sound h = kept_by b (action.Start l k owner.Monitor count len) may sound refl (λ n i. omega arith) h
within_kept b (action.Start l k (owner.Try m round) count len) may sound h = kept_by b (action.Start l k (owner.Try m round) count len) may sound refl
    (λ n i. chosen (λ (s : Story). s.permits ≤ (b.story n).permits) (m == n) (tried (b.story n) l k) (b.story n) (λ e. omega arith) (λ f. omega arith)) h
within_kept b (action.Created e) may sound h = kept_by b (action.Created e) may sound refl (λ n i. omega arith) h
within_kept b (action.Outcome m o) may sound h = kept_by b (action.Outcome m o) may sound refl
    (λ n i. chosen (λ (s : Story). s.permits ≤ (b.story n).permits) (m == n) (answered (b.story n) o) (b.story n) (λ e. omega arith) (λ f. omega arith)) h

-- and so do many
each_within : (b : Book) (front : List Action) → AllStand b front → Sound b → IsWithinLimit b → IsWithinLimit (entered_each b front)
each_within b [] all sound h = h
each_within b (a ∷ more) all sound h = each_within (entered b a) more all.1 (stays_sound b a all.0 sound) (within_kept b a all.0 sound h)

-- so it is behind actions that may stand
within_behind : (front : List Action) → AllStand blank_book front → IsWithinLimit (book front)
unfolding book
within_behind front all = each_within blank_book front all blank_is_sound (λ limit l e. absurd (cc e))

-- before the first turn nobody is there to hold any
none_held : (b : Book) (l : ℕ) → Sound b → b.turns ≡ 0 → permits_held b.story l b.submissions ≡ 0
none_held b l sound none = ap (permits_held b.story l) (sound.opens.none_yet (omega (arith, none)))

-- whoever takes permits does so where they are counted
counted_where_taken : (config : Config) (b : Book) (who : Owner) (l count : ℕ) → IsReady config b → MayStand b (action.Took who l count) → permits config ≡ None → ⊥
counted_where_taken config b owner.Setup l count ready may none = absurd may
counted_where_taken config b owner.Auth l count ready may none = absurd may
counted_where_taken config b owner.Resub l count ready may none = absurd may
counted_where_taken config b owner.Monitor l count ready may none = absurd may
counted_where_taken config b (owner.Try n round) l count ready may none =
    let t = takes_mean b n count may.1.takes in
    not_none (permits_in b.config) t.2.0 (ap permits_in (ready.configured (applied_began b ready.sound may.1.begun.applied)) ∙ none) t.2.1

-- so each legal trace keeps to its permits
pub keeps_permits : (config : Config) (word : ℕ) (events : List Event) (trace : List Action) → Legal config word events trace → KeepsPermits config trace
keeps_permits config word events trace h = record {
  within = λ front more limit l is counted.
      let legal : Legal config word events (front ++ more) = subst (Legal config word events) is h in
      let ready = ready_behind config word events front more legal in
      let all : AllStand blank_book front = stand_front blank_book front more legal.each in
      by_test ((book front).turns == 0) (permits_held (book front).story l (book front).submissions ≤ limit)
      (λ t. let none = none_held (book front) l ready.sound (eq_from (book front).turns 0 t) in omega (arith, none))
      (λ f. within_behind front all limit l (ap permits_in (ready.configured (ne_from (book front).turns 0 f)) ∙ counted));
  counted = λ front more who l count is none.
      let legal : Legal config word events (front ++ action.Took who l count ∷ more) = subst (Legal config word events) is h in
      counted_where_taken config (book front) who l count (ready_behind config word events front (action.Took who l count ∷ more) legal) (next_may config word events front more (action.Took who l count) legal) none;
}
