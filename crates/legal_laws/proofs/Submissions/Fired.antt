-- Whoever's timer fired while it was open starts no message.
use Rattle.std.proofs.Common.{◌≡◌, ◌⊎◌, inl, inr, ℕ, ◌<◌, ◌≤◌, ◌==◌, true, List, [], ◌∷◌, ◌++◌, None, refl, sym, ◌∙◌, subst, arith}
use Rattle.std.specs.Prelude.{slice_get}
use Rattle.containers.proofs.Choices.{by_test, left_if, taken_if, ne_test, not_both}
use Rattle.driver_model.specs.declared.action.Action.{Action}
use Rattle.driver_model.specs.declared.action.Action.TheVariants as action
use Rattle.driver_model.specs.declared.action.Cause.TheVariants as cause
use Rattle.driver_model.specs.declared.config.Config.{Config}
use Rattle.driver_model.specs.declared.event.Event.{Event}
use Rattle.driver_model.specs.declared.event.EventKind.{EventKind}
use Rattle.driver_model.specs.declared.event.EventKind.TheVariants as event
use Rattle.driver_model.specs.declared.outcome.Outcome.{Outcome}
use Rattle.legal_trace.specs.Story.{Story, is_open, is_unstarted, left, fires, tried, answered}
use Rattle.legal_trace.specs.Book.{Book, blank_book, book, entered, entered_each, is_clock_of, after_event}
use Rattle.legal_trace.proofs.Clocks.{timer_keeps}
use Rattle.legal_laws.proofs.Submissions.Steps.{action_keeps, fires_keeps}
use Rattle.legal_trace.specs.Legal.{MayStand, MayAnswer, MayTell, AllStand, IsOpen, IsApplied, Legal}
use Rattle.legal_trace.proofs.Books.{stand_front, stand_behind}
use Rattle.legal_trace.proofs.Plain.{not_empty}
use Rattle.legal_trace.proofs.Moves.{has_no_tries}
use Rattle.legal_laws.specs.Starts.{IsStart}
use Rattle.legal_laws.specs.Permits.{FiredStartNoMore}
use Rattle.legal_laws.proofs.Links.Bounds.{start_of}
use Rattle.legal_laws.proofs.Submissions.InLine.{submissions_grow, leaver_is_done, owed_is_done}
use Rattle.legal_laws.proofs.Traces.Numbers.{open_is_numbered}
use Rattle.legal_laws.proofs.Submissions.Owes.{nothing_is_owed}
use Rattle.legal_laws.proofs.Traces.Sound.{Sound, sound_behind}

-- if its message is to start, it is open, and its time is over
abbrev pub IsOver : Story → Type 0
IsOver s = is_unstarted s ≡ true → (is_open s ≡ true) × (s.overdue ≡ true)

-- so no message of it starts, and it isn't told, where the event has had its effect
not_over : (b : Book) (n : ℕ) → IsApplied b → is_unstarted (b.story n) ≡ true → IsOver (b.story n) → ⊥
not_over b n done u h = let over = h u in not_both (b.story n).overdue (nothing_is_owed b (b.story n) (done.shown.answered n over.0)).runs over.1

-- an outcome of it leaves it done
outcome_over : (b : Book) (n : ℕ) (o : Outcome) → MayAnswer b n o ⊎ MayTell b n o → IsOver (b.story n) → IsOver (answered (b.story n) o)
outcome_over b n o (inl owes) h u = absurd (owed_is_done b n o owes u)
outcome_over b n o (inr told) h u = absurd (not_over b n told.begun.applied told.unstarted h)

-- so it is behind each action
over_kept : (b : Book) (a : Action) → MayStand b a → (n : ℕ) → n < b.submissions → IsOver (b.story n) → IsOver ((entered b a).story n)
over_kept b a may n i h =
    action_keeps IsOver b a n (record {
      events = record {
        handed = λ what e. absurd (not_both (b.submissions == n) (ne_test b.submissions n (omega (arith, i))) e);
        left = by_test (is_open (b.story n)) (IsOver (left (b.story n))) (λ o u. absurd (leaver_is_done (b.story n) o u))
            (λ f. subst IsOver (sym (left_if (is_open (b.story n)) (record (b.story n) { cancelled = true; permits = 0; waiting = None }) (b.story n) f)) h);
        fired = λ t c. fires_keeps IsOver (b.story n) (λ o u. (o, refl)) h;
      };
      timed = λ t ms what e. timer_keeps IsOver b n t what (λ r o. h) (λ c. h) h;
      held = λ l count round e. h;
      rounded = h;
      waited = λ kind. h;
      started = λ l k round count len e u. absurd (not_empty (b.story n).tries (record { link = l; message = k }) (has_no_tries (tried (b.story n) l k) u));
      answered = λ o e. outcome_over b n o (subst (MayStand b) e may) h;
    }) h

-- and behind many
stays_over : (b : Book) (front : List Action) → AllStand b front → (n : ℕ) → n < b.submissions → IsOver (b.story n) → IsOver ((entered_each b front).story n)
stays_over b [] all n i h = h
stays_over b (a ∷ more) all n i h =
    let grows : b.submissions ≤ (entered b a).submissions = submissions_grow b a in
    stays_over (entered b a) more all.1 n (omega (arith, i, grows)) (over_kept b a all.0 n i h)

-- a timer that fires of an open submission
fired_over : (b : Book) (n t : ℕ) (kind : EventKind) → kind ≡ event.Fired t → is_clock_of n (slice_get b.timers t) ≡ true → IsOpen b n → IsOver (after_event b n kind)
fired_over b n t kind is clock o = subst (λ k. IsOver (after_event b n k)) (sym is)
    (subst IsOver (sym (taken_if (is_clock_of n (slice_get b.timers t)) (fires (b.story n)) (b.story n) clock ∙ taken_if (is_open (b.story n)) (record (b.story n) { overdue = true }) (b.story n) o)) (λ u. (o, refl)))

-- so none of its messages starts behind that
none_behind : (b : Book) (middle more : List Action) (k t : ℕ) (e : Event) (c : Action) (l n : ℕ) → Sound b → AllStand b (action.Turn k (cause.Event e) ∷ (middle ++ c ∷ more)) → e.kind ≡ event.Fired t
    → is_clock_of n (slice_get b.timers t) ≡ true → IsOpen b n → IsStart l n c → ⊥
none_behind b middle more k t e c l n sound all is clock o start =
    let after : Book = entered b (action.Turn k (cause.Event e)) in
    let numbered : n < b.submissions = open_is_numbered b n sound.stories o in
    let grows : b.submissions ≤ after.submissions = submissions_grow b (action.Turn k (cause.Event e)) in
    let s = start_of (entered_each after middle) c l n (stand_behind after middle (c ∷ more) all.1).0 start in
    not_over (entered_each after middle) n s.3.begun.applied s.3.unstarted
    (stays_over after middle (stand_front after middle (c ∷ more) all.1) n (omega (arith, numbered, grows)) (fired_over b n t e.kind is clock o))

-- nor in a legal trace
pub fired_start_no_more : (config : Config) (word : ℕ) (events : List Event) (trace : List Action) → Legal config word events trace → FiredStartNoMore trace
unfolding book
fired_start_no_more config word events trace h front middle more k t e c l n is fired clock o start =
    let rest : List Action = action.Turn k (cause.Event e) ∷ (middle ++ c ∷ more) in
    let all : AllStand blank_book (front ++ rest) = subst (AllStand blank_book) is h.each in
    none_behind (book front) middle more k t e c l n (sound_behind front (stand_front blank_book front rest all)) (stand_behind blank_book front rest all) fired clock o start
