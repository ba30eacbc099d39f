-- What is subscribed is subscribed again before new credentials and the queue, behind its timer.
use Rattle.std.proofs.Common.{List, None, [], arith, inl, inr, subst, sym, true, ℕ, ◌++◌, ◌==◌, ◌≤◌, ◌∙◌, ◌∷◌, ◌≡◌, ◌≢◌}
use Rattle.containers.proofs.Choices.{by_test, eq_from, ne_from, not_both}
use Rattle.driver_model.specs.declared.action.Purpose.{Purpose}
use Rattle.driver_model.specs.declared.action.Purpose.TheVariants as purpose
use Rattle.legal_trace.specs.Book.{Book}
use Rattle.legal_trace.specs.Ledger.{again_due}
use Rattle.legal_trace.specs.Legal.{RepeatsAreTimed, RepeatsAreStarted}
use Rattle.legal_trace.specs.Steps.{is_held_back}
use Rattle.legal_trace.proofs.Again.{again_is_up}
use Rattle.conn_laws.proofs.Ties.Names.{get_more}
use Rattle.session_laws.proofs.Ties.Tied.{AreAimed, TurnState, IsAim, Tied}

-- a timer more for the link
pub aims_repeated : (timers : List Purpose) (link count : ℕ) → AreAimed timers link count → AreAimed (timers ++ purpose.Resubscription link ∷ []) link count
aims_repeated timers link count h k what e = let own : link ≤ link = omega arith in elim (get_more timers (purpose.Resubscription link) k what e) [
  | inl i ↦ h k what i
  | inr x ↦ subst (λ w. IsAim w link count) x.1 own
]

-- it is to start on the link of the session alone, where that is ready
pub due_here : (b : Book) (t : TurnState) (m : ℕ) → Tied b t → again_due (b.link m) ≡ true → m ≡ t.link
due_here b t m h due = by_test (m == t.link) (m ≡ t.link) (eq_from m t.link)
    (λ f. absurd (not_both (b.link m).up (h.others m (ne_from m t.link f)).down (again_is_up (b.link m) due)))

-- so all that is to start has its timer, where that of the session's link has
pub repeats_timed : (b : Book) (t : TurnState) → Tied b t → (t.renewal.within ≢ None → again_due (b.link t.link) ≡ true → (b.link t.link).again.timed ≡ true) → RepeatsAreTimed b
repeats_timed b t h mine m some due =
    let here = due_here b t m h due in
    subst (λ n. (b.link n).again.timed ≡ true) (sym here) (mine (λ none. some (h.numbers.within ∙ none)) (subst (λ n. again_due (b.link n) ≡ true) here due))

-- and waits for its link, where that is so there
pub repeats_started : (b : Book) (t : TurnState) → Tied b t → (again_due (b.link t.link) ≡ true → is_held_back b (b.link t.link) ≡ true) → RepeatsAreStarted b
repeats_started b t h mine m due =
    let here = due_here b t m h due in
    subst (λ n. is_held_back b (b.link n) ≡ true) (sym here) (mine (subst (λ n. again_due (b.link n) ≡ true) here due))
