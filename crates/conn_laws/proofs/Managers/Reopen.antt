-- A connection goes to its next link, which is not asked for yet.
use Rattle.std.proofs.Common.{◌≡◌, ℕ, zero, suc, ◌==◌, Bool, true, false, List, [], ◌∷◌, length, None, is_some, refl, sym, ◌∙◌, subst, arith}
use Rattle.std.specs.Prelude.{not, ◌&&◌}
use Rattle.containers.proofs.Choices.{both_right, ne_test}
use Rattle.driver_model.specs.declared.outcome.Outcome.{Outcome}
use Rattle.legal_trace.specs.Ledger.{Ledger, blank_ledger}
use Rattle.legal_trace.specs.Story.{Story, is_awaited, is_no_error, is_open, is_told}
use Rattle.legal_trace.specs.Steps.{permits_held, permits_on}
use Rattle.conn_laws.proofs.Ties.Tied.{IsUnknown}

-- a session without a link
--
-- what holds of a link that was never asked for holds of this
pub on_blank : (P : Ledger → Type 0) (l : Ledger) → IsUnknown l → P (record blank_ledger { heard = l.heard }) → P l
on_blank P l unknown h = subst P (sym unknown) h

-- behind a failed attempt
--
-- so much stays, and where it is open it begins anew there
pub record IsMovedTo (link : ℕ) (s r : Story) : Type 0 where
  pub submission : r.submission ≡ s.submission
  pub timeout : r.timeout ≡ s.timeout
  pub tries : r.tries ≡ s.tries
  pub clock : r.clock ≡ s.clock
  pub overdue : r.overdue ≡ s.overdue
  pub late : r.late ≡ s.late
  pub unspoken : r.unspoken ≡ s.unspoken
  pub opens : is_open r ≡ is_open s
  pub goes : is_open s ≡ true → (r.link ≡ link) × (r.permits ≡ 0) × (r.waiting ≡ None) × (r.rounded ≡ false)
  pub stays : is_open s ≡ false → r ≡ s

-- one that was told at its place isn't open
pub told_closed : (s : Story) → is_told s ≡ true → is_open s ≡ false
told_closed s told = (λ i. is_some s.submission && some s.outcomes (both_right (not (is_awaited s)) (is_no_error s.outcomes) told) i && not s.cancelled) ∙ both_false (is_some s.submission) (not s.cancelled)
  where
    some : (os : List Outcome) → is_no_error os ≡ true → (length os == 0) ≡ false
    some [] e = cc
    some (o ∷ os) e = ne_test (length (o ∷ os)) 0 (λ none. absurd (omega (arith, none)))

    both_false : (a c : Bool) → (a && false && c) ≡ false
    both_false true c = refl
    both_false false c = refl

-- nobody holds a permit of a link to which nobody went who holds one
pub none_held : (story : ℕ → Story) (link n : ℕ) → ((m : ℕ) → permits_on link (story m) ≡ 0) → permits_held story link n ≡ 0
none_held story link zero none = refl
none_held story link (suc n) none = let rest = none_held story link n none in let last = none n in omega (arith, rest, last)
