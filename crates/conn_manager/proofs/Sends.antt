-- What a send that fails leaves of the outcomes.
use Rattle.std.proofs.Common.{◌≡◌, ℕ, ◌<◌, List, length, Option, None, slice_get, sym, ap, ◌∙◌, arith}
use Rattle.containers.proofs.Places.{get_set_other}
use Rattle.driver_model.specs.declared.outcome.Outcome.{Outcome}
use Rattle.mux_client.specs.Connection.{if_placed}
use Rattle.mux_client.specs.LikeLaws.{place_added}
use Rattle.conn_manager.specs.declared.manager.ConnectionManager.{ConnectionManager}
use Rattle.conn_manager.specs.declared.request.Call.{Call}
use Rattle.conn_manager.specs.Calls.{next_number, outcome_of, outcomes_but, entered, SparesOthers}

-- where the outcomes of all requests but one are the same, each of them is
pub spared : (m n : ConnectionManager) (q : ℕ) → outcomes_but n q ≡ outcomes_but m q → SparesOthers q m n
spared m n q is p other =
    sym (ap if_placed (get_set_other n.outcomes q p None (λ same. other (sym same))))
    ∙ ap (λ (os : List (Option Outcome)). if_placed (slice_get os p)) is
    ∙ ap if_placed (get_set_other m.outcomes q p None (λ same. other (sym same)))

-- and one more request changes no outcome of those before it
pub admitted : (old mid new : ConnectionManager) (call : Option Call) (q : ℕ) → mid ≡ entered old call → q ≡ length old.stages → SparesOthers q mid new
    → (p : ℕ) → p < next_number old → outcome_of new p ≡ outcome_of old p
admitted old mid new call q is last spares p before =
    spares p (λ same. omega (arith, before, same, last))
    ∙ ap (λ (m : ConnectionManager). outcome_of m p) is
    ∙ place_added old.outcomes p
