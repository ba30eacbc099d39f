-- What a link settles, and what its ledger owes.
use Rattle.std.specs.Prelude.{◌≡◌, ℕ, List, [], ◌∷◌, ◌++◌, Some, slice_get, if◌then◌else◌}
use Rattle.driver_model.specs.declared.action.Owner.{Owner}
use Rattle.driver_model.specs.declared.outcome.Shape.{Shape}
use Rattle.driver_model.specs.Shape.{outcome_of}
use Rattle.link_core.specs.declared.message.Entry.{Entry}
use Rattle.link_core.specs.declared.message.Queued.{Queued}
use Rattle.link_core.specs.declared.message.Settled.{Settled}
use Rattle.link_core.specs.Link.{LinkState}
use Rattle.legal_trace.specs.Ledger.{Start, Ledger}
use Rattle.legal_trace.specs.Owed.{owed_to_message, owed_unstarted}

-- who was settled, in order
abbrev pub settled_ids : List Settled → List ℕ
settled_ids [] = []
settled_ids (s ∷ ss) = s.id ∷ settled_ids ss

-- the started messages whose verdict is wanted, in order
abbrev pub wanted : List Entry → List ℕ
wanted [] = []
wanted (e ∷ es) = (if e.awaited then e.id ∷ [] else []) ++ wanted es

-- the messages of a queue whose verdict is wanted, in order
abbrev pub awaited_ids : List Queued → List ℕ
awaited_ids [] = []
awaited_ids (q ∷ qs) = (if q.awaited then q.id ∷ [] else []) ++ awaited_ids qs

-- the messages of a link whose verdict is wanted: those that started, and then those that wait
abbrev pub awaited_of : LinkState → List ℕ
awaited_of s = wanted s.row ++ awaited_ids s.queue

-- a start of this owner and of this shape stands at number k
pub record StandsAs (starts : List Start) (who : Owner) (of_shape : Shape) (k : ℕ) : Type 0 where
  pub start : Start
  pub stands : slice_get starts k ≡ Some start
  pub owned : start.owner ≡ who
  pub shaped : start.shape ≡ of_shape

-- a settled message has started, and comes to what the ledger owes it
pub record IsOwed (name : ℕ → Owner) (l : Ledger) (s : Settled) : Type 0 where
  pub number : ℕ
  pub of_shape : Shape
  pub place : StandsAs l.starts (name s.id) of_shape number
  pub owes : owed_to_message l number of_shape ≡ Some (outcome_of s.verdict)

-- a settled message that has not started comes to what the ledger owes such a one
abbrev pub IsOwedUnstarted : Ledger → Settled → Type 0
IsOwedUnstarted l s = owed_unstarted l.end ≡ Some (outcome_of s.verdict)
