-- What comes of a link that has ended.
use Rattle.std.specs.Prelude.{◌≡◌, ℕ, true, List, ◌∷◌, ◌++◌}
use Rattle.driver_model.specs.declared.action.Action.{Action}
use Rattle.driver_model.specs.declared.action.Action.TheVariants as action
use Rattle.driver_model.specs.declared.action.Cause.TheVariants as cause
use Rattle.driver_model.specs.declared.event.Event.{Event}
use Rattle.driver_model.specs.declared.event.EventKind.{EventKind}
use Rattle.driver_model.specs.declared.event.EventKind.TheVariants as event
use Rattle.legal_trace.specs.Ledger.{is_over}
use Rattle.legal_trace.specs.Book.{Book, book}
use Rattle.legal_laws.specs.Notices.{IsWhole}

-- the event is what came of a link that has ended
abbrev pub IsLate : Book → EventKind → Type 0
IsLate b (event.Connected l) = is_over (b.link l) ≡ true
IsLate b (event.Refused l f) = is_over (b.link l) ≡ true
IsLate b (event.Wrote l count) = is_over (b.link l) ≡ true
IsLate b (event.Bytes l piece) = is_over (b.link l) ≡ true
IsLate b (event.Ended l) = is_over (b.link l) ≡ true
IsLate b (event.ReadFault l kind) = is_over (b.link l) ≡ true
IsLate b (event.WriteFault l kind) = is_over (b.link l) ≡ true
IsLate b _ = ⊥

-- the turn of such an event has its announcement, and nothing else
abbrev pub LateIsNothing : List Action → Type 0
LateIsNothing trace =
    (front more : List Action) (k : ℕ) (e : Event) → trace ≡ front ++ action.Turn k (cause.Event e) ∷ more → IsLate (book front) e.kind → IsWhole more
