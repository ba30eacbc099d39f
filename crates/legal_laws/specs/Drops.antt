-- What the drop of a stream of messages does.
use Rattle.std.specs.Prelude.{◌≡◌, ℕ, true, List, ◌∷◌, ◌++◌}
use Rattle.driver_model.specs.declared.action.Action.{Action}
use Rattle.driver_model.specs.declared.action.Action.TheVariants as action
use Rattle.driver_model.specs.declared.action.Cause.TheVariants as cause
use Rattle.driver_model.specs.declared.config.Config.{Config}
use Rattle.driver_model.specs.declared.event.Event.{Event}
use Rattle.driver_model.specs.declared.event.EventKind.TheVariants as event
use Rattle.driver_model.specs.Config.{hearing_of}
use Rattle.driver_model.specs.Hearing.{hears_messages}
use Rattle.legal_trace.specs.Ledger.{is_over}
use Rattle.legal_trace.specs.Book.{book}
use Rattle.legal_laws.specs.Notices.{IsWhole}

-- behind the turn in which it is dropped, each link that was asked for has ended, where messages are heard
abbrev pub EndsWhereDropped : Config → List Action → Type 0
EndsWhereDropped config trace =
    (front middle more : List Action) (k l : ℕ) (e : Event) → hears_messages (hearing_of config) ≡ true
    → trace ≡ front ++ action.Turn k (cause.Event e) ∷ (middle ++ more) → e.kind ≡ event.DropStream → IsWhole more
    → ((book front).link l).asked ≡ true → is_over ((book (front ++ action.Turn k (cause.Event e) ∷ middle)).link l) ≡ true
