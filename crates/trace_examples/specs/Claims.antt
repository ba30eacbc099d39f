-- What is said of a trace, whatever the word of its draws.
use Rattle.std.specs.Prelude.{ℕ, List, ◌∷◌, ◌++◌}
use Rattle.driver_model.specs.declared.action.Action.{Action}
use Rattle.driver_model.specs.declared.config.Config.{Config}
use Rattle.driver_model.specs.declared.event.Event.{Event}
use Rattle.driver_model.specs.declared.event.EventKind.{EventKind}
use Rattle.legal_trace.specs.Legal.{Legal}
use Rattle.trace_examples.specs.Parts.{history, unbounded}

-- with this configuration, the trace that begins so, and ends with these actions, is legal for these events
abbrev pub IsTraceIn : Config → List EventKind → (Config → ℕ → List Action) → List Action → Type 0
IsTraceIn config events front last = (word : ℕ) → Legal config word (history events) (front config word ++ last)

-- the same where a connect may take any time
abbrev pub IsTraceOf : List EventKind → (Config → ℕ → List Action) → List Action → Type 0
IsTraceOf = IsTraceIn unbounded

-- with this configuration, no trace that begins so, and goes on with this action, is legal, whatever its events were and
-- whatever comes after
abbrev pub NoneBeginsIn : Config → (Config → ℕ → List Action) → Action → Type 0
NoneBeginsIn config front next =
    (word : ℕ) (events : List Event) (after : List Action)
    → Legal config word events (front config word ++ next ∷ after) → ⊥

-- nor with any configuration
abbrev pub NoneBegins : (Config → ℕ → List Action) → Action → Type 0
NoneBegins front next = (config : Config) → NoneBeginsIn config front next

-- this trace is not legal, whatever its events were
abbrev pub NoneIs : (Config → ℕ → List Action) → Type 0
NoneIs trace = (config : Config) (word : ℕ) (events : List Event) → Legal config word events (trace config word) → ⊥
