-- The outcome of a submission by its story.
use Rattle.std.specs.Prelude.{List, [], ◌∷◌, Option, Some, None}
use Rattle.driver_model.specs.declared.outcome.Outcome.{Outcome}

-- the last of these outcomes
abbrev pub last_outcome : List Outcome → Option Outcome
last_outcome [] = None
last_outcome (o ∷ []) = Some o
last_outcome (o ∷ p ∷ os) = last_outcome (p ∷ os)
