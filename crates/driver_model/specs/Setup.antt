-- The message that sets a link up: its bytes, and how many items it takes.
use Rattle.std.specs.Prelude.{ℕ, Bool, true, false, List, [], ◌∷◌, length}
use Rattle.resp_write.specs.Pack.{pack_commands}
use Rattle.connection_setup.specs.Setup.{Step, pipeline_of}
use Rattle.driver_model.specs.declared.outcome.Shape.{Shape}
use Rattle.driver_model.specs.declared.outcome.Shape.TheVariants.{Pipeline}

-- nothing is to be said
abbrev pub says_nothing : List Step → Bool
says_nothing [] = true
says_nothing (s ∷ steps) = false

-- its commands, packed
abbrev pub setup_bytes : List Step → List ℕ
setup_bytes steps = pack_commands false (pipeline_of steps).commands

-- it keeps the reply to each of its commands, also where it is one
abbrev pub setup_shape : List Step → Shape
setup_shape steps = Pipeline 0 (length steps) false
