-- What a command and a pipeline are.
use Rattle.std.specs.Prelude.{ℕ, ◌-◌, Bool, true, false, List, [], ◌∷◌, ◌++◌, length, slice_set}

-- its name and its arguments in order, and whether its reply is left out
pub record Command : Type 0 where
  pub args : List (List ℕ)
  pub no_response : Bool

-- a command with more arguments behind its own
abbrev pub with_args : Command → List (List ℕ) → Command
with_args c more = record { args = c.args ++ more; no_response = c.no_response }

-- commands in order, for each whether it is marked, and whether they are a transaction
pub record CommandList : Type 0 where
  pub commands : List Command
  pub ignored : List Bool
  pub atomic : Bool

-- the last mark set, if there is one
abbrev pub mark_last : List Bool → List Bool
mark_last marks = slice_set marks (length marks - 1) true

-- a pipeline with one command more, which isn't marked
abbrev pub with_command : CommandList → Command → CommandList
with_command p c = record { commands = p.commands ++ c ∷ []; ignored = p.ignored ++ false ∷ []; atomic = p.atomic }
