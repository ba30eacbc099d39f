-- What whoever makes calls tells of them.
use Rattle.std.specs.Prelude.{◌≡◌, ℕ, ◌+◌, ◌-◌, ◌^◌, ◌==◌, min, length, Bool, false, List, [], ◌∷◌, ◌++◌, Result, Err, ◌⊎◌}
use Rattle.resp_value.specs.Data.{Data}
use Rattle.resp_value.specs.declared.value.Value.{Value}
use Rattle.resp_write.specs.Command.{Command, CommandList}
use Rattle.transactions.specs.declared.call_error.CallError.{CallError}
use Rattle.transactions.specs.declared.call_error.CallError.TheVariants.{NoMemory}

-- a call with its answer: one command, or several together
pub data Made : Type 0 where
  command : Command → Result Value CallError → Made
  together : CommandList → Result (List Data) CallError → Made

-- The calls that were made, in order, and how many were made for which the list had no memory.
pub record Told : Type 0 where
  pub made : List Made
  pub unlisted : ℕ

-- the call was answered with want of memory
abbrev pub IsUnanswered : Made → Type 0
IsUnanswered (command c answer) = answer ≡ Err NoMemory
IsUnanswered (together p answer) = answer ≡ Err NoMemory

-- the call stands at the end of the list
abbrev pub Lists : Told → Told → Made → Type 0
Lists old new call = (new.made ≡ old.made ++ call ∷ []) × (new.unlisted ≡ old.unlisted)

-- the call isn't listed but counted; at its type's end the count stands still
abbrev pub Counts : Told → Told → Type 0
Counts old new = (new.made ≡ old.made) × (new.unlisted ≡ min (old.unlisted + 1) (2 ^ 64 - 1))

-- This call was made, and no other: it is listed, or, where it was answered with want of memory, counted at least.
abbrev pub Tells : Told → Told → Made → Type 0
Tells old new call = Lists old new call ⊎ (IsUnanswered call × Counts old new)

-- one command without a name
abbrev pub is_lone_nameless_of : List Command → Bool
is_lone_nameless_of [] = false
is_lone_nameless_of (c ∷ []) = length c.args == 0
is_lone_nameless_of (c ∷ d ∷ more) = false

abbrev pub is_lone_nameless : CommandList → Bool
is_lone_nameless p = is_lone_nameless_of p.commands
