-- The numbers that a run ends with.
use Rattle.std.specs.Prelude.{ℕ, Bool, nat_le}
use Rattle.program_ends.specs.declared.status.Status.{Status}
use Rattle.program_ends.specs.declared.status.Status.TheVariants as status

-- the number of a status
abbrev pub number : Status → ℕ
number status.Done = 0
number status.Usage = 1
number status.Script = 2
number status.Config = 3
number status.BadEvent = 4
number status.NoMemory = 5
number status.ReadFault = 6
number status.WriteFault = 7
number status.Spent = 8

-- a number that some status has
abbrev pub is_status : ℕ → Bool
is_status n = nat_le n 8
