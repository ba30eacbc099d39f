-- What a line comes to that a run ends with.
use Rattle.std.specs.Prelude.{◌≡◌, ◌⊎◌, ℕ, List}
use Rattle.outside.specs.Ends.{Gained, GainedPart}
use Rattle.program_ends.specs.declared.status.Status.{Status}
use Rattle.program_ends.specs.declared.status.Status.TheVariants as status
use Rattle.program_ends.specs.Sides.{Side, Fails}

-- a line was written, with which a command ends with its status; or its front, and the sink failed
abbrev pub Prints : Status → List ℕ → Status → Side → Side → Type 0
Prints its line s sink sink' =
    ((s ≡ its) × Gained sink.bytes sink'.bytes line)
    ⊎ ((s ≡ status.WriteFault) × GainedPart sink.bytes sink'.bytes line × Fails sink sink')
