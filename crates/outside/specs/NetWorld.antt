-- Which links have a stream, and what the errors of the system are to a link.
use Rattle.std.specs.Prelude.{◌≡◌, ℕ, Bool, true, false, ◌==◌, if◌then◌else◌, is_some}
use Rattle.std.specs.BTreeMap.{get}
use Rattle.std.specs.Ordering.{nat_cmp}
use Rattle.std.specs.declared.io.ErrorKind.{ErrorKind}
use Rattle.std.specs.declared.io.ErrorKind.TheVariants as error
use Rattle.redis_error.specs.declared.fault_kind.FaultKind.{FaultKind}
use Rattle.redis_error.specs.declared.fault_kind.FaultKind.TheVariants as fault
use Rattle.outside.specs.declared.streams.Streams.{Streams}
use Rattle.outside.specs.declared.world.Dialed.{Dialed}
use Rattle.outside.specs.declared.world.Dialed.TheVariants as dialed

-- whether a link has a stream
abbrev pub has_stream : {S : Type 0} → Streams S → ℕ → Bool
has_stream streams link = is_some (get nat_cmp streams.by_link link)

-- the same links have a stream as before
abbrev pub SameLinks : {S : Type 0} → Streams S → Streams S → Type 0
SameLinks before now = (link : ℕ) → has_stream now link ≡ has_stream before link

-- this link now has a stream, or has none, and the others are as they were
abbrev pub ChangesLink : {S : Type 0} → Streams S → Streams S → ℕ → Bool → Type 0
ChangesLink before now link has = (other : ℕ) → has_stream now other ≡ (if link == other then has else has_stream before other)

-- whether a dial connected its link
abbrev pub is_yes : Dialed → Bool
is_yes dialed.Yes = true
is_yes (dialed.Failed k) = false

-- the fault that an error of the system is: the one of its name, and else another
abbrev pub fault_of : ErrorKind → FaultKind
fault_of error.ConnectionRefused = fault.Refused
fault_of error.ConnectionReset = fault.Reset
fault_of error.ConnectionAborted = fault.Aborted
fault_of error.NotConnected = fault.NotConnected
fault_of error.BrokenPipe = fault.BrokenPipe
fault_of error.UnexpectedEof = fault.Eof
fault_of error.TimedOut = fault.TimedOut
fault_of error.Interrupted = fault.Interrupted
fault_of error.PermissionDenied = fault.Denied
fault_of _ = fault.Other
