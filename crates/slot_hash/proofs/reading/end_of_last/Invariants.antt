use Rattle.std.proofs.Common.{◌≡◌, ◌≤◌, take}
use Rattle.slot_hash.specs.Address.{end_of_last}
use Rattle.slot_hash.proofs.reading.end_of_last.Given as goal

abbrev pub invariant-loop-i : goal.invariant-loop-i
invariant-loop-i l = record { is : l.end ≡ end_of_last l.wanted (take l.i l.bytes); bound : l.end ≤ l.i }
