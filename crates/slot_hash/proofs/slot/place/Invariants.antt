use Rattle.std.proofs.Common.{◌≡◌, ◌+◌, drop}
use Rattle.slot_hash.specs.Tag.{place}
use Rattle.slot_hash.proofs.slot.place.Given as goal

abbrev pub invariant-loop-i : goal.invariant-loop-i
invariant-loop-i l = place l.wanted l.bytes ≡ l.i + place l.wanted (drop l.i l.bytes)
