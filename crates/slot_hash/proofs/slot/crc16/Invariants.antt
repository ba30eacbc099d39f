use Rattle.std.proofs.Common.{◌≡◌, drop}
use Rattle.slot_hash.specs.Crc.{crc16, crc_from}
use Rattle.slot_hash.proofs.slot.crc16.Given as goal

abbrev pub invariant-loop-byte : goal.invariant-loop-byte
invariant-loop-byte l = crc16 l.bytes ≡ crc_from l.crc (drop l.byte-index l.bytes)
