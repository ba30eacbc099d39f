use Rattle.std.proofs.Common.{refl}
use Rattle.slot_hash.specs.Crc.{crc16, after_byte}
use Rattle.slot_hash.specs.Tag.{hashed, slot_of}
use Rattle.protocol_examples.specs.Slots.{checksums, hash_tags, slots_of_keys}
use Rattle.protocol_examples.proofs.Computed.{gives}
use Rattle.protocol_examples.proofs.routing.keys_have_these_slots.Goals as goal

pub returns : goal.returns
unfolding after_byte
returns c = record { checksums = gives crc16 checksums refl; tags = gives hashed hash_tags refl; slots = gives slot_of slots_of_keys refl }
