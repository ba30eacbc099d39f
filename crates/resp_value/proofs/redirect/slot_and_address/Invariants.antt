use Rattle.std.proofs.Common.{◌≡◌, ◌<◌, drop}
use Rattle.resp_value.specs.Redirect.{slot_and_address, slot_after}
use Rattle.resp_value.proofs.redirect.slot_and_address.Given as goal

-- the digits that were passed are those of the slot so far
abbrev pub invariant-loop-index : goal.invariant-loop-index
invariant-loop-index l = record {
  so_far : slot_and_address l.detail ≡ slot_after l.slot (drop l.index l.detail);
  below : l.slot < 16_384;
}
