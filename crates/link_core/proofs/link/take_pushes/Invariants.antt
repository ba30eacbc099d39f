use Rattle.std.proofs.Common.{◌≡◌, ◌++◌, length, take}
use Rattle.link_core.specs.Link.{pushes_among}
use Rattle.link_core.proofs.link.take_pushes.Given as goal

abbrev pub invariant-loop-told : goal.invariant-loop-told
invariant-loop-told l = record {
  pushed : l.pushes.items ++ pushes_among l.rest ≡ l.fn.pushes.items ++ pushes_among l.fn.notices.items;
  front : take (length l.fn.pushes.items) l.pushes.items ≡ l.fn.pushes.items;
}

abbrev pub decreases-loop-told : goal.decreases-loop-told
decreases-loop-told l = length l.rest
