use Rattle.std.proofs.Common.{arith}
use Rattle.resp_value.proofs.Children.{item_falls, pair_falls}
use Rattle.resp_value.proofs.same.+same.Goals as goal

pub same_items-same-requires : goal.same_items-same-requires
same_items-same-requires t c =
    let falls = item_falls _ _ _ _ c.loop-item.invariant.0 c.item-item.is c.loop-item-test.true in
    (omega arith, tt)

pub same_members-same_pair-requires : goal.same_members-same_pair-requires
same_members-same_pair-requires t c =
    let falls = pair_falls _ _ _ _ c.loop-pair.invariant.0 c.pair-item.is c.loop-pair-test.true in
    (omega arith, tt)
