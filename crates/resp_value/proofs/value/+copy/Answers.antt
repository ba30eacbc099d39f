use Rattle.std.proofs.Common.{arith}
use Rattle.resp_value.proofs.Children.{item_falls, pair_falls}
use Rattle.resp_value.proofs.value.+copy.Goals as goal

pub Values::clone-clone-requires : goal.Values::clone-clone-requires
Values::clone-clone-requires t c =
    let falls = item_falls _ _ _ _ c.loop-item.invariant.0 c.item-item.is c.loop-item-test.true in
    (omega arith, tt)

pub Pairs::clone-clone-requires : goal.Pairs::clone-clone-requires
Pairs::clone-clone-requires t c =
    let falls = pair_falls _ _ _ _ c.loop-item.invariant.0 c.item-item.is c.loop-item-test.true in
    (omega arith, tt)

pub Pairs::clone-clone-requires-in-loop-item : goal.Pairs::clone-clone-requires-in-loop-item
Pairs::clone-clone-requires-in-loop-item t c =
    let falls = pair_falls _ _ _ _ c.loop-item.invariant.0 c.item-item.is c.loop-item-test.true in
    (omega arith, tt)
