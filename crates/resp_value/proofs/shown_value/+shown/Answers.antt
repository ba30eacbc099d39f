use Rattle.std.proofs.Common.{arith}
use Rattle.resp_value.proofs.Children.{item_falls, pair_falls}
use Rattle.resp_value.proofs.shown_value.+shown.Goals as goal

pub show_items-show-requires : goal.show_items-show-requires
show_items-show-requires g t c =
    let falls = item_falls _ _ _ _ c.loop-index.invariant c.value-item.is c.loop-index-test.true in
    λ κs outlives. (omega arith, outlives)

pub show_members-show_pair-requires : goal.show_members-show_pair-requires
show_members-show_pair-requires g t c =
    let falls = pair_falls _ _ _ _ c.loop-index.invariant c.pair-item.is c.loop-index-test.true in
    λ κs outlives. (omega arith, outlives)
