use Rattle.std.proofs.Common.{arith}
use Rattle.resp_write.proofs.Children.{item_falls, key_falls, member_falls}
use Rattle.resp_write.proofs.value_text.+text.Goals as goal

pub push_values-push_value-requires : goal.push_values-push_value-requires
push_values-push_value-requires t c =
    let falls = item_falls _ _ _ _ c.loop-value.invariant.0 c.value-item.is c.loop-value-test.true in
    (omega arith, tt)

pub push_pairs-push_value-requires : goal.push_pairs-push_value-requires
push_pairs-push_value-requires t c =
    let falls = key_falls _ _ _ _ c.loop-pair.invariant.0 c.pair-item.is c.loop-pair-test.true in
    (omega arith, tt)

pub push_pairs-push_value-requires-in-loop-pair : goal.push_pairs-push_value-requires-in-loop-pair
push_pairs-push_value-requires-in-loop-pair t c =
    let falls = member_falls _ _ _ _ c.loop-pair.invariant.0 c.pair-item.is c.loop-pair-test.true in
    (omega arith, tt)
