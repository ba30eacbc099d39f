use Rattle.std.proofs.Common.{arith}
use Rattle.trace_text.proofs.Children.{item_falls, key_falls, member_falls}
use Rattle.trace_text.proofs.writer.Writer.+text.Goals as goal

pub values-value-requires : goal.values-value-requires
values-value-requires t c =
    let falls = item_falls _ _ _ _ c.loop-value.invariant.0 c.value-item.is c.loop-value-test.true in
    (omega arith, tt)

pub pairs-value-requires : goal.pairs-value-requires
pairs-value-requires t c =
    let falls = key_falls _ _ _ _ c.loop-pair.invariant.0 c.pair-item.is c.loop-pair-test.true in
    (omega arith, tt)

pub pairs-value-requires-in-loop-pair : goal.pairs-value-requires-in-loop-pair
pairs-value-requires-in-loop-pair t c =
    let falls = member_falls _ _ _ _ c.loop-pair.invariant.0 c.pair-item.is c.loop-pair-test.true in
    (omega arith, tt)
