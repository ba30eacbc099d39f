use Rattle.std.proofs.Common.{arith}
use Rattle.resp_value.proofs.Children.{item_falls, pair_falls}
use Rattle.resp_value.proofs.first_error.+error.Goals as goal

pub some_holds_error-holds_error-requires : goal.some_holds_error-holds_error-requires
some_holds_error-holds_error-requires t c =
    let falls = item_falls _ _ _ _ c.loop-value.invariant.0 c.value-item.is c.loop-value-test.true in
    (omega arith, tt)

pub pair_holds_error-one_holds_error-requires : goal.pair_holds_error-one_holds_error-requires
pair_holds_error-one_holds_error-requires t c =
    let falls = pair_falls _ _ _ _ c.loop-pair.invariant.0 c.pair-item.is c.loop-pair-test.true in
    (omega arith, tt)
