use Rattle.resp_value.specs.View.{data_of}
use Rattle.resp_convert.proofs.Each.{all_more, none_at, not_at}
use Rattle.resp_convert.proofs.convert.FromRedisValue.look_at_values.Goals as goal

pub loop-value-preserved : goal.loop-value-preserved
loop-value-preserved g c =
    all_more data_of g.Self.FromRedisValue.fits _ c.loop-value.value-index _ c.loop-value-test.true c.value-item.is c.loop-value.invariant c.in-Fits.ensures

pub returns-in-Unfit : goal.returns-in-Unfit
returns-in-Unfit g c =
    none_at data_of g.Self.FromRedisValue.reads _ c.loop-value.value-index _ c.loop-value-test.true c.value-item.is c.in-Unfit.ensures

pub returns-in-Untold : goal.returns-in-Untold
returns-in-Untold g c =
    not_at data_of g.Self.FromRedisValue.moves _ c.loop-value.value-index _ c.loop-value-test.true c.value-item.is c.in-Untold.ensures
