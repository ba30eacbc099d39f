use Rattle.resp_value.specs.View.{pair_of}
use Rattle.resp_convert.specs.Types.{FitsPair, IsPair}
use Rattle.resp_convert.proofs.Each.{all_more, none_at, not_at}
use Rattle.resp_convert.proofs.aggregates.look_at_members.Goals as goal

pub loop-member-preserved : goal.loop-member-preserved
loop-member-preserved g c =
    all_more pair_of (FitsPair g.K.FromRedisValue.fits g.V.FromRedisValue.fits) _ c.loop-member.member-index _ c.loop-member-test.true c.member-item.is c.loop-member.invariant c.in-Fits.ensures

pub returns-in-Unfit : goal.returns-in-Unfit
returns-in-Unfit g c =
    none_at pair_of (IsPair g.K.FromRedisValue.reads g.V.FromRedisValue.reads) _ c.loop-member.member-index _ c.loop-member-test.true c.member-item.is c.in-Unfit.ensures

pub returns-in-Untold : goal.returns-in-Untold
returns-in-Untold g c =
    not_at pair_of (FitsPair g.K.FromRedisValue.moves g.V.FromRedisValue.moves) _ c.loop-member.member-index _ c.loop-member-test.true c.member-item.is c.in-Untold.ensures
