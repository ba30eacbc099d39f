use Rattle.resp_value.specs.View.{data_of}
use Rattle.resp_convert.proofs.Fit.{members_fit, no_members_fit, pairs_of_members}
use Rattle.resp_convert.proofs.aggregates.take_pairs.Goals as goal

pub take_members-requires : goal.take_members-requires
take_members-requires g c =
    members_fit (data_of c.args.value) (data_of c.into_bare.result) c.into_bare.ensures g.K.FromRedisValue.fits g.V.FromRedisValue.fits _ c.in-Some.ensures c.requires

pub unreachable-requires : goal.unreachable-requires
unreachable-requires g c =
    no_members_fit (data_of c.args.value) (data_of c.into_bare.result) c.into_bare.ensures g.K.FromRedisValue.fits g.V.FromRedisValue.fits c.in-None.ensures c.requires

pub returns : goal.returns
returns g c =
    pairs_of_members (data_of c.args.value) (data_of c.into_bare.result) c.into_bare.ensures g.K.FromRedisValue.reads g.V.FromRedisValue.reads _ c.in-Some.ensures c.take_members.result c.take_members.ensures
