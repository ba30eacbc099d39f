use Rattle.resp_value.specs.View.{data_of}
use Rattle.resp_convert.proofs.Fit.{items_fit, no_items_fit, list_of_items}
use Rattle.resp_convert.proofs.aggregates.take_items.Goals as goal

pub take_values-requires : goal.take_values-requires
take_values-requires g c =
    items_fit (data_of c.args.value) (data_of c.into_bare.result) c.into_bare.ensures g.T.FromRedisValue.fits _ c.in-Some.ensures c.requires

pub unreachable-requires : goal.unreachable-requires
unreachable-requires g c =
    no_items_fit (data_of c.args.value) (data_of c.into_bare.result) c.into_bare.ensures g.T.FromRedisValue.fits c.in-None.ensures c.requires

pub returns : goal.returns
returns g c =
    list_of_items (data_of c.args.value) (data_of c.into_bare.result) c.into_bare.ensures g.T.FromRedisValue.reads _ c.in-Some.ensures c.take_values.result c.take_values.ensures
