use Rattle.resp_value.specs.View.{data_of}
use Rattle.resp_convert.proofs.Fit.{told_vec}
use Rattle.resp_convert.proofs.aggregates.VecFromRedisValue.look.Goals as goal

pub returns : goal.returns
returns g c = told_vec _ g.T.FromRedisValue.moves g.T.FromRedisValue.fits g.T.FromRedisValue.reads (data_of c.args.value.now) c.look_at_items.result c.look_at_items.ensures
