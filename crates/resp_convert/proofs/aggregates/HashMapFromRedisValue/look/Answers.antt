use Rattle.resp_value.specs.View.{data_of}
use Rattle.resp_convert.proofs.Fit.{told_hash_map_of}
use Rattle.resp_convert.proofs.aggregates.HashMapFromRedisValue.look.Goals as goal

pub returns : goal.returns
returns g c = told_hash_map_of g.K.FromRedisValue.moves g.V.FromRedisValue.moves g.K.FromRedisValue.fits g.V.FromRedisValue.fits g.K.FromRedisValue.reads g.V.FromRedisValue.reads (data_of c.args.value.now) c.look_at_pairs.result c.look_at_pairs.ensures _ _
