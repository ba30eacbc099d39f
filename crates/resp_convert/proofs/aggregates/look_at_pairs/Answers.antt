use Rattle.std.proofs.Common.{sym, ap, subst, ◌∙◌}
use Rattle.std.specs.List.{AllByRecursion}
use Rattle.resp_value.specs.View.{data_of}
use Rattle.resp_convert.specs.Convert.{IsTold}
use Rattle.resp_convert.specs.Types.{FitsPair, IsEach, IsPair}
use Rattle.resp_convert.proofs.Fit.{told_map}
use Rattle.resp_convert.proofs.aggregates.look_at_pairs.Goals as goal

pub returns-in-Map : goal.returns-in-Map
returns-in-Map g c =
    let fits = FitsPair g.K.FromRedisValue.fits g.V.FromRedisValue.fits in
    let moves = FitsPair g.K.FromRedisValue.moves g.V.FromRedisValue.moves in
    let reads = IsPair g.K.FromRedisValue.reads g.V.FromRedisValue.reads in
    told_map g.K.FromRedisValue.moves g.V.FromRedisValue.moves g.K.FromRedisValue.fits g.V.FromRedisValue.fits g.K.FromRedisValue.reads g.V.FromRedisValue.reads (data_of c.args.value.now) c.in-Map.pairs (sym (ap data_of c.in-Map.is) ∙ c.bare.ensures) c.look_at_members.result (
    subst (λ ps. IsTold (AllByRecursion moves) (AllByRecursion fits) (IsEach reads) ps c.look_at_members.result) c.as_slice.ensures c.look_at_members.ensures)
