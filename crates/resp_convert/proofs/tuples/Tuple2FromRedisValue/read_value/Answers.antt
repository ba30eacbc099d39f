use Rattle.std.proofs.Common.{◌≡◌, Some, subst}
use Rattle.resp_value.specs.View.{data_of, list_view}
use Rattle.resp_convert.specs.Types.{AreTwo, items_in}
use Rattle.resp_convert.proofs.Fronts.{of_items}
use Rattle.resp_convert.proofs.tuples.Tuple2FromRedisValue.read_value.Goals as goal

pub returns-in-Some : goal.returns-in-Some
returns-in-Some g c =
    let items = list_view c.in-Some.items.now in
    of_items (AreTwo g.A.FromRedisValue.reads g.B.FromRedisValue.reads) (data_of c.args.value.now) items c.read_two.result (subst (λ d. items_in d ≡ Some items) c.bare.ensures c.in-Some.ensures) c.read_two.ensures
