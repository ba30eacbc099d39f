use Rattle.std.proofs.Common.{sym, ap, ◌∙◌}
use Rattle.resp_value.specs.View.{data_of}
use Rattle.resp_convert.specs.Types.{items_in}
use Rattle.resp_convert.proofs.Fit.{told_list, no_list}
use Rattle.resp_convert.proofs.aggregates.look_at_items.Goals as goal

pub returns-in-Some : goal.returns-in-Some
returns-in-Some g c =
    told_list g.T.FromRedisValue.moves g.T.FromRedisValue.fits g.T.FromRedisValue.reads (data_of c.args.value.now) _ (sym (ap items_in c.bare.ensures) ∙ c.in-Some.ensures) c.look_at_values.result c.look_at_values.ensures

pub returns-in-None : goal.returns-in-None
returns-in-None g c =
    no_list g.T.FromRedisValue.reads (data_of c.args.value.now) (sym (ap items_in c.bare.ensures) ∙ c.in-None.ensures)
