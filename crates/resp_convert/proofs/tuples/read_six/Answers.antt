use Rattle.std.proofs.Common.{subst}
use Rattle.resp_value.specs.View.{list_view}
use Rattle.resp_convert.specs.Convert.{IsRead}
use Rattle.resp_convert.specs.Types.{AreFive}
use Rattle.resp_convert.proofs.Fronts.{behind, others}
use Rattle.resp_convert.proofs.tuples.read_six.Goals as goal

pub returns-in-Ok-None : goal.returns-in-Ok-None
returns-in-Ok-None g c x all =
    let rest = AreFive g.B.FromRedisValue.reads g.C.FromRedisValue.reads g.D.FromRedisValue.reads g.E.FromRedisValue.reads g.F.FromRedisValue.reads in
    let none = subst (λ o. IsRead rest (list_view (behind c.args.items.now)) o) c.in-Ok-None.field-0-is c.in-Ok-None.ensures in
    none (x.1, x.2, x.3, x.4, x.5) (others g.A.FromRedisValue.reads c.args.items.now _ x.0 (λ es. rest es (x.1, x.2, x.3, x.4, x.5)) c.in-len1-up.len_at_least c.first-item.is all)
