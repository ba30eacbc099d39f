use Rattle.std.proofs.Common.{subst}
use Rattle.resp_value.specs.View.{list_view}
use Rattle.resp_convert.specs.Convert.{IsRead}
use Rattle.resp_convert.specs.Types.{AreTwo}
use Rattle.resp_convert.proofs.Fronts.{behind, others}
use Rattle.resp_convert.proofs.tuples.read_three.Goals as goal

pub returns-in-None : goal.returns-in-None
returns-in-None g c x all =
    let rest = AreTwo g.B.FromRedisValue.reads g.C.FromRedisValue.reads in
    let none = subst (λ o. IsRead rest (list_view (behind c.args.items.now)) o) c.in-None.is c.in_ok-b.ensures in
    none (x.1, x.2) (others g.A.FromRedisValue.reads c.args.items.now _ x.0 (λ es. rest es (x.1, x.2)) c.in-len1-up.len_at_least c.first-item.is all)
