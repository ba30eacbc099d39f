use Rattle.std.proofs.Common.{◌∙◌}
use Rattle.cluster_retries.proofs.Unions.{one_less, one_put_in}
use Rattle.cluster_retries.proofs.address_set.AddressSet.join.Goals as goal

pub loop-address-preserved : goal.loop-address-preserved
loop-address-preserved c = (
  one_less c.loop-address.rest c.pop_front.new.self c.loop-address.self c.insert.new.self c.in-Some.address c.in-Some.ensures c.in_ok-insert.ensures.ok ∙ c.loop-address.invariant.0,
  one_put_in c.args.self.now c.args.more c.loop-address.rest c.pop_front.new.self c.loop-address.self c.insert.new.self c.in-Some.address c.loop-address.invariant.1 c.in-Some.ensures c.in_ok-insert.ensures.ok,
)
