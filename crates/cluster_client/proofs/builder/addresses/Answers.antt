use Rattle.cluster_client.proofs.Gathering.{kept_on}
use Rattle.cluster_client.proofs.builder.addresses.Goals as goal

pub loop-one-preserved : goal.loop-one-preserved
loop-one-preserved g c =
    kept_on g.T.IntoConnectionInfo.address c.loop-one.found c.push.new.self c.in-Some-2.info c.in-Some.one c.loop-one.left c.pop_front.new.self c.in_ok-info.field-0 _
    c.in-Some.ensures c.in_ok-info.ensures c.in-Some-2.is c.in_ok-push.ensures.ok c.loop-one.invariant
