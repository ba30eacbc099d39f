use Rattle.std.proofs.Common.{rules}
use Rattle.mux_routing.proofs.Answering.{stand_within}
use Rattle.mux_routing.proofs.slot_map.SlotMap.shard_fallback_addrs.Goals as goal

pub returns-in_default-clause-places : goal.returns-in_default-clause-places
returns-in_default-clause-places c = stand_within c.args.route.slot c.args.self.now c.args.route.addr c.new.result.items (search rules)

pub returns-in-Master-clause-places : goal.returns-in-Master-clause-places
returns-in-Master-clause-places c = stand_within c.args.route.slot c.args.self.now c.args.route.addr c.new-in-Master.result.items (search rules)

pub returns-in_ok-push-in-ReplicaOptional-clause-places : goal.returns-in_ok-push-in-ReplicaOptional-clause-places
returns-in_ok-push-in-ReplicaOptional-clause-places c = stand_within c.args.route.slot c.args.self.now c.args.route.addr c.push.new.self.items (search rules)

pub returns-in_ok-nodes-in-ReplicaRequired-clause-places : goal.returns-in_ok-nodes-in-ReplicaRequired-clause-places
returns-in_ok-nodes-in-ReplicaRequired-clause-places c = stand_within c.args.route.slot c.args.self.now c.args.route.addr c.in_ok-nodes-in-ReplicaRequired.nodes.items (search rules)
