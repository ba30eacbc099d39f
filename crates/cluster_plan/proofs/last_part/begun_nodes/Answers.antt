use Rattle.std.proofs.Common.{◌≡◌, ◌≤◌, ◌∙◌, length, arith}
use Rattle.mux_routing.specs.Shards.{node_places}
use Rattle.cluster_plan.proofs.Arriving.{looked_over}
use Rattle.cluster_plan.proofs.last_part.begun_nodes.Goals as goal

pub returns : goal.returns
returns c =
    let numbers : c.deref-number-items.result.now ≡ node_places c.args.slots.now = c.deref-number-items.ensures.value ∙ c.in_ok-numbers.ensures.are in
    let over : length c.deref-number-items.result.now ≤ c.loop-number.number-index = omega arith in
    looked_over c.args.entries.now c.args.slots.now c.loop-number.nodes c.deref-number-items.result.now c.loop-number.number-index numbers over c.loop-number.invariant
