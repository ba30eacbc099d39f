use Rattle.std.proofs.Common.{◌≡◌, ◌∙◌, ap, map}
use Rattle.mux_routing.specs.Shards.{addresses}
use Rattle.cluster_plan.specs.Refresh.{renewed_by}
use Rattle.cluster_plan.specs.Steps.{begun_at, stepped}
use Rattle.cluster_plan.proofs.Going.{goes_renewed}
use Rattle.cluster_plan.proofs.last_part.renew.Goals as goal

pub returns-clause-is : goal.returns-clause-is
returns-clause-is c =
    let rows : c.in_ok-slots.slots ≡ c.args.rows = c.in_ok-slots.ensures.is in
    let entries : c.as_slice.result.now ≡ c.args.entries = c.as_slice.ensures in
    let nodes : c.in_ok-nodes.nodes ≡ map (begun_at c.args.entries) (addresses c.args.rows) = c.in_ok-nodes.ensures ∙ (λ i. map (begun_at (entries i)) (addresses (rows i))) in
    λ more.
    goes_renewed c.in_ok-state.state c.args.entries c.args.rows c.in_ok-nodes.nodes more nodes
    (λ m. c.in_ok-state.ensures.is m ∙ ap (λ rs. renewed_by c.args.entries rs (stepped c.in_ok-nodes.nodes m)) rows)
