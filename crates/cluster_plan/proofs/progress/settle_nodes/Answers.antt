use Rattle.std.proofs.Common.{◌∙◌, ap, map, vec_len, arith}
use Rattle.cluster_plan.specs.Progress.{settled}
use Rattle.cluster_plan.proofs.Settling.{whole_items}
use Rattle.cluster_plan.proofs.progress.settle_nodes.Goals as goal

pub returns : goal.returns
returns c =
    whole_items (vec_len c.args.nodes.now) c.settle_all.new.nodes c.args.nodes.now.items (omega arith)
    ∙ c.settle_all.ensures
    ∙ ap (map (settled c.args.address.now c.args.link)) c.as_mut_slice.ensures.value
