use Rattle.std.proofs.lemmas.List.Filters.{dedup_is}
use Rattle.mux_routing.proofs.Members.{sorted_once}
use Rattle.mux_routing.proofs.addresses.addresses.Goals as goal

pub returns : goal.returns
returns c =
    sorted_once c.args.rows.now _ _ c.dedup.new.self.items c.in_ok-nodes.ensures c.sort_unstable.ensures.permutation c.sort_unstable.ensures.sorted (dedup_is _ _ _ c.dedup.ensures.filtered)
