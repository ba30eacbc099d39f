use Rattle.std.proofs.Common.{◌≡◌, drop}
use Rattle.std.specs.Option.{option_copied, option_or}
use Rattle.cluster_client.specs.Dialled.{last_for}
use Rattle.cluster_client.proofs.dialled.last_for.Given as goal

abbrev pub invariant-loop-pair : goal.invariant-loop-pair
invariant-loop-pair l = option_or (last_for (drop l.pair-index l.pairs) l.address) (option_copied l.last) ≡ last_for l.pairs l.address
