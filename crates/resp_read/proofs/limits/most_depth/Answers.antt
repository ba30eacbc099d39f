use Rattle.std.proofs.Common.{refl}
use Rattle.resp_read.specs.Grammar.{max_depth}
use Rattle.resp_read.proofs.limits.most_depth.Goals as goal

pub returns : goal.returns
unfolding max_depth
returns c = refl
