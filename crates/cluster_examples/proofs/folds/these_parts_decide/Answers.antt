use Rattle.std.proofs.Common.{refl}
use Rattle.std.specs.Fmt.{digits}
use Rattle.fan_out.specs.Fold.{fold}
use Rattle.cluster_examples.specs.Folds.{folded}
use Rattle.cluster_examples.specs.FoldPolicies.{under_all, under_one, under_first, under_special}
use Rattle.cluster_examples.proofs.Computed.{gives}
use Rattle.cluster_examples.proofs.folds.these_parts_decide.Goals as goal

pub returns : goal.returns
unfolding fold digits
returns c = record { all = gives folded under_all refl; one = gives folded under_one refl; first = gives folded under_first refl; special = gives folded under_special refl }
