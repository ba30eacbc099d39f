use Rattle.std.proofs.Common.{refl}
use Rattle.fan_out.specs.Fold.{fold}
use Rattle.cluster_examples.specs.Folds.{folded}
use Rattle.cluster_examples.specs.FoldWholes.{under_sum, under_min, under_and, under_arrays, under_slots, under_maps}
use Rattle.cluster_examples.proofs.Computed.{gives}
use Rattle.cluster_examples.proofs.folds.these_values_go_together.Goals as goal

pub returns : goal.returns
unfolding fold
returns c = record {
  sum = gives folded under_sum refl;
  least = gives folded under_min refl;
  rows = gives folded under_and refl;
  arrays = gives folded under_arrays refl;
  slots = gives folded under_slots refl;
  maps = gives folded under_maps refl;
}
