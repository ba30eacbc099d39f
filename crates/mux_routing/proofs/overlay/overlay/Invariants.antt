use Rattle.std.proofs.Common.{◌≤◌, ◌-◌}
use Rattle.mux_routing.specs.Ranges.{row_in}
use Rattle.mux_routing.specs.Shards.{or_else}
use Rattle.mux_routing.proofs.Overlaying.{Left}
use Rattle.mux_routing.proofs.Pushing.{Tell}
use Rattle.mux_routing.proofs.overlay.overlay.Given as goal

abbrev pub invariant-loop-at : goal.invariant-loop-at
invariant-loop-at l = record {
  slots : l.at ≤ 16_384;
  told : Tell l.ranges.items l.at (λ slot. or_else (row_in l.fn.later slot) (row_in l.fn.earlier slot));
  earlier : Left l.earlier l.fn.earlier l.at;
  later : Left l.later l.fn.later l.at;
}

abbrev pub decreases-loop-at : goal.decreases-loop-at
decreases-loop-at l = 16_384 - l.at
