use Rattle.std.proofs.Common.{◌≡◌, drop}
use Rattle.std.specs.List.{list_all}
use Rattle.resp_value.specs.View.{pairs_view}
use Rattle.fan_out.specs.Shapes.{is_count}
use Rattle.fan_out.proofs.shape.all_counts.Given as goal

-- those that were passed are counts
abbrev pub invariant-loop-pair : goal.invariant-loop-pair
invariant-loop-pair l = list_all (λ p. is_count p.0 p.1) (pairs_view l.pairs) ≡ list_all (λ p. is_count p.0 p.1) (pairs_view (drop l.pair-index l.pairs))
