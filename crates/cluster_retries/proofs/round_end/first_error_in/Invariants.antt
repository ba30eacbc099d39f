use Rattle.std.proofs.Common.{◌≡◌, drop}
use Rattle.resp_value.specs.View.{list_view}
use Rattle.cluster_retries.specs.Ends.{first_error_in}
use Rattle.cluster_retries.proofs.round_end.first_error_in.Given as goal

-- the values that were passed count as no error
abbrev pub invariant-loop-value : goal.invariant-loop-value
invariant-loop-value l = first_error_in (list_view l.values) ≡ first_error_in (list_view (drop l.value-index l.values))
