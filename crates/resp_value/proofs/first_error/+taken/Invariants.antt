use Rattle.std.proofs.Common.{◌≡◌, ◌≤◌, length}
use Rattle.resp_value.specs.Data.{weight, list_weight, pairs_weight, items_of, members_of}
use Rattle.resp_value.specs.View.{data_of, list_view, pairs_view}
use Rattle.resp_value.specs.FirstError.{error_among, error_in_pairs}
use Rattle.resp_value.proofs.first_error.+taken.Given as goal

abbrev pub decreases-into_error : goal.decreases-into_error
decreases-into_error l = weight (data_of l.value)

abbrev pub decreases-error_among : goal.decreases-error_among
decreases-error_among l = list_weight l.values

abbrev pub decreases-error_in_pairs : goal.decreases-error_in_pairs
decreases-error_in_pairs l = pairs_weight l.pairs

-- the first error among those that are left is the first of all, and they are no more
abbrev pub invariant-error_among-loop-value : goal.invariant-error_among-loop-value
invariant-error_among-loop-value l = record {
  found : error_among (items_of (list_view l.rest)) ≡ error_among (items_of l.fn.values);
  fewer : list_weight (list_view l.rest) ≤ list_weight l.fn.values;
}

abbrev pub invariant-error_in_pairs-loop-key : goal.invariant-error_in_pairs-loop-key
invariant-error_in_pairs-loop-key l = record {
  found : error_in_pairs (members_of (pairs_view l.rest)) ≡ error_in_pairs (members_of l.fn.pairs);
  fewer : pairs_weight (pairs_view l.rest) ≤ pairs_weight l.fn.pairs;
}

abbrev pub decreases-error_among-loop-value : goal.decreases-error_among-loop-value
decreases-error_among-loop-value l = length l.rest

abbrev pub decreases-error_in_pairs-loop-key : goal.decreases-error_in_pairs-loop-key
decreases-error_in_pairs-loop-key l = length l.rest
