use Rattle.std.proofs.Common.{◌≡◌, ◌+◌, is_some, drop}
use Rattle.resp_value.specs.Data.{weight, list_weight, pairs_weight, items_of, members_of}
use Rattle.resp_value.specs.View.{data_of, list_view, pairs_view}
use Rattle.resp_value.specs.FirstError.{error_among, error_in_pairs}
use Rattle.resp_value.proofs.first_error.+error.Given as goal

abbrev pub decreases-holds_error : goal.decreases-holds_error
decreases-holds_error l = weight (data_of l.value.now)

abbrev pub decreases-pair_holds_error : goal.decreases-pair_holds_error
decreases-pair_holds_error l = pairs_weight l.pairs.now

abbrev pub decreases-some_holds_error : goal.decreases-some_holds_error
decreases-some_holds_error l = list_weight l.values.now

-- those that were passed hold none
abbrev pub invariant-pair_holds_error-loop-pair : goal.invariant-pair_holds_error-loop-pair
invariant-pair_holds_error-loop-pair l =
    (pairs_view l.pair-items ≡ l.pairs)
    × (is_some (error_in_pairs (members_of (pairs_view (drop l.pair-index l.pair-items)))) ≡ is_some (error_in_pairs (members_of (pairs_view l.pair-items))))

abbrev pub invariant-some_holds_error-loop-value : goal.invariant-some_holds_error-loop-value
invariant-some_holds_error-loop-value l =
    (list_view l.value-items ≡ l.values)
    × (is_some (error_among (items_of (list_view (drop l.value-index l.value-items)))) ≡ is_some (error_among (items_of (list_view l.value-items))))

abbrev pub decreases-one_holds_error : goal.decreases-one_holds_error
decreases-one_holds_error l = weight (data_of l.key.now) + weight (data_of l.value.now)
