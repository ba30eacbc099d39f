use Rattle.std.proofs.Common.{◌≡◌, ◌+◌, suc, ◌++◌, drop}
use Rattle.resp_value.specs.Data.{weight, list_weight, pairs_weight, items_of, members_of}
use Rattle.resp_value.specs.View.{data_of, list_view, pairs_view}
use Rattle.resp_write.specs.Canonical.{each_item, each_member}
use Rattle.resp_write.proofs.value_text.+text.Given as goal

-- twice the nodes, and a step for the line before a list
abbrev pub decreases-push_pairs : goal.decreases-push_pairs
decreases-push_pairs l = pairs_weight l.pairs.now + pairs_weight l.pairs.now

abbrev pub decreases-push_values : goal.decreases-push_values
decreases-push_values l = list_weight l.values.now + list_weight l.values.now

abbrev pub decreases-push_list : goal.decreases-push_list
decreases-push_list l = suc (list_weight l.values.now + list_weight l.values.now)

abbrev pub decreases-push_value : goal.decreases-push_value
decreases-push_value l = weight (data_of l.value.now) + weight (data_of l.value.now)

-- what is written and what is left are the whole
abbrev pub invariant-push_pairs-loop-pair : goal.invariant-push_pairs-loop-pair
invariant-push_pairs-loop-pair l =
    (pairs_view l.pair-items ≡ l.pairs)
    × (l.out ++ each_member (members_of (pairs_view (drop l.pair-index l.pair-items))) ≡ l.fn.out ++ each_member (members_of (pairs_view l.pair-items)))

abbrev pub invariant-push_values-loop-value : goal.invariant-push_values-loop-value
invariant-push_values-loop-value l =
    (list_view l.value-items ≡ l.values)
    × (l.out ++ each_item (items_of (list_view (drop l.value-index l.value-items))) ≡ l.fn.out ++ each_item (items_of (list_view l.value-items)))
