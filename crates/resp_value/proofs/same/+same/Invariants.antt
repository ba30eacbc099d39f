use Rattle.std.proofs.Common.{◌≡◌, ◌+◌, drop}
use Rattle.std.specs.Slice.Iter.{iter_rest}
use Rattle.resp_value.specs.Data.{weight, list_weight, pairs_weight, items_of, members_of}
use Rattle.resp_value.specs.View.{data_of, list_view, pairs_view}
use Rattle.resp_value.specs.Same.{same_items, same_members}
use Rattle.resp_value.proofs.same.+same.Given as goal

abbrev pub decreases-same : goal.decreases-same
decreases-same l = weight (data_of l.one.now)

abbrev pub decreases-same_items : goal.decreases-same_items
decreases-same_items l = list_weight l.one.now

abbrev pub decreases-same_members : goal.decreases-same_members
decreases-same_members l = pairs_weight l.one.now

abbrev pub decreases-same_pair : goal.decreases-same_pair
decreases-same_pair l = weight (data_of l.one.now.0) + weight (data_of l.one.now.1)

-- the lists are the same where those that are left of them are
abbrev pub invariant-same_items-loop-item : goal.invariant-same_items-loop-item
invariant-same_items-loop-item l =
    (list_view l.item-items ≡ l.one)
    × (same_items (items_of (list_view (drop l.item-index l.item-items))) (items_of (list_view (iter_rest l.others))) ≡ same_items (items_of l.one) (items_of l.other))

abbrev pub invariant-same_members-loop-pair : goal.invariant-same_members-loop-pair
invariant-same_members-loop-pair l =
    (pairs_view l.pair-items ≡ l.one)
    × (same_members (members_of (pairs_view (drop l.pair-index l.pair-items))) (members_of (pairs_view (iter_rest l.others))) ≡ same_members (members_of l.one) (members_of l.other))
