use Rattle.std.proofs.Common.{◌≡◌, ◌+◌, suc}
use Rattle.resp_value.specs.Data.{weight, list_weight, pairs_weight}
use Rattle.resp_value.specs.View.{data_of, list_view, pairs_view}
use Rattle.resp_value.proofs.shown_value.+shown.Given as goal

-- twice the nodes, and a step for what is shown before those that a value holds
abbrev pub decreases-show : goal.decreases-show
decreases-show g l = suc (weight (data_of l.value.now) + weight (data_of l.value.now))

abbrev pub decreases-show_held : goal.decreases-show_held
decreases-show_held g l = weight (data_of l.value.now) + weight (data_of l.value.now)

abbrev pub decreases-show_items : goal.decreases-show_items
decreases-show_items g l = list_weight l.values.now + list_weight l.values.now

abbrev pub decreases-show_members : goal.decreases-show_members
decreases-show_members g l = suc (pairs_weight l.pairs.now + pairs_weight l.pairs.now)

abbrev pub decreases-show_pair : goal.decreases-show_pair
decreases-show_pair g l = suc (suc (weight (data_of l.key.now) + weight (data_of l.key.now)) + (weight (data_of l.value.now) + weight (data_of l.value.now)))

abbrev pub invariant-show_items-loop-index : goal.invariant-show_items-loop-index
invariant-show_items-loop-index g l = list_view l.value-items ≡ l.values

abbrev pub invariant-show_members-loop-index : goal.invariant-show_members-loop-index
invariant-show_members-loop-index g l = pairs_view l.pair-items ≡ l.pairs
