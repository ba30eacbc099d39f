use Rattle.std.proofs.Common.{◌≡◌, ◌+◌, suc, take}
use Rattle.resp_value.specs.Data.{weight, list_weight, pairs_weight}
use Rattle.resp_value.specs.View.{data_of, list_view, pairs_view}
use Rattle.resp_value.proofs.value.+copy.Given as goal

-- twice the nodes, and a step for an attribute or a push, which is taken apart
abbrev pub decreases-Pairs::clone : goal.decreases-Pairs::clone
decreases-Pairs::clone l = pairs_weight l.self.now + pairs_weight l.self.now

abbrev pub decreases-Value::clone : goal.decreases-Value::clone
decreases-Value::clone l = weight (data_of l.self.now) + weight (data_of l.self.now)

abbrev pub decreases-Values::clone : goal.decreases-Values::clone
decreases-Values::clone l = list_weight l.self.now + list_weight l.self.now

abbrev pub decreases-clone_attribute : goal.decreases-clone_attribute
decreases-clone_attribute l = suc ((weight l.inner.now + pairs_weight l.attributes.now) + (weight l.inner.now + pairs_weight l.attributes.now))

abbrev pub decreases-clone_push : goal.decreases-clone_push
decreases-clone_push l = suc (list_weight l.parts.now + list_weight l.parts.now)

abbrev pub invariant-Pairs::clone-loop-item : goal.invariant-Pairs::clone-loop-item
invariant-Pairs::clone-loop-item l = (pairs_view l.item-items ≡ l.self) × (l.copies ≡ pairs_view (take l.item-index l.item-items))

abbrev pub invariant-Values::clone-loop-item : goal.invariant-Values::clone-loop-item
invariant-Values::clone-loop-item l = (list_view l.item-items ≡ l.self) × (l.copies ≡ list_view (take l.item-index l.item-items))
