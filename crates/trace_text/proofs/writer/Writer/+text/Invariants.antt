use Rattle.std.proofs.Common.{◌≡◌, ◌+◌, ◌*◌, ◌++◌, drop}
use Rattle.resp_value.specs.Data.{weight, list_weight, pairs_weight, items_of, members_of}
use Rattle.resp_value.specs.View.{data_of, list_view, pairs_view}
use Rattle.resp_write.specs.Canonical.{each_item, each_member}
use Rattle.trace_text.proofs.Plain.{all_escaped}
use Rattle.trace_text.proofs.writer.Writer.+text.Given as goal

abbrev pub decreases-pairs : goal.decreases-pairs
decreases-pairs l = 2 * pairs_weight l.pairs.now

abbrev pub decreases-values : goal.decreases-values
decreases-values l = 2 * list_weight l.values.now

abbrev pub decreases-value : goal.decreases-value
decreases-value l = 2 * weight (data_of l.value.now) + 1

abbrev pub decreases-paired : goal.decreases-paired
decreases-paired l = 2 * weight (data_of l.value.now)

-- the text before the line stays, and what is written and what is left are the whole
abbrev pub invariant-pairs-loop-pair : goal.invariant-pairs-loop-pair
invariant-pairs-loop-pair l =
    (pairs_view l.pair-items ≡ l.pairs)
    × (l.self.before ≡ l.fn.self.before)
    × (l.self.line ++ all_escaped (each_member (members_of (pairs_view (drop l.pair-index l.pair-items)))) ≡ l.fn.self.line ++ all_escaped (each_member (members_of (pairs_view l.pair-items))))

abbrev pub invariant-values-loop-value : goal.invariant-values-loop-value
invariant-values-loop-value l =
    (list_view l.value-items ≡ l.values)
    × (l.self.before ≡ l.fn.self.before)
    × (l.self.line ++ all_escaped (each_item (items_of (list_view (drop l.value-index l.value-items)))) ≡ l.fn.self.line ++ all_escaped (each_item (items_of (list_view l.value-items))))
