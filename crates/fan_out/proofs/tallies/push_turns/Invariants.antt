use Rattle.std.proofs.Common.{◌≡◌, ◌++◌, length, map}
use Rattle.resp_value.specs.View.{list_view}
use Rattle.fan_out.specs.Tallies.{count_now, counts_by_turns}
use Rattle.fan_out.proofs.tallies.push_turns.Given as goal

-- the counts so far with what is left are all
abbrev pub invariant-loop-items : goal.invariant-loop-items
invariant-loop-items l = map count_now l.counts.items ++ counts_by_turns (list_view l.items) ≡ map count_now l.fn.counts.items ++ counts_by_turns (list_view l.initial.items)

abbrev pub decreases-loop-items : goal.decreases-loop-items
decreases-loop-items l = length l.items
