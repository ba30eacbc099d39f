use Rattle.std.proofs.Common.{◌≡◌, ◌++◌, map}
use Rattle.fan_out.specs.Tallies.{shown}
use Rattle.fan_out.proofs.Keeping.{as_counts}
use Rattle.fan_out.proofs.tallies.Totals.shown.Given as goal

-- the pairs so far with what is left are all
abbrev pub invariant-loop-name : goal.invariant-loop-name
invariant-loop-name l = l.pairs ++ map shown (as_counts l.name-iterator) ≡ map shown l.self
