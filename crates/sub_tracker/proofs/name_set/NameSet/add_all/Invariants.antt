use Rattle.std.proofs.Common.{◌≡◌, drop}
use Rattle.sub_tracker.specs.Held.{with_all}
use Rattle.sub_tracker.proofs.name_set.NameSet.add_all.Given as goal

-- what is there with what is left is the whole
abbrev pub invariant-loop-name : goal.invariant-loop-name
invariant-loop-name l = with_all l.self (drop l.name-index l.names) ≡ with_all l.fn.self l.names
