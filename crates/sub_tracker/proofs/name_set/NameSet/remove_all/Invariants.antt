use Rattle.std.proofs.Common.{◌≡◌, drop}
use Rattle.sub_tracker.specs.Held.{without_all}
use Rattle.sub_tracker.proofs.name_set.NameSet.remove_all.Given as goal

-- what is there without what is left is the whole
abbrev pub invariant-loop-name : goal.invariant-loop-name
invariant-loop-name l = without_all l.self (drop l.name-index l.names) ≡ without_all l.fn.self l.names
