use Rattle.std.proofs.Common.{◌≡◌, ◌++◌, ◌∷◌, false}
use Rattle.sub_tracker.specs.Texts.{texts}
use Rattle.sub_tracker.proofs.name_set.NameSet.command.Given as goal

-- the command's arguments and the names that are left are the whole
abbrev pub invariant-loop-name : goal.invariant-loop-name
invariant-loop-name l = (l.command.args ++ texts l.name-iterator ≡ l.word ∷ l.self) × (l.command.no_response ≡ false)
