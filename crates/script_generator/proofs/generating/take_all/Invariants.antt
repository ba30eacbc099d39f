use Rattle.script_generator.specs.Fronts.{front, IsAt}
use Rattle.script_generator.proofs.generating.take_all.Given as goal

abbrev pub invariant-loop-round : goal.invariant-loop-round
invariant-loop-round l = IsAt (front l.round) l.session l.counts
