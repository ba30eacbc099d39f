use Rattle.std.proofs.Common.{◌≡◌, length}
use Rattle.connection_setup.specs.Judgement.{has_phrase}
use Rattle.connection_setup.proofs.phrase.has_phrase.Given as goal

-- the phrase doesn't begin in what was passed
abbrev pub invariant-loop-text : goal.invariant-loop-text
invariant-loop-text l = has_phrase l.phrase l.text ≡ has_phrase l.phrase l.initial.text

abbrev pub decreases-loop-text : goal.decreases-loop-text
decreases-loop-text l = length l.text
