use Rattle.live_run.specs.Places.{AreOthersBefore, itself}
use Rattle.live_run.proofs.links.place_in.Given as goal

abbrev pub invariant-loop-place : goal.invariant-loop-place
invariant-loop-place l = AreOthersBefore itself l.number l.place l.numbers
