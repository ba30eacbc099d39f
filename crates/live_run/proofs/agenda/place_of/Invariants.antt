use Rattle.live_run.specs.Places.{AreOthersBefore, target_link}
use Rattle.live_run.proofs.agenda.place_of.Given as goal

abbrev pub invariant-loop-place : goal.invariant-loop-place
invariant-loop-place l = AreOthersBefore target_link l.link l.place l.dials
