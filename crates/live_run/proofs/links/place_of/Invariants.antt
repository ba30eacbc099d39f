use Rattle.live_run.specs.Places.{AreOthersBefore, link_number}
use Rattle.live_run.proofs.links.place_of.Given as goal

abbrev pub invariant-loop-place : goal.invariant-loop-place
invariant-loop-place l = AreOthersBefore link_number l.number l.place l.links
