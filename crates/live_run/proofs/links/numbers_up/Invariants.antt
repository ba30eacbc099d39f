use Rattle.std.proofs.Common.{◌≡◌}
use Rattle.live_run.proofs.Searches.{numbers_upto}
use Rattle.live_run.proofs.links.numbers_up.Given as goal

abbrev pub invariant-loop-place : goal.invariant-loop-place
invariant-loop-place l = l.numbers ≡ numbers_upto l.place l.links
