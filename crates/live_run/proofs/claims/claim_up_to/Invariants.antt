use Rattle.std.proofs.Common.{◌≤◌, max}
use Rattle.live_run.specs.Claims.{HasClaimed}
use Rattle.live_run.proofs.claims.claim_up_to.Given as goal

-- the numbers up to this one are claimed
abbrev pub invariant-loop-number : goal.invariant-loop-number
invariant-loop-number l = HasClaimed l.number l.keeper × (l.fn.claimed ≤ l.number) × (l.number ≤ max l.fn.claimed l.fn.generation)
