-- How far a generation has come, as tests.
use Rattle.std.specs.Prelude.{Bool, true, false}
use Rattle.manager_generations.specs.declared.phase.Phase.{Phase}
use Rattle.manager_generations.specs.declared.phase.Phase.TheVariants.{Idle, Opening, Resting, Resubscribing, Ready, Lost, Failed}

-- no generation has begun
abbrev pub is_idle : Phase → Bool
is_idle Idle = true
is_idle Opening = false
is_idle Resting = false
is_idle Resubscribing = false
is_idle Ready = false
is_idle Lost = false
is_idle (Failed e) = false

-- the link of an attempt is connected or set up
abbrev pub is_opening : Phase → Bool
is_opening Idle = false
is_opening Opening = true
is_opening Resting = false
is_opening Resubscribing = false
is_opening Ready = false
is_opening Lost = false
is_opening (Failed e) = false

-- the wait behind an attempt goes on
abbrev pub is_resting : Phase → Bool
is_resting Idle = false
is_resting Opening = false
is_resting Resting = true
is_resting Resubscribing = false
is_resting Ready = false
is_resting Lost = false
is_resting (Failed e) = false

-- what was subscribed is subscribed again
abbrev pub is_resubscribing : Phase → Bool
is_resubscribing Idle = false
is_resubscribing Opening = false
is_resubscribing Resting = false
is_resubscribing Resubscribing = true
is_resubscribing Ready = false
is_resubscribing Lost = false
is_resubscribing (Failed e) = false

-- its link takes requests
abbrev pub is_ready : Phase → Bool
is_ready Idle = false
is_ready Opening = false
is_ready Resting = false
is_ready Resubscribing = false
is_ready Ready = true
is_ready Lost = false
is_ready (Failed e) = false

-- its link took requests, or could have, and has ended
abbrev pub is_lost : Phase → Bool
is_lost Idle = false
is_lost Opening = false
is_lost Resting = false
is_lost Resubscribing = false
is_lost Ready = false
is_lost Lost = true
is_lost (Failed e) = false

-- each request is answered with an error of its own
abbrev pub is_failed : Phase → Bool
is_failed Idle = false
is_failed Opening = false
is_failed Resting = false
is_failed Resubscribing = false
is_failed Ready = false
is_failed Lost = false
is_failed (Failed e) = true
