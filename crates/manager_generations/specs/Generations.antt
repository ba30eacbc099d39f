-- What the generations of a manager do. Each is some attempts to connect, one after another, until a link is set up or all have
-- failed; and one follows another where a cause for that came.
use Rattle.std.specs.Prelude.{ℕ, ◌+◌, ◌^◌, ◌==◌, nat_lt, nat_le, Bool, true, false, ◌&&◌, ◌||◌, not, [], ◌∷◌, ◌++◌, Option, None, Some, if◌then◌else◌}
use Rattle.resp_value.specs.ErrorTable.{needs_new_link}
use Rattle.redis_error.specs.Errors.{error_method, is_io}
use Rattle.redis_error.specs.declared.redis_error.RedisError.{RedisError}
use Rattle.redis_error.specs.declared.redis_error.RedisError.TheVariants as error
use Rattle.manager_config.specs.Backoff.{backoff}
use Rattle.manager_generations.specs.declared.act.ManagerAct.{ManagerAct}
use Rattle.manager_generations.specs.declared.act.ManagerAct.TheVariants as act
use Rattle.manager_generations.specs.declared.act.ManagerTimer.TheVariants as timer
use Rattle.manager_generations.specs.declared.generations.Generations.{Generations}
use Rattle.manager_generations.specs.declared.phase.Phase.{Phase}
use Rattle.manager_generations.specs.declared.phase.Phase.TheVariants.{Idle, Opening, Resting, Resubscribing, Ready, Lost, Failed}
use Rattle.manager_generations.specs.declared.settings.Settings.{Settings}
use Rattle.manager_generations.specs.Phases.{is_resting}

-- one more act
abbrev pub shown : Generations → ManagerAct → Generations
shown g a = record g { acts = g.acts ++ a ∷ [] }

abbrev pub at_phase : Generations → Phase → Generations
at_phase g phase = record g { phase = phase }

-- none has begun
abbrev pub unbegun : Settings → Bool → Bool → Generations
unbegun settings resp3 created = record {
  settings = settings;
  resp3 = resp3;
  created = created;
  halted = false;
  number = 0;
  attempt = 0;
  links = 0;
  phase = Idle;
  due = false;
  acts = [];
}

-- the timer of a connect that is bounded
abbrev pub bounded : Generations → ℕ → Option ℕ → Generations
bounded g link None = g
bounded g link (Some ms) = shown g (act.Timer (timer.Connect link) ms)

-- within how many milliseconds a link is to be connected and set up, if within any
abbrev pub connect_within : Generations → Option ℕ
connect_within g = g.settings.config.connection.connection_timeout

-- the next link is asked for
abbrev pub dialed : Generations → Generations
dialed g = bounded (shown (record g { links = g.links + 1; phase = Opening }) (act.Connect g.links)) g.links (connect_within g)

-- the next generation begins with its first attempt
abbrev pub begun : Generations → Generations
begun g = dialed (shown (record g { number = g.number + 1; attempt = 0; due = false }) (act.Generation (g.number + 1)))

-- that the manager is made is shown once
abbrev pub creation_shown : Generations → Generations
creation_shown g = if g.created then g else shown (record g { created = true }) (act.Created None)

-- the generation is ready
abbrev pub made_ready : Generations → Generations
made_ready g = creation_shown (at_phase g Ready)

-- the link of an attempt is set up: the generation is ready, or subscribes again first, where it is to and names are subscribed
abbrev pub goes_on : Generations → Bool → Generations
goes_on g subscribed = if g.settings.config.automatic_resubscription && subscribed then at_phase g Resubscribing else made_ready g

abbrev pub set_up_at : Generations → Bool → Phase → Generations
set_up_at g subscribed Opening = goes_on g subscribed
set_up_at g subscribed Idle = g
set_up_at g subscribed Resting = g
set_up_at g subscribed Resubscribing = g
set_up_at g subscribed Ready = g
set_up_at g subscribed Lost = g
set_up_at g subscribed (Failed e) = g

abbrev pub set_up : Generations → Bool → Generations
set_up g subscribed = set_up_at g subscribed g.phase

-- what was subscribed is subscribed again, or can't be
abbrev pub resubscribed_at : Generations → Phase → Generations
resubscribed_at g Resubscribing = made_ready g
resubscribed_at g Idle = g
resubscribed_at g Opening = g
resubscribed_at g Resting = g
resubscribed_at g Ready = g
resubscribed_at g Lost = g
resubscribed_at g (Failed e) = g

abbrev pub resubscribed : Generations → Generations
resubscribed g = resubscribed_at g g.phase

-- a wait before the next attempt, of a length that this word draws
abbrev pub rests : Generations → ℕ → Generations
rests g draw = shown (at_phase g Resting) (act.Timer (timer.Backoff g.number g.attempt) (backoff g.settings.config g.attempt draw))

-- where the manager isn't made yet its creation fails, and nothing begins any more
abbrev pub creation_failed : Generations → RedisError → Generations
creation_failed g e = if g.created then g else shown (record g { halted = true }) (act.Created (Some e))

-- another attempt is left
abbrev pub has_attempts : Generations → Bool
has_attempts g = nat_lt g.attempt g.settings.config.number_of_retries

-- an attempt fails: another follows after a wait, or the generation has failed with this error
abbrev pub retries : Generations → RedisError → ℕ → Generations
retries g e draw = if has_attempts g then rests g draw else creation_failed (at_phase g (Failed e)) e

abbrev pub attempt_failed_at : Generations → RedisError → ℕ → Phase → Generations
attempt_failed_at g e draw Opening = retries g e draw
attempt_failed_at g e draw Idle = g
attempt_failed_at g e draw Resting = g
attempt_failed_at g e draw Resubscribing = g
attempt_failed_at g e draw Ready = g
attempt_failed_at g e draw Lost = g
attempt_failed_at g e draw (Failed f) = g

abbrev pub attempt_failed : Generations → RedisError → ℕ → Generations
attempt_failed g e draw = attempt_failed_at g e draw g.phase

-- another attempt is left, before which it waits behind this one of this generation
abbrev pub rests_behind : Generations → ℕ → ℕ → Bool
rests_behind g number attempt = is_resting g.phase && (g.number == number) && (g.attempt == attempt) && has_attempts g

-- the next attempt begins
abbrev pub tried_again : Generations → Generations
tried_again g = dialed (record g { attempt = g.attempt + 1 })

-- the wait behind this attempt of this generation is over
abbrev pub rested : Generations → ℕ → ℕ → Generations
rested g number attempt = if rests_behind g number attempt then tried_again g else g

-- a cause for the next generation came, or didn't
abbrev pub caused : Generations → Bool → Generations
caused g cause = record g { due = g.due || cause }

-- the link of the generation has ended. After it was ready that is a cause where RESP3 is spoken
abbrev pub lost_at : Generations → Phase → Generations
lost_at g Ready = caused (at_phase g Lost) g.resp3
lost_at g Resubscribing = at_phase (made_ready g) Lost
lost_at g Idle = g
lost_at g Opening = g
lost_at g Resting = g
lost_at g Lost = g
lost_at g (Failed e) = g

abbrev pub lost : Generations → Generations
lost g = lost_at g g.phase

-- whether it is a cause that a request is answered with this error: of a generation that has failed, where it is an I/O error;
-- of any other, where only a new link can help
abbrev pub is_cause_at : Phase → RedisError → Bool
is_cause_at (Failed f) e = is_io e
is_cause_at Idle e = needs_new_link (error_method e)
is_cause_at Opening e = needs_new_link (error_method e)
is_cause_at Resting e = needs_new_link (error_method e)
is_cause_at Resubscribing e = needs_new_link (error_method e)
is_cause_at Ready e = needs_new_link (error_method e)
is_cause_at Lost e = needs_new_link (error_method e)

-- a request of the generation is answered with this error
abbrev pub answered_with : Generations → RedisError → Generations
answered_with g e = caused g (is_cause_at g.phase e)

-- the next generation is to begin
abbrev pub begins_next : Generations → Bool
begins_next g = g.due && not g.halted

-- all outcomes of the turn's event came: the next generation begins, where a cause came
abbrev pub outcomes_done : Generations → Generations
outcomes_done g = if begins_next g then begun g else g

-- everything is shut down: requests are answered with the closed connection, and nothing begins any more
abbrev pub shut_down : Generations → Generations
shut_down g = record g { phase = Failed error.Closed; halted = true }

-- the number 2^32 - 1 was given to a link or to a generation
abbrev pub runs_out : Generations → Bool
runs_out g = nat_le (2 ^ 32) g.links || nat_le (2 ^ 32) g.number
