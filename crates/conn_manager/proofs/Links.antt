-- Links are only ever added.
use Rattle.std.proofs.Common.{◌≡◌, ◌≤◌, ℕ, ◌+◌, Bool, false, ◌&&◌, Option, None, Some, refl, arith}
use Rattle.containers.proofs.Choices.{chosen}
use Rattle.redis_error.specs.declared.redis_error.RedisError.{RedisError}
use Rattle.manager_generations.specs.declared.act.ManagerAct.TheVariants as act
use Rattle.manager_generations.specs.declared.generations.Generations.{Generations}
use Rattle.manager_generations.specs.declared.phase.Phase.{Phase}
use Rattle.manager_generations.specs.declared.phase.Phase.TheVariants.{Idle, Opening, Resting, Resubscribing, Ready, Lost, Failed}
use Rattle.manager_generations.specs.Generations.{shown, bounded, connect_within, dialed, begun, made_ready, goes_on, set_up_at, resubscribed_at, has_attempts, retries, at_phase, attempt_failed_at, rests_behind, lost_at}
use Rattle.manager_generations.specs.Moves.{Move, link_set_up, subscribed_again, opening_fails, wait_over, link_ends, answer, closes, shows, moved}

-- as many links, or more
abbrev pub Adds : Generations → Generations → Type 0
Adds g h = g.links ≤ h.links

as_many : (g h : Generations) → h.links ≡ g.links → Adds g h
as_many g h is = omega (arith, is)

bounded_adds : (g h : Generations) (link : ℕ) (ms : Option ℕ) → Adds g h → Adds g (bounded h link ms)
bounded_adds g h link None more = more
bounded_adds g h link (Some ms) more = more

dialed_adds : (g h : Generations) → Adds g h → Adds g (dialed h)
dialed_adds g h more = bounded_adds g (shown (record h { links = h.links + 1; phase = Opening }) (act.Connect h.links)) h.links (connect_within h) (omega (arith, more))

pub begun_adds : (g : Generations) → Adds g (begun g)
begun_adds g = dialed_adds g (shown (record g { number = g.number + 1; attempt = 0; due = false }) (act.Generation (g.number + 1))) (as_many g g refl)

ready_adds : (g : Generations) → Adds g (made_ready g)
ready_adds g = chosen (Adds g) g.created _ _ (λ _. as_many g g refl) (λ _. as_many g g refl)

goes_on_adds : (g : Generations) (subscribed : Bool) → Adds g (goes_on g subscribed)
goes_on_adds g subscribed = chosen (Adds g) (g.settings.config.automatic_resubscription && subscribed) _ _ (λ _. as_many g g refl) (λ _. ready_adds g)

set_up_adds : (g : Generations) (subscribed : Bool) (p : Phase) → Adds g (set_up_at g subscribed p)
set_up_adds g subscribed Opening = goes_on_adds g subscribed
set_up_adds g subscribed Idle = as_many g g refl
set_up_adds g subscribed Resting = as_many g g refl
set_up_adds g subscribed Resubscribing = as_many g g refl
set_up_adds g subscribed Ready = as_many g g refl
set_up_adds g subscribed Lost = as_many g g refl
set_up_adds g subscribed (Failed e) = as_many g g refl

resubscribed_adds : (g : Generations) (p : Phase) → Adds g (resubscribed_at g p)
resubscribed_adds g Resubscribing = ready_adds g
resubscribed_adds g Idle = as_many g g refl
resubscribed_adds g Opening = as_many g g refl
resubscribed_adds g Resting = as_many g g refl
resubscribed_adds g Ready = as_many g g refl
resubscribed_adds g Lost = as_many g g refl
resubscribed_adds g (Failed e) = as_many g g refl

retries_adds : (g : Generations) (e : RedisError) (draw : ℕ) → Adds g (retries g e draw)
retries_adds g e draw =
    chosen (Adds g) (has_attempts g) _ _ (λ _. as_many g g refl)
    (λ _. chosen (Adds g) g.created (at_phase g (Failed e)) _ (λ _. as_many g g refl) (λ _. as_many g g refl))

failed_adds : (g : Generations) (e : RedisError) (draw : ℕ) (p : Phase) → Adds g (attempt_failed_at g e draw p)
failed_adds g e draw Opening = retries_adds g e draw
failed_adds g e draw Idle = as_many g g refl
failed_adds g e draw Resting = as_many g g refl
failed_adds g e draw Resubscribing = as_many g g refl
failed_adds g e draw Ready = as_many g g refl
failed_adds g e draw Lost = as_many g g refl
failed_adds g e draw (Failed f) = as_many g g refl

lost_adds : (g : Generations) (p : Phase) → Adds g (lost_at g p)
lost_adds g Ready = as_many g g refl
lost_adds g Resubscribing = ready_adds g
lost_adds g Idle = as_many g g refl
lost_adds g Opening = as_many g g refl
lost_adds g Resting = as_many g g refl
lost_adds g Lost = as_many g g refl
lost_adds g (Failed e) = as_many g g refl

pub moved_adds : (g : Generations) (m : Move) → Adds g (moved g m)
moved_adds g (link_set_up subscribed) = set_up_adds g subscribed g.phase
moved_adds g subscribed_again = resubscribed_adds g g.phase
moved_adds g (opening_fails e draw) = failed_adds g e draw g.phase
moved_adds g (wait_over number attempt) = chosen (Adds g) (rests_behind g number attempt) _ _ (λ _. dialed_adds g (record g { attempt = g.attempt + 1 }) (as_many g g refl)) (λ _. as_many g g refl)
moved_adds g link_ends = lost_adds g g.phase
moved_adds g (answer e) = as_many g g refl
moved_adds g closes = as_many g g refl
moved_adds g (shows a) = as_many g g refl
