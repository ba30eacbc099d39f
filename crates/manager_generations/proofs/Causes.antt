-- What a turn makes of the current generation.
use Rattle.std.proofs.Common.{◌≡◌, ℕ, ◌+◌, Bool, true, false, ◌&&◌, ◌||◌, not, List, [], ◌∷◌, ◌++◌, Option, None, Some, refl, sym, ap, ◌∙◌, append_assoc, if◌then◌else◌}
use Rattle.std.proofs.lemmas.List.{append-nil}
use Rattle.redis_error.specs.declared.redis_error.RedisError.{RedisError}
use Rattle.manager_generations.specs.declared.act.ManagerAct.TheVariants as act
use Rattle.manager_generations.specs.declared.generations.Generations.{Generations}
use Rattle.manager_generations.specs.declared.phase.Phase.{Phase}
use Rattle.manager_generations.specs.declared.phase.Phase.TheVariants.{Idle, Opening, Resting, Resubscribing, Ready, Lost, Failed}
use Rattle.manager_generations.specs.Phases.{is_ready}
use Rattle.manager_generations.specs.Generations.{shown, bounded, connect_within, dialed, begun, made_ready, goes_on, set_up_at, resubscribed_at, has_attempts, retries, attempt_failed_at, rested, rests_behind, lost_at, outcomes_done}
use Rattle.manager_generations.specs.Moves.{Move, link_set_up, subscribed_again, opening_fails, wait_over, link_ends, answer, closes, shows, moved, moved_each, is_cause, has_cause, connect_timer, beginning, ReplacedByACause, StandsWithoutACause, StandsWhenHalted}

-- what is true of both is true of what is chosen
pub both : (P : Generations → Type 0) (b : Bool) {x y : Generations} → P x → P y → P (if b then x else y)
both P true p q = p
both P false p q = q

or_none : (b : Bool) → (b || false) ≡ b
or_none true = refl
or_none false = refl

or_assoc : (a b c : Bool) → ((a || b) || c) ≡ (a || (b || c))
or_assoc true b c = refl
or_assoc false b c = refl

-- these have the same cause, and the same number
record Same (old new : Generations) : Type 0 where
  due : new.due ≡ old.due
  number : new.number ≡ old.number

same : (g : Generations) → Same g g
same g = record { due = refl; number = refl }

bounded_same : (g h : Generations) (link : ℕ) (ms : Option ℕ) → Same g h → Same g (bounded h link ms)
bounded_same g h link None s = s
bounded_same g h link (Some ms) s = record { due = s.due; number = s.number }

ready_same : (g : Generations) → Same g (made_ready g)
ready_same g = both (Same g) g.created (record { due = refl; number = refl }) (record { due = refl; number = refl })

goes_on_same : (g : Generations) (subscribed : Bool) → Same g (goes_on g subscribed)
goes_on_same g subscribed = both (Same g) (g.settings.config.automatic_resubscription && subscribed) (record { due = refl; number = refl }) (ready_same g)

set_up_same : (g : Generations) (subscribed : Bool) (p : Phase) → Same g (set_up_at g subscribed p)
set_up_same g subscribed Opening = goes_on_same g subscribed
set_up_same g subscribed Idle = same g
set_up_same g subscribed Resting = same g
set_up_same g subscribed Resubscribing = same g
set_up_same g subscribed Ready = same g
set_up_same g subscribed Lost = same g
set_up_same g subscribed (Failed e) = same g

resubscribed_same : (g : Generations) (p : Phase) → Same g (resubscribed_at g p)
resubscribed_same g Resubscribing = ready_same g
resubscribed_same g Idle = same g
resubscribed_same g Opening = same g
resubscribed_same g Resting = same g
resubscribed_same g Ready = same g
resubscribed_same g Lost = same g
resubscribed_same g (Failed e) = same g

retries_same : (g : Generations) (e : RedisError) (draw : ℕ) → Same g (retries g e draw)
retries_same g e draw =
    both (Same g) (has_attempts g) (record { due = refl; number = refl })
    (both (Same g) g.created (record { due = refl; number = refl }) (record { due = refl; number = refl }))

failed_same : (g : Generations) (e : RedisError) (draw : ℕ) (p : Phase) → Same g (attempt_failed_at g e draw p)
failed_same g e draw Opening = retries_same g e draw
failed_same g e draw Idle = same g
failed_same g e draw Resting = same g
failed_same g e draw Resubscribing = same g
failed_same g e draw Ready = same g
failed_same g e draw Lost = same g
failed_same g e draw (Failed f) = same g

dialed_same : (g h : Generations) → Same g h → Same g (dialed h)
dialed_same g h s = bounded_same g (shown (record h { links = h.links + 1; phase = Opening }) (act.Connect h.links)) h.links (connect_within h) (record { due = s.due; number = s.number })

rested_same : (g : Generations) (number attempt : ℕ) → Same g (rested g number attempt)
rested_same g number attempt = both (Same g) (rests_behind g number attempt) (dialed_same g (record g { attempt = g.attempt + 1 }) (record { due = refl; number = refl })) (same g)

-- a move leaves the number, and is a cause or none
record Moves (g : Generations) (m : Move) : Type 0 where
  due : (moved g m).due ≡ (g.due || is_cause g m)
  number : (moved g m).number ≡ g.number

no_cause : (g h : Generations) → Same g h → h.due ≡ (g.due || false)
no_cause g h s = s.due ∙ sym (or_none g.due)

lost_due : (g : Generations) (p : Phase) → (lost_at g p).due ≡ (g.due || (is_ready p && g.resp3))
lost_due g Ready = refl
lost_due g Resubscribing = (ready_same g).due ∙ sym (or_none g.due)
lost_due g Idle = sym (or_none g.due)
lost_due g Opening = sym (or_none g.due)
lost_due g Resting = sym (or_none g.due)
lost_due g Lost = sym (or_none g.due)
lost_due g (Failed e) = sym (or_none g.due)

lost_number : (g : Generations) (p : Phase) → (lost_at g p).number ≡ g.number
lost_number g Ready = refl
lost_number g Resubscribing = (ready_same g).number
lost_number g Idle = refl
lost_number g Opening = refl
lost_number g Resting = refl
lost_number g Lost = refl
lost_number g (Failed e) = refl

moves : (g : Generations) (m : Move) → Moves g m
moves g (link_set_up subscribed) = let s = set_up_same g subscribed g.phase in record { due = no_cause g (set_up_at g subscribed g.phase) s; number = s.number }
moves g subscribed_again = let s = resubscribed_same g g.phase in record { due = no_cause g (resubscribed_at g g.phase) s; number = s.number }
moves g (opening_fails e draw) = let s = failed_same g e draw g.phase in record { due = no_cause g (attempt_failed_at g e draw g.phase) s; number = s.number }
moves g (wait_over number attempt) = let s = rested_same g number attempt in record { due = no_cause g (rested g number attempt) s; number = s.number }
moves g link_ends = record { due = lost_due g g.phase; number = lost_number g g.phase }
moves g (answer e) = record { due = refl; number = refl }
moves g closes = record { due = sym (or_none g.due); number = refl }
moves g (shows a) = record { due = sym (or_none g.due); number = refl }

-- the same of several moves
due_each : (g : Generations) (ms : List Move) → (moved_each g ms).due ≡ (g.due || has_cause g ms)
due_each g [] = sym (or_none g.due)
due_each g (m ∷ more) =
    due_each (moved g m) more
    ∙ ap (λ (b : Bool). b || has_cause (moved g m) more) (moves g m).due
    ∙ or_assoc g.due (is_cause g m) (has_cause (moved g m) more)

number_each : (g : Generations) (ms : List Move) → (moved_each g ms).number ≡ g.number
number_each g [] = refl
number_each g (m ∷ more) = number_each (moved g m) more ∙ (moves g m).number

-- the acts that a bounded connect adds
bounded_acts : (g : Generations) (link : ℕ) (ms : Option ℕ) → (bounded g link ms).acts ≡ g.acts ++ connect_timer link ms
bounded_acts g link None = sym (append-nil g.acts)
bounded_acts g link (Some ms) = refl

bounded_number : (g : Generations) (link : ℕ) (ms : Option ℕ) → (bounded g link ms).number ≡ g.number
bounded_number g link None = refl
bounded_number g link (Some ms) = refl

begun_number : (g : Generations) → (begun g).number ≡ g.number + 1
begun_number g =
    let begins = shown (record g { number = g.number + 1; attempt = 0; due = false }) (act.Generation (g.number + 1)) in
    bounded_number (shown (record begins { links = g.links + 1; phase = Opening }) (act.Connect g.links)) g.links (connect_within g)

begun_acts : (g : Generations) → (begun g).acts ≡ g.acts ++ beginning g
begun_acts g =
    let begins = shown (record g { number = g.number + 1; attempt = 0; due = false }) (act.Generation (g.number + 1)) in
    let timer = connect_timer g.links (connect_within g) in
    bounded_acts (shown (record begins { links = g.links + 1; phase = Opening }) (act.Connect g.links)) g.links (connect_within g)
    ∙ append_assoc (g.acts ++ act.Generation (g.number + 1) ∷ []) (act.Connect g.links ∷ []) timer
    ∙ append_assoc g.acts (act.Generation (g.number + 1) ∷ []) (act.Connect g.links ∷ timer)

-- at a turn's end the next generation begins, or the current one stands
next : (g : Generations) → g.due ≡ true → g.halted ≡ false → outcomes_done g ≡ begun g
next g due halted = ap (λ (b : Bool). if (b && not g.halted) then begun g else g) due ∙ ap (λ (b : Bool). if not b then begun g else g) halted

undue : (g : Generations) → g.due ≡ false → outcomes_done g ≡ g
undue g due = ap (λ (b : Bool). if (b && not g.halted) then begun g else g) due

never : (b : Bool) (g : Generations) → (if (b && false) then begun g else g) ≡ g
never true g = refl
never false g = refl

pub halted_stands : (g : Generations) → g.halted ≡ true → outcomes_done g ≡ g
halted_stands g halted = ap (λ (b : Bool). if (g.due && not b) then begun g else g) halted ∙ never g.due g

due_now : (g : Generations) (ms : List Move) (b : Bool) → g.due ≡ false → has_cause g ms ≡ b → (moved_each g ms).due ≡ b
due_now g ms b none cause = due_each g ms ∙ ap (λ (x : Bool). x || has_cause g ms) none ∙ cause

pub replaced : ReplacedByACause
replaced g ms none cause on =
    let m = moved_each g ms in
    let is = next m (due_now g ms true none cause) on in (
      ap (λ (x : Generations). x.number) is ∙ begun_number m ∙ ap (λ (n : ℕ). n + 1) (number_each g ms),
      ap (λ (x : Generations). x.acts) is ∙ begun_acts m,
    )

pub stands : StandsWithoutACause
stands g ms none cause = ap (λ (x : Generations). x.number) (undue (moved_each g ms) (due_now g ms false none cause)) ∙ number_each g ms

pub stands_halted : StandsWhenHalted
stands_halted g ms halted = ap (λ (x : Generations). x.number) (halted_stands (moved_each g ms) halted) ∙ number_each g ms
