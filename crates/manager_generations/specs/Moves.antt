-- Any list of what may happen to generations in a turn, and what follows of it.
use Rattle.std.specs.Prelude.{◌≡◌, ◌<◌, ◌≤◌, ℕ, ◌+◌, Bool, true, false, ◌&&◌, ◌||◌, List, [], ◌∷◌, ◌++◌, Option, None, Some}
use Rattle.redis_error.specs.declared.redis_error.RedisError.{RedisError}
use Rattle.manager_config.specs.Backoff.{backoff}
use Rattle.manager_generations.specs.declared.act.ManagerAct.{ManagerAct}
use Rattle.manager_generations.specs.declared.act.ManagerAct.TheVariants as act
use Rattle.manager_generations.specs.declared.act.ManagerTimer.TheVariants as timer
use Rattle.manager_generations.specs.declared.generations.Generations.{Generations}
use Rattle.manager_generations.specs.declared.phase.Phase.TheVariants.{Opening}
use Rattle.manager_generations.specs.Phases.{is_ready, is_failed}
use Rattle.manager_generations.specs.Generations.{shown, begun, set_up, resubscribed, attempt_failed, rested, rests_behind, lost, is_cause_at, answered_with, outcomes_done, shut_down}

-- a link is set up, where names are subscribed or aren't; it is subscribed again; its opening fails with this error, where this word
-- is drawn; the wait behind an attempt of a generation is over; a link ends; a request is answered with this error; everything is
-- shut down; or the manager shows this act, which is none of its generations
pub data Move : Type 0 where
  link_set_up : Bool → Move
  subscribed_again : Move
  opening_fails : RedisError → ℕ → Move
  wait_over : ℕ → ℕ → Move
  link_ends : Move
  answer : RedisError → Move
  closes : Move
  shows : ManagerAct → Move

abbrev pub moved : Generations → Move → Generations
moved g (link_set_up subscribed) = set_up g subscribed
moved g subscribed_again = resubscribed g
moved g (opening_fails e draw) = attempt_failed g e draw
moved g (wait_over number attempt) = rested g number attempt
moved g link_ends = lost g
moved g (answer e) = answered_with g e
moved g closes = shut_down g
moved g (shows a) = shown g a

abbrev pub moved_each : Generations → List Move → Generations
moved_each g [] = g
moved_each g (m ∷ more) = moved_each (moved g m) more

-- what happens in a turn, and then its end
abbrev pub turn : Generations → List Move → Generations
turn g moves = outcomes_done (moved_each g moves)

-- One of the three causes for the next generation: the link ends, after the generation was ready, on RESP3; a request of a
-- generation that has failed is answered with an I/O error; or one of another generation with an error that only a new link helps
abbrev pub is_cause : Generations → Move → Bool
is_cause g link_ends = is_ready g.phase && g.resp3
is_cause g (answer e) = is_cause_at g.phase e
is_cause g (link_set_up subscribed) = false
is_cause g subscribed_again = false
is_cause g (opening_fails e draw) = false
is_cause g (wait_over number attempt) = false
is_cause g closes = false
is_cause g (shows a) = false

-- one of these is a cause where it comes
abbrev pub has_cause : Generations → List Move → Bool
has_cause g [] = false
has_cause g (m ∷ more) = is_cause g m || has_cause (moved g m) more

-- the timer of a connect that is bounded
abbrev pub connect_timer : ℕ → Option ℕ → List ManagerAct
connect_timer link None = []
connect_timer link (Some ms) = act.Timer (timer.Connect link) ms ∷ []

-- what shows that the generation behind these begins: its number, its first link, and the timer of its connect
abbrev pub beginning : Generations → List ManagerAct
beginning g = act.Generation (g.number + 1) ∷ act.Connect g.links ∷ connect_timer g.links g.settings.config.connection.connection_timeout

-- nothing begins any more, and requests are answered with an error
pub record IsOver (g : Generations) : Type 0 where
  pub halted : g.halted ≡ true
  pub failed : is_failed g.phase ≡ true

-- the acts that the manager shows itself
abbrev pub said_by : Move → List ManagerAct
said_by (shows a) = a ∷ []
said_by (link_set_up subscribed) = []
said_by subscribed_again = []
said_by (opening_fails e draw) = []
said_by (wait_over number attempt) = []
said_by link_ends = []
said_by (answer e) = []
said_by closes = []

abbrev pub said_by_each : List Move → List ManagerAct
said_by_each [] = []
said_by_each (m ∷ more) = said_by m ++ said_by_each more

-- the same generation, and no more links, nor acts but these
pub record IsUnmoved (old new : Generations) (acts : List ManagerAct) : Type 0 where
  pub number : new.number ≡ old.number
  pub links : new.links ≡ old.links
  pub said : new.acts ≡ old.acts ++ acts

-- A turn in which a cause comes replaces the current generation by the next one, once, and asks for its first link.
abbrev pub ReplacedByACause : Type 0
ReplacedByACause =
    (g : Generations) (moves : List Move) → g.due ≡ false → has_cause g moves ≡ true
    → (moved_each g moves).halted ≡ false
    → ((turn g moves).number ≡ g.number + 1) × ((turn g moves).acts ≡ (moved_each g moves).acts ++ beginning (moved_each g moves))

-- Without a cause it stands, and so it does once nothing begins any more.
abbrev pub StandsWithoutACause : Type 0
StandsWithoutACause =
    (g : Generations) (moves : List Move) → g.due ≡ false → has_cause g moves ≡ false
    → (turn g moves).number ≡ g.number

-- what no generation follows
abbrev pub StandsWhenHalted : Type 0
StandsWhenHalted =
    (g : Generations) (moves : List Move) → (moved_each g moves).halted ≡ true
    → (turn g moves).number ≡ g.number

-- Once nothing begins any more it stays so, whatever happens: no link is asked for, and nothing is shown of generations.
abbrev pub StaysOver : Type 0
StaysOver = (g : Generations) (moves : List Move) → IsOver g → IsOver (turn g moves) × IsUnmoved g (turn g moves) (said_by_each moves)

-- So it is behind a shutdown.
abbrev pub OverBehindAShutdown : Type 0
OverBehindAShutdown = (g : Generations) → IsOver (moved g closes)

-- And where the last attempt fails of a manager that isn't made yet.
abbrev pub OverBehindAFailedCreation : Type 0
OverBehindAFailedCreation =
    (g : Generations) (e : RedisError) (draw : ℕ) → g.phase ≡ Opening → g.created ≡ false
    → g.settings.config.number_of_retries ≤ g.attempt
    → IsOver (moved g (opening_fails e draw))

-- Behind an attempt that fails, while another is left, it waits as long as the attempt's number and the word that is drawn say.
abbrev pub WaitsByItsAttempt : Type 0
WaitsByItsAttempt =
    (g : Generations) (e : RedisError) (draw : ℕ) → g.phase ≡ Opening
    → g.attempt < g.settings.config.number_of_retries
    → (moved g (opening_fails e draw)).acts ≡ g.acts ++ act.Timer (timer.Backoff g.number g.attempt) (backoff g.settings.config g.attempt draw) ∷ []

-- The attempts of a generation are numbered from 0: the first begins with it, and each further one where the wait is over that was
-- asked for behind the one before it.
abbrev pub AttemptsAscend : Type 0
AttemptsAscend =
    (g : Generations) (number attempt : ℕ)
    → ((begun g).attempt ≡ 0)
    × (rests_behind g number attempt ≡ true → (moved g (wait_over number attempt)).attempt ≡ attempt + 1)
    × (rests_behind g number attempt ≡ false → moved g (wait_over number attempt) ≡ g)
