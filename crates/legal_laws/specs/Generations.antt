-- How a session that comes back goes from one generation to the next, and from one attempt to the next.
use Rattle.std.specs.Prelude.{◌≡◌, ◌≢◌, ℕ, ◌+◌, ◌≤◌, max, true, false, List, [], ◌∷◌, ◌++◌, Some}
use Rattle.driver_model.specs.declared.action.Action.{Action}
use Rattle.driver_model.specs.declared.action.Action.TheVariants as action
use Rattle.driver_model.specs.declared.action.Purpose.TheVariants as purpose
use Rattle.manager_config.specs.declared.config.ConnectionManagerConfig.{ConnectionManagerConfig}
use Rattle.manager_config.specs.Backoff.{backoff}
use Rattle.legal_trace.specs.Ledger.{is_over}
use Rattle.legal_trace.specs.Managers.{settings_in}
use Rattle.legal_trace.specs.Book.{Book, book, has_generations}
use Rattle.legal_trace.specs.Legal.{IsOpen, current_link, is_attempt, is_caused, generation_due, rest_due, word_of}
use Rattle.legal_laws.specs.Notices.{IsWhole}

-- generation g may begin: the session comes back, nothing was shut down, and the creation didn't fail; it has the next number; and where
-- there was one before, there is a cause in this turn, its link has ended, and none of its submissions is open
pub record Begins (b : Book) (g : ℕ) : Type 0 where
  pub comes_back : has_generations b ≡ true
  pub runs : b.shut ≡ false
  pub well : b.failed ≡ false
  pub next : g ≡ b.generation + 1
  pub caused : b.generation ≢ 0 → is_caused b ≡ true
  pub over : b.generation ≢ 0 → is_over (current_link b) ≡ true
  pub answered : b.generation ≢ 0 → (n : ℕ) → IsOpen b n → ⊥

-- what comes next asks for link l
abbrev pub ConnectsNext : ℕ → List Action → Type 0
ConnectsNext l (action.Connect m host port ∷ more) = m ≡ l
ConnectsNext l _ = ⊥

-- wherever a generation begins it may, and its first link is asked for next, with the next number
abbrev pub BeginsByCause : List Action → Type 0
BeginsByCause trace =
    (front more : List Action) (g : ℕ) → trace ≡ front ++ action.Generation g ∷ more → Begins (book front) g × ConnectsNext (book front).links more

-- behind each whole turn none is to begin: no cause is left
abbrev pub LeavesNoCause : List Action → Type 0
LeavesNoCause trace = (front more : List Action) → trace ≡ front ++ more → IsWhole more → generation_due (book front) ≡ false

-- behind each front one link is current: every other one that was asked for has ended
abbrev pub OneIsCurrent : List Action → Type 0
OneIsCurrent trace =
    (front more : List Action) (l : ℕ) → trace ≡ front ++ more → l ≢ (book front).current → ((book front).link l).asked ≡ true
    → is_over ((book front).link l) ≡ true

-- open submissions go to it, and are of the current generation, or of the first before that began
abbrev pub OpenOnesAreCurrent : List Action → Type 0
OpenOnesAreCurrent trace =
    (front more : List Action) (n : ℕ) → trace ≡ front ++ more → IsOpen (book front) n
    → (((book front).story n).link ≡ (book front).current) × (((book front).story n).generation ≡ max 1 (book front).generation)

-- how many links a trace asks for since a generation began, behind so many
abbrev pub attempts_behind : ℕ → List Action → ℕ
attempts_behind k [] = k
attempts_behind k (action.Generation g ∷ more) = attempts_behind 0 more
attempts_behind k (action.Connect l host port ∷ more) = attempts_behind (k + 1) more
attempts_behind k (_ ∷ more) = attempts_behind k more

-- a generation has no more attempts than the configuration says, and the first
abbrev pub TriesWithin : List Action → Type 0
TriesWithin trace =
    (front more : List Action) (settings : ConnectionManagerConfig) → trace ≡ front ++ more → settings_in (book front).config ≡ Some settings
    → attempts_behind 0 front ≤ settings.number_of_retries + 1

-- this wait is one behind a failed attempt that another one follows: of the delay that the number of the attempt and the word of the turn
-- give
pub record Rests (b : Book) (ms g : ℕ) : Type 0 where
  pub failed : is_attempt (current_link b).end ≡ true
  pub current : g ≡ b.generation
  pub settings : ConnectionManagerConfig
  pub set : settings_in b.config ≡ Some settings
  pub long : ms ≡ backoff settings b.attempt (word_of b.running)

-- so it is wherever its timer is asked for
abbrev pub RestsAsSaid : List Action → Type 0
RestsAsSaid trace =
    (front more : List Action) (t ms g : ℕ) → trace ≡ front ++ action.Timer t ms (purpose.Backoff g) ∷ more → Rests (book front) ms g

-- behind each whole turn no such wait is to begin
abbrev pub LeavesNoRest : List Action → Type 0
LeavesNoRest trace = (front more : List Action) → trace ≡ front ++ more → IsWhole more → rest_due (book front) ≡ false

-- generations begin exactly by their causes, in the turns of these, once all of the generation before are answered; one link is current
-- at a time; and each generation tries as often as it may, with waits between
pub record ComesBack (trace : List Action) : Type 0 where
  pub begins : BeginsByCause trace
  pub leaves : LeavesNoCause trace
  pub current : OneIsCurrent trace
  pub open_ones : OpenOnesAreCurrent trace
  pub tries : TriesWithin trace
  pub rests : RestsAsSaid trace
  pub rested : LeavesNoRest trace
