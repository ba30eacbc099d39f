-- What a session in monitor mode does: MONITOR starts once, and what its server reports is told from its answer on.
use Rattle.std.specs.Prelude.{◌≡◌, ℕ, true, false, List, ◌∷◌, ◌++◌, Some, slice_get}
use Rattle.driver_model.specs.declared.action.Action.{Action}
use Rattle.driver_model.specs.declared.action.Action.TheVariants as action
use Rattle.driver_model.specs.declared.action.Owner.TheVariants as owner
use Rattle.driver_model.specs.declared.config.Config.{Config}
use Rattle.driver_model.specs.Config.{hearing_of}
use Rattle.driver_model.specs.Hearing.{is_watching}
use Rattle.legal_trace.specs.Ledger.{Ledger, Start, is_full, is_greeted, is_of_monitor, is_set_up}
use Rattle.legal_trace.specs.Book.{book}
use Rattle.legal_laws.specs.Values.{TellsWhatCame}

-- an action puts the server of link l into monitor mode
abbrev pub Watches : ℕ → Action → Type 0
Watches l (action.Start m message owner.Monitor count len) = m ≡ l
Watches l _ = ⊥

-- the session is a monitor; what is said to the server before the first request is answered well; and MONITOR has not started
pub record MayWatchHere (config : Config) (l : Ledger) : Type 0 where
  pub watching : is_watching (hearing_of config) ≡ true
  pub greeted : is_greeted l ≡ true
  pub new : (k : ℕ) (s : Start) → slice_get l.starts k ≡ Some s → is_of_monitor s.owner ≡ false

-- so it is wherever MONITOR starts
abbrev pub WatchesOnce : Config → List Action → Type 0
WatchesOnce config trace =
    (front more : List Action) (a : Action) (l : ℕ) → trace ≡ front ++ a ∷ more → Watches l a → MayWatchHere config ((book front).link l)

-- MONITOR has started on a link, and is answered
pub record IsWatched (l : Ledger) : Type 0 where
  pub k : ℕ
  pub start : Start
  pub stands : slice_get l.starts k ≡ Some start
  pub watches : is_of_monitor start.owner ≡ true
  pub answered : is_full l k ≡ true

-- so it is of a link that is set up, where the session is a monitor
abbrev pub AnswersFirst : Config → List Action → Type 0
AnswersFirst config trace =
    (front more : List Action) (l : ℕ) → is_watching (hearing_of config) ≡ true → trace ≡ front ++ more
    → ((book front).link l).asked ≡ true → is_set_up ((book front).link l) ≡ true → IsWatched ((book front).link l)

-- from then on no item is dealt
abbrev pub DealsNoMore : Config → List Action → Type 0
DealsNoMore config trace =
    (front middle more : List Action) (l : ℕ) → is_watching (hearing_of config) ≡ true → trace ≡ front ++ (middle ++ more)
    → ((book front).link l).asked ≡ true → is_set_up ((book front).link l) ≡ true
    → ((book (front ++ middle)).link l).dealt ≡ ((book front).link l).dealt

-- and nothing is submitted
abbrev pub SubmitsNothing : Config → List Action → Type 0
SubmitsNothing config trace = is_watching (hearing_of config) ≡ true → (book trace).submissions ≡ 0

-- what a server in monitor mode reports is told from the answer to MONITOR on, which is the last item that is dealt
pub record TellsReports (config : Config) (trace : List Action) : Type 0 where
  pub starts : WatchesOnce config trace
  pub told : TellsWhatCame config trace
  pub answered : AnswersFirst config trace
  pub undealt : DealsNoMore config trace
  pub submits : SubmitsNothing config trace
