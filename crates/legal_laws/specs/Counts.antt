-- How many numbers of each sort a trace gives out: they are bounded by its turns, so that none runs out before a billion of them.
use Rattle.std.specs.Prelude.{ℕ, ◌+◌, ◌*◌, ◌<◌, ◌≤◌, List, length}
use Rattle.driver_model.specs.declared.action.Action.{Action}
use Rattle.driver_model.specs.declared.config.Config.{Config}
use Rattle.driver_model.specs.declared.event.Event.{Event}
use Rattle.legal_trace.specs.Ledger.{renewals_asked}
use Rattle.legal_trace.specs.Book.{Book, blank_book, book}
use Rattle.legal_trace.specs.Events.{HasRunOut}
use Rattle.legal_trace.specs.Legal.{AllStand, Legal}

-- no more numbers were given out than these, behind so many turns as there are: to submissions, links, timers, sources of credentials, the
-- messages of a link, and its new credentials
pub record GivesFew (b : Book) : Type 0 where
  pub submissions : b.submissions ≤ b.turns
  pub links : b.links ≤ b.turns + 2
  pub timers : length b.timers ≤ 4 * b.turns + 6
  pub sources : length b.sources ≤ 2 * b.turns + 4
  pub starts : (l : ℕ) → length (b.link l).starts ≤ b.turns + 4
  pub renewals : (l : ℕ) → renewals_asked (b.link l) ≤ b.turns

-- so it is behind any actions that may stand
abbrev pub GivesFewBehind : List Action → Type 0
GivesFewBehind front = AllStand blank_book front → GivesFew (book front)

-- and no number has run out behind a billion turns
abbrev pub HasNumbersLeft : List Action → Type 0
HasNumbersLeft front = AllStand blank_book front → (book front).turns ≤ 1_000_000_000 → HasRunOut (book front) → ⊥

-- nor in a legal trace of fewer events
abbrev pub NoneRunsOut : Type 0
NoneRunsOut =
    (config : Config) (word : ℕ) (events : List Event) (trace : List Action) → Legal config word events trace
    → length events < 1_000_000_000 → HasRunOut (book trace) → ⊥
