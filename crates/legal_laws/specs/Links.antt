-- What a trace tells of its links.
use Rattle.std.specs.Prelude.{◌≡◌, ℕ, List, ◌++◌}
use Rattle.driver_model.specs.declared.action.Action.{Action}
use Rattle.legal_trace.specs.Ledger.{Line, LinkLegal, ledger, stream, joined}
use Rattle.legal_trace.specs.Book.{blank_book, book, lines_of_each}

-- what a trace tells of link l
abbrev pub lines_for : List Action → ℕ → List Line
lines_for trace l = lines_of_each blank_book l trace

-- what is told of each link can be relied on
abbrev pub LinksAreLegal : List Action → Type 0
LinksAreLegal trace = (l : ℕ) → LinkLegal (lines_for trace l)

-- the ledger of each link is what its lines come to
abbrev pub LedgersAreTold : List Action → Type 0
LedgersAreTold trace = (l : ℕ) → (book trace).link l ≡ ledger (lines_for trace l)

-- some bytes are the first of others
pub record IsPrefix (front whole : List ℕ) : Type 0 where
  pub rest : List ℕ
  pub joins : front ++ rest ≡ whole

-- the bytes that a link took and is offered are the first of those of its started messages
abbrev pub TakesInOrder : List Line → Type 0
TakesInOrder lines = IsPrefix (stream (ledger lines)) (joined (ledger lines).starts)
