-- The messages of a queue that start, as lines of the link's ledger.
use Rattle.std.specs.Prelude.{ℕ, List, [], ◌∷◌, if◌then◌else◌}
use Rattle.driver_model.specs.declared.action.Owner.{Owner}
use Rattle.link_core.specs.declared.message.Queued.{Queued}
use Rattle.link_core.specs.Link.{LinkState, holds_back, started_one}
use Rattle.legal_trace.specs.Ledger.{Start, Line, begins}

-- a message of a queue as the ledger has it
abbrev pub start_from : (ℕ → Owner) → Queued → Start
start_from name q = record { owner = name q.id; shape = q.shape; bytes = q.packed }

-- a link with one more started message
abbrev pub begun : LinkState → Queued → LinkState
begun s q = (started_one (record { link = s; out = [] }) q).link

-- the messages that start, as long as nothing holds them back
abbrev pub starting : LinkState → List Queued → List Queued
starting s [] = []
starting s (q ∷ qs) = if holds_back s then [] else q ∷ starting (begun s q) qs

-- a line for each of them
abbrev pub begins_each : (ℕ → Owner) → List Queued → List Line
begins_each name [] = []
begins_each name (q ∷ qs) = begins (start_from name q) ∷ begins_each name qs
