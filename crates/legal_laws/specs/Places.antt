-- The order in which the messages of a link start: that of their places.
use Rattle.std.specs.Prelude.{◌≡◌, ◌⊎◌, ◌<◌, ℕ, suc, ◌-◌, List, ◌∷◌, ◌++◌, Option, Some, None}
use Rattle.driver_model.specs.declared.action.Action.{Action}
use Rattle.driver_model.specs.declared.action.Action.TheVariants as action
use Rattle.driver_model.specs.declared.action.Owner.TheVariants as owner
use Rattle.legal_trace.specs.Book.{Book, book}

-- that turn, or else this one
abbrev pub turn_or : ℕ → Option ℕ → ℕ
turn_or now None = now
turn_or now (Some turn) = turn

-- the turn in which submission n takes its place, whose message starts behind what is in a book: the one in which it was shown to
-- wait for room, or was answered without a message, or else the one that runs
abbrev pub place_of : Book → ℕ → ℕ
place_of b n = turn_or (b.turns - 1) (b.placed n)

-- an action starts a message on link l whose place is of that turn, and of that rank there: new credentials have the first rank, in the
-- turn in which they became due, and submissions theirs by their numbers
abbrev pub StartsAt : Book → ℕ → Action → ℕ → ℕ → Type 0
StartsAt b l (action.Start m message owner.Auth count len) turn k = (m ≡ l) × (turn ≡ b.since l) × (k ≡ 0)
StartsAt b l (action.Start m message (owner.Try n round) count len) turn k = (m ≡ l) × (turn ≡ place_of b n) × (k ≡ suc n)
StartsAt b l _ turn k = ⊥

-- of two places the first was taken first
abbrev pub IsTakenFirst : ℕ → ℕ → ℕ → ℕ → Type 0
IsTakenFirst turn k later j = (turn < later) ⊎ ((turn ≡ later) × (k < j))

-- of two messages of a link, of submissions or of new credentials, the one that starts first has the place that was taken first
abbrev pub StartsByPlace : List Action → Type 0
StartsByPlace trace =
    (front middle more : List Action) (a c : Action) (l turn k later j : ℕ) → trace ≡ front ++ a ∷ (middle ++ c ∷ more)
    → StartsAt (book front) l a turn k → StartsAt (book (front ++ a ∷ middle)) l c later j → IsTakenFirst turn k later j
