-- Which actions may stand next.
use Rattle.std.specs.Prelude.{◌≡◌, ◌⊎◌, List}
use Rattle.driver_model.specs.declared.action.Action.{Action}
use Rattle.driver_model.specs.declared.action.Action.TheVariants as action
use Rattle.driver_model.specs.declared.action.Cause.{Cause}
use Rattle.driver_model.specs.declared.action.Cause.TheVariants as cause
use Rattle.legal_trace.specs.Book.{Book, blank_book, book}
use Rattle.legal_trace.specs.Legal.{MayStand, AllStand}

-- two causes of the same sort: openings, or events
abbrev pub SameSort : Cause → Cause → Type 0
SameSort (cause.Opening config word) (cause.Opening other number) = Unit {0}
SameSort (cause.Event e) (cause.Event f) = Unit {0}
SameSort _ _ = ⊥

-- two announcements of one turn, which differ in the cause at most
abbrev pub BothAnnounce : Action → Action → Type 0
BothAnnounce (action.Turn k c) (action.Turn j d) = (k ≡ j) × SameSort c d
BothAnnounce _ _ = ⊥

-- at most one action may stand next, where a turn is announced up to its cause
abbrev pub OneIsNext : Book → Type 0
OneIsNext b = (x y : Action) → MayStand b x → MayStand b y → (x ≡ y) ⊎ BothAnnounce x y

-- so it is behind any actions that may stand
abbrev pub OneIsNextBehind : List Action → Type 0
OneIsNextBehind front = AllStand blank_book front → OneIsNext (book front)
