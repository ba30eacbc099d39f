-- What is counted in a trace.
use Rattle.std.specs.Prelude.{ℕ, ◌+◌, ◌-◌, ◌^◌, min, List, [], ◌∷◌, ◌++◌, length, decimal, codes}
use Rattle.driver_model.specs.declared.action.Action.{Action}
use Rattle.driver_model.specs.declared.action.Action.TheVariants as action
use Rattle.driver_model.specs.declared.action.Cause.{Cause}
use Rattle.driver_model.specs.declared.action.Cause.TheVariants as cause
use Rattle.driver_model.specs.declared.event.EventKind.{EventKind}
use Rattle.driver_model.specs.declared.event.EventKind.TheVariants as event
use Rattle.legal_trace.specs.Book.{book}
use Rattle.script_generator.specs.declared.summary.Summary.{Summary}

-- a turn begins
abbrev pub is_turn : Action → ℕ
is_turn (action.Turn k c) = 1
is_turn _ = 0

-- a message starts
abbrev pub is_start : Action → ℕ
is_start (action.Start l message who need len) = 1
is_start _ = 0

-- a submission is answered
abbrev pub is_outcome : Action → ℕ
is_outcome (action.Outcome n o) = 1
is_outcome _ = 0

abbrev pub cancels_one : EventKind → ℕ
cancels_one (event.Cancel n) = 1
cancels_one _ = 0

abbrev pub is_of_cancel : Cause → ℕ
is_of_cancel (cause.Event e) = cancels_one e.kind
is_of_cancel (cause.Opening config word) = 0

-- the turn of a caller that drops its request begins
abbrev pub is_cancel : Action → ℕ
is_cancel (action.Turn k c) = is_of_cancel c
is_cancel _ = 0

-- how many actions of a kind there are
abbrev pub count : (Action → ℕ) → List Action → ℕ
count of_kind [] = 0
count of_kind (a ∷ more) = of_kind a + count of_kind more

-- the items that were dealt to the messages of link 0
abbrev pub items_dealt : List Action → ℕ
items_dealt trace = length ((book trace).link 0).dealt

-- how many turns a trace has, turn 0 too; how many messages started; how many items were dealt; how many submissions were
-- answered; and how many callers dropped their requests
unfoldable pub summary_of : List Action → Summary
summary_of trace = record {
  turns = count is_turn trace;
  starts = count is_start trace;
  items = items_dealt trace;
  outcomes = count is_outcome trace;
  cancelled = count is_cancel trace;
}

-- the five numbers as a line
unfoldable pub summary_line : Summary → List ℕ
summary_line s =
    codes "turns " ++ decimal s.turns ++ codes " starts " ++ decimal s.starts ++ codes " items " ++ decimal s.items
    ++ codes " outcomes " ++ decimal s.outcomes ++ codes " cancelled " ++ decimal s.cancelled ++ codes "\n"

-- the items that a message which starts takes
abbrev pub takes : Action → ℕ
takes (action.Start l message who need len) = need
takes _ = 0

-- two numbers together, as far as 64 bits hold them
abbrev pub added : ℕ → ℕ → ℕ
added a b = min (2 ^ 64 - 1) (a + b)

-- nothing is counted
abbrev pub no_summary : Summary
no_summary = record { turns = 0; starts = 0; items = 0; outcomes = 0; cancelled = 0 }

-- one more action is counted: the items are those that messages take
abbrev pub counted : Summary → Action → Summary
counted s a = record {
  turns = added s.turns (is_turn a);
  starts = added s.starts (is_start a);
  items = added s.items (takes a);
  outcomes = added s.outcomes (is_outcome a);
  cancelled = added s.cancelled (is_cancel a);
}

-- these actions are counted, one after another
abbrev pub counted_each : Summary → List Action → Summary
counted_each s [] = s
counted_each s (a ∷ more) = counted_each (counted s a) more
