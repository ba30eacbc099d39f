-- In which order the actions of a turn stand.
use Rattle.std.specs.Prelude.{◌⊎◌, ℕ, ◌≤◌, List, [], ◌∷◌}
use Rattle.std.proofs.Common.{inl, inr}
use Rattle.driver_model.specs.declared.action.Action.{Action}
use Rattle.driver_model.specs.declared.action.Action.TheVariants as action
use Rattle.driver_model.specs.declared.action.Purpose.{Purpose}
use Rattle.driver_model.specs.declared.outcome.Outcome.{Outcome}
use Rattle.legal_trace.specs.Book.{Book, entered}
use Rattle.legal_trace.specs.Legal.{MayTimer, MayAnswer, MayTell, MayStand, AllStand}

-- an outcome that was owed belongs to the effect of the turn's event, and one that is told at its place to the passes
abbrev pub answers_in : (b : Book) (n : ℕ) (o : Outcome) → MayAnswer b n o ⊎ MayTell b n o → ℕ
answers_in b n o (inl owed) = 1
answers_in b n o (inr told) = 2

-- the timer of a connect, or of the wait behind an attempt, belongs to the effect, and one of a submission, or of new credentials, to
-- the passes
abbrev pub timer_in : (b : Book) (t ms : ℕ) (what : Purpose) → MayTimer b t ms what → ℕ
timer_in b t ms what (inl effect) = 1
timer_in b t ms what (inr response) = 2

-- the segment of its turn that an action belongs to: the announcement, the effect of the event, the passes, the writes,
-- and the waits
abbrev pub segment : (b : Book) (a : Action) → MayStand b a → ℕ
segment b (action.Turn k c) may = 0
segment b (action.Connect l host port) may = 1
segment b (action.Timer t ms what) may = timer_in b t ms what may
segment b (action.Took who l count) may = 2
segment b (action.Push l info) may = 1
segment b (action.Message m) may = 1
segment b (action.Monitor v) may = 1
segment b (action.NeedCreds c l) may = 1
segment b (action.Generation g) may = 1
segment b (action.Round who l) may = 2
segment b (action.Close l) may = 1
segment b (action.Created e) may = 1
segment b (action.Outcome n o) may = answers_in b n o may
segment b (action.Start l k who need len) may = 2
segment b (action.Write l bytes) may = 3
segment b (action.Wait who kind) may = 4

-- an action may come behind one of that segment: it begins a turn, or belongs to no earlier segment
abbrev pub MayCome : ℕ → (b : Book) (a : Action) → MayStand b a → Type 0
MayCome before b (action.Turn k c) may = Unit {0}
MayCome before b a may = before ≤ segment b a may

-- the actions of each turn stand segment by segment, behind one of that segment
abbrev pub AreInOrder : ℕ → (b : Book) (trace : List Action) → AllStand b trace → Type 0
AreInOrder before b [] all = Unit {0}
AreInOrder before b (a ∷ more) all = MayCome before b a all.0 × AreInOrder (segment b a all.0) (entered b a) more all.1
