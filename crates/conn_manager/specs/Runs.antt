-- Calls of a manager one after another, and what its turns show.
use Rattle.std.specs.Prelude.{ℕ, Bool, List, [], ◌∷◌, ◌++◌, None}
use Rattle.resp_write.specs.declared.subscription.SubscriptionAction.{SubscriptionAction}
use Rattle.driver_model.specs.declared.outcome.Shape.{Shape}
use Rattle.manager_generations.specs.declared.act.ManagerAct.{ManagerAct}
use Rattle.conn_manager.specs.declared.manager.ConnectionManager.{ConnectionManager}
use Rattle.conn_manager.specs.Calls.{sent, called, cancelled}
use Rattle.mux_client.specs.Events.{Happening}
use Rattle.conn_manager.specs.Turn.{started, turned, stepped}

-- a message of these bytes is sent, which takes items by this shape, and whose reply is awaited or not; or a subscription call; the
-- caller of a request leaves; a turn is made of what happened, where this word is drawn
pub data Step : Type 0 where
  sends : List ℕ → Shape → Bool → Step
  calls : SubscriptionAction → List (List ℕ) → Step
  leaves : ℕ → Step
  turns : ℕ → Happening → Step

abbrev pub after : ConnectionManager → Step → ConnectionManager
after m (sends packed shape awaited) = sent m packed shape awaited None
after m (calls what names) = called m what names
after m (leaves p) = cancelled m p
after m (turns draw what) = stepped m draw what

-- the acts of each turn
abbrev pub shown_by : ConnectionManager → Step → List (List ManagerAct)
shown_by m (turns draw what) = (turned (started m) draw what).generations.acts ∷ []
shown_by m (sends packed shape awaited) = []
shown_by m (calls what names) = []
shown_by m (leaves p) = []

-- those of all turns, in order
abbrev pub run_of : ConnectionManager → List Step → List (List ManagerAct)
run_of m [] = []
run_of m (s ∷ more) = shown_by m s ++ run_of (after m s) more
