-- That a number is given to one request.
use Rattle.std.specs.Prelude.{◌≡◌, ◌≤◌, ℕ, ◌+◌, Bool, List, Option}
use Rattle.driver_model.specs.declared.outcome.Shape.{Shape}
use Rattle.conn_manager.specs.declared.manager.ConnectionManager.{ConnectionManager}
use Rattle.conn_manager.specs.declared.request.Call.{Call}
use Rattle.conn_manager.specs.Calls.{next_number, sent}
use Rattle.conn_manager.specs.Once.{after_each}
use Rattle.conn_manager.specs.Runs.{Step}

-- A send gives its request the next number, and the one behind it is next from then on.
abbrev pub GivesTheNext : Type 0
GivesTheNext =
    (m : ConnectionManager) (packed : List ℕ) (shape : Shape) (awaited : Bool) (call : Option Call)
    → next_number (sent m packed shape awaited call) ≡ next_number m + 1

-- Whatever is called and whatever happens, no number is given again.
abbrev pub NumbersRise : Type 0
NumbersRise = (m : ConnectionManager) (steps : List Step) → next_number m ≤ next_number (after_each m steps)
