-- That a request is answered once.
use Rattle.std.specs.Prelude.{◌≡◌, ℕ, Bool, true, false, List, [], ◌∷◌, slice_get}
use Rattle.conn_manager.specs.declared.manager.ConnectionManager.{ConnectionManager}
use Rattle.conn_manager.specs.declared.request.Stage.{Stage}
use Rattle.conn_manager.specs.declared.request.Stage.TheVariants as stage
use Rattle.conn_manager.specs.Calls.{outcome_of}
use Rattle.conn_manager.specs.Manager.{if_there}
use Rattle.conn_manager.specs.Runs.{Step, after}

-- it is answered, or its caller has gone
abbrev pub is_closed : Stage → Bool
is_closed stage.Held = false
is_closed (stage.Sent link number) = false
is_closed stage.Closed = true

abbrev pub is_closed_at : List Stage → ℕ → Bool
is_closed_at stages p = if_there is_closed (slice_get stages p)

-- each request that was answered, or whose caller had gone, is so still, and has the outcome that it had, if it had one
pub record Keeps (old new : ConnectionManager) : Type 0 where
  pub closed : (p : ℕ) → is_closed_at old.stages p ≡ true → is_closed_at new.stages p ≡ true
  pub outcome : (p : ℕ) → is_closed_at old.stages p ≡ true → outcome_of new p ≡ outcome_of old p

abbrev pub after_each : ConnectionManager → List Step → ConnectionManager
after_each m [] = m
after_each m (s ∷ more) = after_each (after m s) more

-- Whatever is called and whatever happens, a request is answered once, and a request whose caller has gone isn't answered.
abbrev pub AnsweredOnce : Type 0
AnsweredOnce = (m : ConnectionManager) (steps : List Step) → Keeps m (after_each m steps)
