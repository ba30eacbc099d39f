-- That a request is handed to one link.
use Rattle.std.specs.Prelude.{◌≡◌, ◌⊎◌, ◌≤◌, ℕ, ◌+◌, false, List, Some, slice_get}
use Rattle.conn_manager.specs.declared.manager.ConnectionManager.{ConnectionManager}
use Rattle.conn_manager.specs.declared.request.Stage.{Stage}
use Rattle.conn_manager.specs.declared.request.Stage.TheVariants as stage
use Rattle.conn_manager.specs.Manager.{is_held}
use Rattle.conn_manager.specs.Once.{after_each}
use Rattle.conn_manager.specs.Runs.{Step}

-- each request that no longer waits for its generation is where it was, with the link that it was handed to, or is closed
pub record HandsOnce (old new : ConnectionManager) : Type 0 where
  pub rests : (p : ℕ) (s : Stage) → slice_get old.stages p ≡ Some s → is_held s ≡ false → (slice_get new.stages p ≡ Some s) ⊎ (slice_get new.stages p ≡ Some stage.Closed)

-- Whatever is called and whatever happens, a request is handed to one link, and never to a later one.
abbrev pub HandedOnce : Type 0
HandedOnce = (m : ConnectionManager) (steps : List Step) → HandsOnce m (after_each m steps)

-- no link is taken back, and a request that is handed to a link meanwhile is handed to the one that was asked for last, or to one
-- behind it
pub record HandsOn (old new : ConnectionManager) : Type 0 where
  pub links : old.generations.links ≤ new.generations.links
  pub last : (p link number : ℕ) → slice_get new.stages p ≡ Some (stage.Sent link number) → (slice_get old.stages p ≡ Some (stage.Sent link number)) ⊎ (old.generations.links ≤ link + 1)

-- Whatever is called and whatever happens, no request is handed to a link that was asked for before the last one.
abbrev pub HandedToTheLast : Type 0
HandedToTheLast = (m : ConnectionManager) (steps : List Step) → HandsOn m (after_each m steps)
