-- What a session is seen as: its history, and whether it has failed.
use Rattle.std.specs.Prelude.{ℕ, List}
use Rattle.driver_model.specs.declared.config.Config.{Config}
use Rattle.driver_model.specs.declared.event.Event.{Event}
use Rattle.shared_session.specs.declared.session.Failure.{Failure}

pub record History : Type 0 where
  pub config : Config
  pub word : ℕ
  pub events : List Event
  pub failure : Failure
