-- What is true of the fields of every session.
use Rattle.std.specs.Prelude.{◌≡◌, ◌^◌, ◌<◌, length, false, None}
use Rattle.shared_session.specs.declared.session.Failure.TheVariants.{Sound}
use Rattle.shared_session.specs.declared.session.Session.TheInside.{Inside}
use Rattle.single_session.specs.Generations.{IsCounted}
use Rattle.single_session.specs.Turn.{has_run_out, IsFewer}
use Rattle.single_session.specs.Replay.{IsSound, state_after, trace_of, outcomes_in}

-- its configuration is sound; a session that hasn't failed is where its history leads, no number has run out, and its connection hasn't failed; its
-- outcomes are those that the trace of its history tells, also when it has failed
pub record IsReplay (s : Inside) : Type 0 where
  pub configured : IsSound s.config
  pub core : s.failure ≡ Sound → s.core ≡ state_after s.config s.word s.events
  pub outcomes : s.outcomes ≡ outcomes_in (trace_of s.config s.word s.events)
  pub few : length s.events < 2 ^ 32
  pub unspent : s.failure ≡ Sound → has_run_out s.core ≡ false
  pub fewer : s.failure ≡ Sound → IsFewer s.core
  pub counted : s.failure ≡ Sound → IsCounted s.core
  pub sound : s.failure ≡ Sound → s.core.single.connection.failure ≡ None
