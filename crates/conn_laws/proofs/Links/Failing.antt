-- The opening of the connection's link has failed, which is shown; and a link that is closed before it is set up.
use Rattle.std.proofs.Common.{◌≡◌, ℕ, Bool, true, false, List, [], Some, None, ap, ◌∙◌}
use Rattle.containers.proofs.Choices.{taken_if}
use Rattle.redis_error.specs.declared.redis_error.RedisError.{RedisError}
use Rattle.connection_info.specs.declared.address.RedisConnectionInfo.{RedisConnectionInfo}
use Rattle.mux_conn.specs.declared.life.Life.{Life}
use Rattle.mux_conn.specs.declared.life.Life.TheVariants.{Ended}
use Rattle.mux_conn.specs.Connection.{Work, at_life, is_ready as is_life_ready, is_resting}
use Rattle.mux_conn.specs.Effects.{creation_told, given_up, opening_failed, waiting_failed}
use Rattle.legal_trace.specs.Ledger.{Ledger, by_opening, ending, is_set_up, source_due}
use Rattle.conn_laws.proofs.Links.Server.{AreSetups}
use Rattle.conn_laws.proofs.Ties.Tied.{link_in, no_link, has_ended}
use Rattle.conn_laws.proofs.Links.Close.{waiting_leaves}
use Rattle.conn_laws.proofs.Links.Said.{PushesOf}
use Rattle.driver_model.specs.declared.hearing.Hearing.{Hearing}

-- the failure is shown
--
-- what its last attempt leaves
abbrev pub ended_so : Work → RedisError → Work
ended_so w e = creation_told (at_life w (Ended e)) (Some e)

-- it is given up
pub given_up_is : (w : Work) (e : RedisError) → w.conn.last ≡ true → opening_failed w e ≡ waiting_failed (ended_so w e) e
given_up_is w e last = taken_if w.conn.last (given_up w e) _ last

-- and has ended
pub given_up_ended : (w : Work) (e : RedisError) → w.conn.last ≡ true → (opening_failed w e).conn.life ≡ Ended e
given_up_ended w e last = ap (λ (x : Work). x.conn.life) (given_up_is w e last) ∙ (waiting_leaves (ended_so w e) e).life

-- a link that is closed before it is set up
--
-- a link that isn't set up, and whose opening fails with this error
pub record Fails (l : Ledger) (info : RedisConnectionInfo) (wants : Bool) (heard mine : Hearing) (x : RedisError) : Type 0 where
  pub alive : l.end ≡ None
  pub unready : is_set_up l ≡ false
  pub must : ending l ≡ Some (by_opening x)
  pub info_is : l.info ≡ info
  pub wanted_is : l.creds.wanted ≡ wants
  pub sourced : source_due l ≡ false
  pub sent : AreSetups l
  pub notices : PushesOf heard mine l

-- a connection whose link is up and not set up, so that no message of a request has started
pub record IsUnready (created : ℕ) (life : Life) (started : List ℕ) : Type 0 where
  pub bare : link_in life ≡ no_link
  pub none : started ≡ []
  pub unready : is_life_ready life ≡ false
  pub alive : has_ended life ≡ false
  pub there : is_resting life ≡ false
