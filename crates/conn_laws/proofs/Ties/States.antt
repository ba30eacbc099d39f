-- When a link is fit, and when nothing of a connection moves.
use Rattle.std.proofs.Common.{Bool, ◌≡◌, ◌⊎◌, ℕ, ◌≤◌, true, false, List, [], length}
use Rattle.link_core.specs.Link.{LinkState, is_full_beside, holds_back}
use Rattle.mux_conn.specs.declared.connection.MultiplexedConnection.{MultiplexedConnection}
use Rattle.mux_conn.specs.declared.life.Greeting.{Greeting}
use Rattle.mux_conn.specs.declared.life.Life.{Life}
use Rattle.mux_conn.specs.declared.life.Life.TheVariants.{Resting, Dialing, Wanting, SettingUp, Ready, Ended}
use Rattle.mux_conn.specs.declared.request.Request.{Request}
use Rattle.mux_conn.specs.Requests.{is_unbegun_at}
use Rattle.mux_conn.specs.declared.again.Again.{Again}
use Rattle.mux_conn.specs.Connection.{has_no_permit, in_front, is_due, is_outstanding}
use Rattle.conn_laws.proofs.Internal.Repeating.{HasRepeated}
use Rattle.conn_laws.proofs.Internal.Repeats.{serves}
use Rattle.conn_laws.proofs.Ties.Tied.{has_ended}
use Rattle.mux_conn.specs.declared.request.Waiting.{Waiting}

-- no link goes on, and where there is none, nobody waits for one
abbrev pub IsStopped : Life → List Waiting → Type 0
IsStopped Resting waiting = waiting ≡ []
IsStopped Dialing waiting = ⊥
IsStopped (Wanting link) waiting = ⊥
IsStopped (SettingUp link greeting) waiting = ⊥
IsStopped (Ready link) waiting = ⊥
IsStopped (Ended e) waiting = Unit {0}

-- a link that reads on, with a queue of this size and this boundary, and no more messages in the queue than that holds
pub record IsFit (size bound : ℕ) (link : LinkState) : Type 0 where
  pub sound : link.broken ≡ false
  pub size_is : link.size ≡ size
  pub bound_is : link.boundary ≡ bound
  pub within : length link.queue ≤ size

-- where a link is up, it is so, also before it is set up; where none takes requests, nobody waits for a place
pub record IsFitIn (c : MultiplexedConnection) : Type 0 where
  pub wanting : (link : LinkState) → c.life ≡ Wanting link → IsFit c.size c.boundary link
  pub setup : (link : LinkState) (greeting : Greeting) → c.life ≡ SettingUp link greeting → IsFit c.size c.boundary link
  pub link : (link : LinkState) → c.life ≡ Ready link → IsFit c.size c.boundary link
  pub none : serves c.life c.again ≡ false → c.admitted ≡ []

-- where rounds are shown, the round of each request that waits on a link that takes requests has begun
abbrev pub AreBegun : Bool → Again → Life → List Request → Type 0
AreBegun rounds a life requests = rounds ≡ true → serves life a ≡ true → (p : ℕ) → is_unbegun_at requests p ≡ false

-- nothing moves: what is in the queue is held back, also a setup; those that wait for a place find the queue full; what is to be
-- subscribed again, and new credentials that are to be told, have their timers, and wait for their link, which is held back; on a link
-- that takes requests those that wait find no permit free, and their rounds have begun; and on a link that has ended none waits
pub record IsStill (c : MultiplexedConnection) : Type 0 where
  pub setup : (link : LinkState) (greeting : Greeting) → c.life ≡ SettingUp link greeting → (link.queue ≡ []) ⊎ (holds_back link ≡ true)
  pub held : (link : LinkState) → c.life ≡ Ready link → (link.queue ≡ []) ⊎ (holds_back link ≡ true)
  pub full : (link : LinkState) → c.life ≡ Ready link → (c.admitted ≡ []) ⊎ (is_full_beside link (in_front c.renewal) ≡ true)
  pub repeated : HasRepeated c.again c.life
  pub renewed : (link : LinkState) → c.life ≡ Ready link → is_due c.renewal ≡ true → (c.renewal.pending ≡ true) × (holds_back link ≡ true)
  pub waiting : (link : LinkState) → c.life ≡ Ready link → is_outstanding c.again ≡ false → (c.waiting ≡ []) ⊎ (has_no_permit c.limit c.free ≡ true)
  pub begun : AreBegun c.rounds c.again c.life c.requests
  pub none_waits : has_ended c.life ≡ true → c.waiting ≡ []
