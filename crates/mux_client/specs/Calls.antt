-- What each call makes of a connection.
use Rattle.std.specs.Prelude.{◌≡◌, ◌⊎◌, ⊤, ◌≤◌, ℕ, ◌+◌, ◌^◌, Bool, true, false, ◌||◌, List, [], ◌∷◌, ◌++◌, length, Option, Some, None}
use Rattle.resp_write.specs.Pack.{pack}
use Rattle.resp_write.specs.Subscription.{action_word}
use Rattle.resp_write.specs.declared.subscription.SubscriptionAction.{SubscriptionAction}
use Rattle.connection_info.specs.Protocol.{is_resp3}
use Rattle.driver_model.specs.declared.outcome.Shape.{Shape}
use Rattle.driver_model.specs.declared.outcome.Shape.TheVariants.{Confirmation}
use Rattle.driver_model.specs.News.{News}
use Rattle.driver_model.specs.Hearing.{hears_messages}
use Rattle.redis_error.specs.declared.redis_error.RedisError.TheVariants as fault
use Rattle.mux_conn.specs.declared.errors.ConnectionError.TheVariants as failure
use Rattle.mux_conn.specs.Connection.{Work, work_with}
use Rattle.mux_conn.specs.Requests.{asked}
use Rattle.mux_conn.specs.Internal.{asked_inside}
use Rattle.mux_conn.specs.Effects.{left, timed_out}
use Rattle.mux_conn.specs.Turn as turn
use Rattle.mux_client.specs.declared.showing.Answer.{Answer}
use Rattle.mux_client.specs.declared.act.ConnectionAct.{ConnectionAct}
use Rattle.mux_client.specs.declared.act.ConnectionAct.TheVariants as act
use Rattle.mux_client.specs.declared.act.ConnectionTimer.TheVariants as timer
use Rattle.mux_client.specs.declared.errors.SendError.{SendError}
use Rattle.mux_client.specs.declared.errors.SendError.TheVariants as error
use Rattle.mux_client.specs.declared.connection.MultiplexedConnection.{MultiplexedConnection}
use Rattle.mux_client.specs.Connection.{outcome_of}
use Rattle.mux_client.specs.Failing.{LeavesBehind}
use Rattle.mux_client.specs.Shown.{pending, shown_each, kept_each, placed_each}

-- the number of the next request
abbrev pub next_number : MultiplexedConnection → ℕ
next_number c = length c.core.requests

-- one more request: of these bytes, which takes items by this shape, and whose reply is awaited or not
abbrev pub sent : MultiplexedConnection → List ℕ → Shape → Bool → MultiplexedConnection
sent c packed shape awaited = record c {
  core = asked c.core (next_number c) packed shape awaited c.timeout;
  outcomes = c.outcomes ++ None ∷ [];
}

-- the timer of a request that needs no permit
abbrev pub own_timer : ℕ → Option ℕ → List ConnectionAct
own_timer p None = []
own_timer p (Some ms) = act.Timer (timer.Response (pending p)) ms ∷ []

-- one more request that needs no permit: its timer is asked for with the next step
abbrev pub sent_inside : MultiplexedConnection → List ℕ → Shape → MultiplexedConnection
sent_inside c packed shape = record c {
  core = asked_inside c.core (next_number c) packed shape;
  outcomes = c.outcomes ++ None ∷ [];
  early = c.early ++ own_timer (next_number c) c.timeout;
}

-- why a message of these bytes wasn't sent by this connection: it is empty; the number 2^32 - 1 would be given to a request;
-- a call failed before with this error; or memory was wanted
abbrev pub RefusesSend : MultiplexedConnection → List ℕ → SendError → Type 0
RefusesSend c packed (error.Refused e) = (e ≡ fault.EmptyCommand) × (packed ≡ [])
RefusesSend c packed error.Spent = (c.core.failure ≡ Some failure.Spent) ⊎ (2 ^ 32 ≤ next_number c + 1)
RefusesSend c packed error.NoMemory = ⊤

-- what stands behind a send of this connection that answered an error
abbrev pub Leaves : MultiplexedConnection → MultiplexedConnection → SendError → Type 0
Leaves old new = LeavesBehind (λ (c : MultiplexedConnection). c.core.failure) next_number outcome_of old new

-- one more request: a subscription call that does this with these names, in one command
abbrev pub called : MultiplexedConnection → SubscriptionAction → List (List ℕ) → MultiplexedConnection
called c what names = sent c (pack (action_word what ∷ names)) Confirmation true

-- a server confirms subscription calls on it: it speaks RESP3, or is a link of messages
abbrev pub takes_calls : MultiplexedConnection → Bool
takes_calls c = hears_messages c.core.hears || is_resp3 c.core.info.protocol

-- why a subscription call wasn't sent by this connection: a call failed before with this error; else exactly where it doesn't take
-- them, that RESP3 is required; else the number 2^32 - 1 would be given to a request, or memory was wanted
abbrev pub RefusesCall : MultiplexedConnection → SendError → Type 0
RefusesCall c (error.Refused e) = (e ≡ fault.Resp3Required) × (takes_calls c ≡ false)
RefusesCall c error.Spent = (c.core.failure ≡ Some failure.Spent) ⊎ ((takes_calls c ≡ true) × (2 ^ 32 ≤ next_number c + 1))
RefusesCall c error.NoMemory = (c.core.failure ≡ Some failure.NoMemory) ⊎ (takes_calls c ≡ true)

-- its caller has gone
abbrev pub cancelled : MultiplexedConnection → ℕ → MultiplexedConnection
cancelled c p = record c { core = left c.core p }

-- what the machine did, with its outcomes kept
abbrev pub done : MultiplexedConnection → Work → MultiplexedConnection
done c w = record c { core = w.conn; outcomes = kept_each c.outcomes w.acts }

-- the time of a request is over, which is shown with the next step
abbrev pub late_work : MultiplexedConnection → ℕ → Work
late_work c p = timed_out (work_with c.core []) p

abbrev pub late : MultiplexedConnection → ℕ → MultiplexedConnection
late c p = record (done c (late_work c p)) { early = c.early ++ shown_each (late_work c p).acts }

-- a whole turn of its link
abbrev pub turn_of : MultiplexedConnection → News → Work
turn_of c news = turn.stepped (work_with c.core []) news

abbrev pub stepped : MultiplexedConnection → News → MultiplexedConnection
stepped c news = record (done c (turn_of c news)) { early = [] }

-- the outcomes of a turn are kept
abbrev pub with_answers : MultiplexedConnection → List Answer → MultiplexedConnection
with_answers c answers = record c { outcomes = placed_each c.outcomes answers }

-- what a step shows
abbrev pub acts_of : MultiplexedConnection → News → List ConnectionAct
acts_of c news = c.early ++ shown_each (turn_of c news).acts
