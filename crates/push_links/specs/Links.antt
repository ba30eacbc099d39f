-- What a turn of a link's connection makes of the stream beside it.
use Rattle.std.specs.Prelude.{ℕ, Bool, true, false, ◌||◌, List, [], ◌∷◌, ◌++◌, Option, codes}
use Rattle.std.specs.Prelude.{IfOk, Result}
use Rattle.std.specs.declared.alloc.AllocError.{AllocError}
use Rattle.resp_value.specs.Data.{Data}
use Rattle.resp_value.specs.View.{data_of}
use Rattle.resp_convert.specs.Convert.{IsRead}
use Rattle.resp_value.specs.declared.value.Value.{Value}
use Rattle.resp_write.specs.Pack.{pack}
use Rattle.driver_model.specs.Request.{listed}
use Rattle.driver_model.specs.declared.msg.Msg.{Msg}
use Rattle.driver_model.specs.declared.outcome.Outcome.{Outcome}
use Rattle.driver_model.specs.declared.outcome.Outcome.TheVariants as outcome
use Rattle.driver_model.specs.declared.outcome.Shape.TheVariants.{Single}
use Rattle.resp_value.specs.declared.value.Value.TheVariants.{Nil}
use Rattle.mux_client.specs.declared.act.ConnectionAct.{ConnectionAct}
use Rattle.mux_client.specs.declared.act.ConnectionAct.TheVariants as act
use Rattle.mux_client.specs.declared.connection.MultiplexedConnection.{MultiplexedConnection}
use Rattle.mux_client.specs.Calls.{sent}
use Rattle.push_links.specs.Held.{Holding}

-- the message that an act tells, if it tells one
abbrev pub message_in : ConnectionAct → List Msg
message_in (act.Message m) = m ∷ []
message_in _ = []

-- the messages among acts, in order
abbrev pub messages_among : List ConnectionAct → List Msg
messages_among [] = []
messages_among (a ∷ more) = message_in a ++ messages_among more

-- what a server in monitor mode tells by an act, if it tells something
abbrev pub told_in : ConnectionAct → List Value
told_in (act.Monitor v) = v ∷ []
told_in _ = []

abbrev pub told_among : List ConnectionAct → List Value
told_among [] = []
told_among (a ∷ more) = told_in a ++ told_among more

-- the link is closed by an act
abbrev pub closes : ConnectionAct → Bool
closes act.Close = true
closes _ = false

-- or by one of them
abbrev pub are_closing : List ConnectionAct → Bool
are_closing [] = false
are_closing (a ∷ more) = closes a || are_closing more

-- an act, where it is to be done or seen by whoever steps the link, and not by its stream
abbrev pub other_than_message : ConnectionAct → List ConnectionAct
other_than_message (act.Message m) = []
other_than_message a = a ∷ []

abbrev pub others_of_messages : List ConnectionAct → List ConnectionAct
others_of_messages [] = []
others_of_messages (a ∷ more) = other_than_message a ++ others_of_messages more

abbrev pub other_than_told : ConnectionAct → List ConnectionAct
other_than_told (act.Monitor v) = []
other_than_told a = a ∷ []

abbrev pub others_of_told : List ConnectionAct → List ConnectionAct
others_of_told [] = []
others_of_told (a ∷ more) = other_than_told a ++ others_of_told more

-- the stream gains the messages of these acts, and ends where they close the link
abbrev pub with_messages : Holding Msg → List ConnectionAct → Holding Msg
with_messages h acts = record { items = h.items ++ messages_among acts; ended = h.ended || are_closing acts }

-- the same of what a server in monitor mode tells
abbrev pub with_told : Holding Value → List ConnectionAct → Holding Value
with_told h acts = record { items = h.items ++ told_among acts; ended = h.ended || are_closing acts }

-- PING, with this message or without one
abbrev pub ping_bytes : Option (List ℕ) → List ℕ
ping_bytes message = pack (codes "PING" ∷ listed message)

-- it is sent
abbrev pub pinged : MultiplexedConnection → Option (List ℕ) → MultiplexedConnection
pinged c message = sent c (ping_bytes message) Single true

-- an item of a monitor's stream, where `reads` says which values are what of the type: what the value is of it, or that it is
-- nothing of it; no more is said where memory was wanting
abbrev pub IsItemOf : {S : Type 0} → (Data → S → Type 0) → Value → Result (Option S) AllocError → Type 0
IsItemOf reads v item = IfOk item (IsRead reads (data_of v))

-- one value
abbrev pub is_one : Outcome → Bool
is_one (outcome.One value) = true
is_one (outcome.Many values) = false
is_one outcome.Done = false
is_one (outcome.Fault e) = false

-- the value that it is; Nil where it is none
abbrev pub value_in : Outcome → Value
value_in (outcome.One value) = value
value_in (outcome.Many values) = Nil
value_in outcome.Done = Nil
value_in (outcome.Fault e) = Nil
