-- What the user of a link hears beside the replies to requests, and what becomes of a value that comes.
use Rattle.std.specs.Prelude.{ℕ, Bool, true, false, not, List, [], ◌∷◌, Option, Some, None, option_map, codes, bytes_eq, if◌then◌else◌}
use Rattle.resp_value.specs.Data.{Data, nil, int, bulk, array, simple, okay, dict, attribute, set, double, boolean, verbatim, big, push, error, Items, no_items, item, list_of}
use Rattle.resp_value.specs.View.{value_of}
use Rattle.resp_value.specs.Kinds.{kind_of, has_reply, is_item}
use Rattle.resp_value.specs.declared.push_kind.PushKind.{PushKind}
use Rattle.resp_value.specs.declared.push_kind.PushKind.TheVariants as kind
use Rattle.driver_model.specs.declared.hearing.Hearing.{Hearing}
use Rattle.driver_model.specs.declared.hearing.Hearing.TheVariants as hearing
use Rattle.driver_model.specs.declared.hearing.Notice.{Notice}
use Rattle.driver_model.specs.declared.hearing.Notice.TheVariants as notice
use Rattle.driver_model.specs.declared.msg.Msg.{Msg}
use Rattle.driver_model.specs.declared.news.LinkFault.{LinkFault}
use Rattle.driver_model.specs.declared.news.LinkFault.TheVariants as fault

-- pushes are heard
abbrev pub hears_pushes : Hearing → Bool
hears_pushes hearing.Pushes = true
hears_pushes hearing.Nothing = false
hears_pushes hearing.Messages = false
hears_pushes hearing.Monitor = false

-- the messages of publish/subscribe are heard
abbrev pub hears_messages : Hearing → Bool
hears_messages hearing.Messages = true
hears_messages hearing.Nothing = false
hears_messages hearing.Pushes = false
hears_messages hearing.Monitor = false

-- the server is put into monitor mode
abbrev pub is_watching : Hearing → Bool
is_watching hearing.Monitor = true
is_watching hearing.Nothing = false
is_watching hearing.Pushes = false
is_watching hearing.Messages = false

-- something is heard
abbrev pub hears_something : Hearing → Bool
hears_something hearing.Nothing = false
hears_something hearing.Pushes = true
hears_something hearing.Messages = true
hears_something hearing.Monitor = true

-- what a fault of the link is to its messages: on a link of messages each is the end of the connection
abbrev pub felt : Hearing → LinkFault → LinkFault
felt h f = if hears_messages h then fault.Ended else f

-- the text of a bulk string, and of a simple string
abbrev pub bulk_text : Data → Option (List ℕ)
bulk_text (bulk t) = Some t
bulk_text _ = None

abbrev pub plain_text : Data → Option (List ℕ)
plain_text (bulk t) = Some t
plain_text (simple t) = Some t
plain_text _ = None

-- a message that came by its channel: its channel, what was published, and perhaps more
abbrev pub by_channel : List Data → Option Msg
by_channel (channel ∷ payload ∷ more) = Some (record { pattern = None; channel = value_of channel; payload = value_of payload })
by_channel _ = None

-- and one that came by a pattern, which stands before them
abbrev pub by_pattern : List Data → Option Msg
by_pattern (pattern ∷ channel ∷ payload ∷ more) = Some (record { pattern = Some (value_of pattern); channel = value_of channel; payload = value_of payload })
by_pattern _ = None

-- the message of that kind that these parts are, if they are one
abbrev pub message_of : PushKind → List Data → Option Msg
message_of kind.Message parts = by_channel parts
message_of kind.SMessage parts = by_channel parts
message_of kind.PMessage parts = by_pattern parts
message_of _ parts = None

-- the message that an array is whose first element has this text
abbrev pub message_named : Option (List ℕ) → List Data → Option Msg
message_named None parts = None
message_named (Some name) parts = message_of (kind_of name) parts

-- an array confirms a subscription call, or answers a ping, where its first element is a bulk string with one of these texts
abbrev pub is_answer_named : Option (List ℕ) → Bool
is_answer_named None = false
is_answer_named (Some name) =
    if bytes_eq name (codes "subscribe") then true
    else if bytes_eq name (codes "psubscribe") then true
    else if bytes_eq name (codes "unsubscribe") then true
    else if bytes_eq name (codes "punsubscribe") then true
    else bytes_eq name (codes "pong")

-- what becomes of a value: whether it is dealt, to the oldest message that takes items; what is told of it, if anything is; and
-- whether it ends the link
pub record Taking : Type 0 where
  pub dealt : Bool
  pub told : Option Notice
  pub ends : Bool

-- it is dealt, where it is an item: all but a push without reply
abbrev pub as_item : Data → Taking
as_item v = record { dealt = is_item v; told = None; ends = false }

-- it answers a request, or nobody
abbrev pub answers : Taking
answers = record { dealt = true; told = None; ends = false }

-- it ends the link
abbrev pub strange : Taking
strange = record { dealt = false; told = None; ends = true }

-- a message is told, and what is none ends the link
abbrev pub as_message : Option Msg → Taking
as_message None = strange
as_message (Some m) = record { dealt = false; told = Some (notice.Message m); ends = false }

-- an array on a link of messages: it answers, or is a message
abbrev pub array_taken : List Data → Taking
array_taken [] = strange
array_taken (d ∷ ds) = if is_answer_named (bulk_text d) then answers else as_message (message_named (plain_text d) ds)

-- a push on a link of messages: one with reply answers, and every other is a message
abbrev pub push_taken : PushKind → List Data → Taking
push_taken k parts = if has_reply k then answers else as_message (message_of k parts)

-- any other value on a link of messages: it answers the oldest message that takes items, and ends the link where none does
abbrev pub other_taken : Bool → Taking
other_taken awaited = if awaited then answers else strange

-- what becomes of a value on a link of messages, whether some message there takes items
abbrev pub message_taken : Bool → Data → Taking
message_taken awaited (array ds) = array_taken (list_of ds)
message_taken awaited (push k parts) = push_taken k (list_of parts)
message_taken awaited _ = other_taken awaited

-- what is told of a push
abbrev pub push_told : Data → Option Notice
push_told (push k parts) = Some (notice.Push (record { kind = k; parts = list_of parts }))
push_told _ = None

-- an item is told
abbrev pub item_told : Data → Option Notice
item_told v = if is_item v then Some (notice.Monitor (value_of v)) else None

-- what becomes of a value on a link that is set up, where somebody hears this
abbrev pub taken_by : Hearing → Bool → Data → Taking
taken_by hearing.Nothing awaited v = as_item v
taken_by hearing.Pushes awaited v = record { dealt = is_item v; told = push_told v; ends = false }
taken_by hearing.Messages awaited v = message_taken awaited v
taken_by hearing.Monitor awaited v = record { dealt = false; told = item_told v; ends = false }

-- what becomes of a value: whether the link is set up, and whether some message takes more items. Before it is set up, nobody
-- hears anything
abbrev pub taking : Hearing → Bool → Bool → Data → Taking
taking h set_up awaited v = if set_up then taken_by h awaited v else as_item v
