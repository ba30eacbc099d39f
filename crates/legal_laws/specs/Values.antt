-- The values that come on a link once it is set up, and what is told of each.
use Rattle.std.specs.Prelude.{◌≡◌, ℕ, Bool, true, false, ◌&&◌, not, List, [], ◌∷◌, ◌++◌, Option, Some, None, option_map, slice_get, if◌then◌else◌}
use Rattle.resp_value.specs.Data.{Data, array, push, list_of}
use Rattle.resp_value.specs.Kinds.{has_reply}
use Rattle.resp_read.specs.Values.{values, left_over}
use Rattle.driver_model.specs.declared.action.Action.{Action}
use Rattle.driver_model.specs.declared.action.Action.TheVariants as action
use Rattle.driver_model.specs.declared.action.Cause.TheVariants as cause
use Rattle.driver_model.specs.declared.config.Config.{Config}
use Rattle.driver_model.specs.declared.hearing.Hearing.{Hearing}
use Rattle.driver_model.specs.declared.hearing.Hearing.TheVariants as hearing
use Rattle.driver_model.specs.declared.hearing.Notice.{Notice}
use Rattle.driver_model.specs.declared.hearing.Notice.TheVariants as notice
use Rattle.driver_model.specs.declared.msg.Msg.{Msg}
use Rattle.driver_model.specs.Config.{hearing_of}
use Rattle.driver_model.specs.Hearing.{hears_messages, bulk_text, plain_text, is_answer_named, message_named, message_of, push_told, item_told}
use Rattle.driver_model.specs.News.{News, came, news_of}
use Rattle.legal_trace.specs.Ledger.{Ledger, Start, cut, is_of_setup, is_set_up, value_came}
use Rattle.legal_trace.specs.Book.{Book, blank_book, book, entered}
use Rattle.legal_laws.specs.Notices.{notices_told, IsWhole}

-- the message of publish/subscribe that a value is, if it is one: a push, or an array that begins with the name of its kind
abbrev pub named_message : List Data → Option Msg
named_message [] = None
named_message (name ∷ parts) = message_named (plain_text name) parts

abbrev pub message_in : Data → Option Msg
message_in (push kind parts) = message_of kind (list_of parts)
message_in (array parts) = named_message (list_of parts)
message_in _ = None

-- a value confirms a subscription call, or answers a ping
abbrev pub begins_as_answer : List Data → Bool
begins_as_answer [] = false
begins_as_answer (name ∷ parts) = is_answer_named (bulk_text name)

abbrev pub is_confirmation : Data → Bool
is_confirmation (push kind parts) = has_reply kind
is_confirmation (array parts) = begins_as_answer (list_of parts)
is_confirmation _ = false

-- what is to be told of a value, where this is heard: a push; a message; each item
abbrev pub notice_in : Hearing → Data → Option Notice
notice_in hearing.Nothing v = None
notice_in hearing.Pushes v = push_told v
notice_in hearing.Messages v = option_map notice.Message (message_in v)
notice_in hearing.Monitor v = item_told v

-- and of values, one after another
abbrev pub listed : Option Notice → List Notice
listed None = []
listed (Some n) = n ∷ []

abbrev pub notices_in : Hearing → List Data → List Notice
notices_in h [] = []
notices_in h (v ∷ vs) = listed (notice_in h v) ++ notices_in h vs

-- the link is set up, and no value has ended it
abbrev pub is_hearing : Ledger → Bool
is_hearing l = is_set_up l && not l.strange

-- those of these values that find it so, as they come one after another
abbrev pub heard_of : Ledger → List Data → List Data
heard_of l [] = []
heard_of l (v ∷ vs) = (if is_hearing l then v ∷ [] else []) ++ heard_of (value_came l v) vs

-- those that news bring it while it is up: of the values that are whole now
abbrev pub heard_in : Ledger → News → List Data
heard_in l (came piece) = if l.up then heard_of (record l { rest = left_over (l.rest ++ piece) }) (values (l.rest ++ piece)) else []
heard_in l _ = []

-- those that an action brings link l
abbrev pub heard_by : Book → ℕ → Action → List Data
heard_by b l (action.Turn k (cause.Event e)) = heard_in (b.link l) (news_of b.timers b.sources l e.kind)
heard_by b l _ = []

-- and those that a trace does, in order
abbrev pub heard_each : Book → ℕ → List Action → List Data
heard_each b l [] = []
heard_each b l (a ∷ more) = heard_by b l a ++ heard_each (entered b a) l more

abbrev pub values_heard : ℕ → List Action → List Data
values_heard l trace = heard_each blank_book l trace

-- behind each whole turn this was told of a link, in order: the messages among the values that came on it once it was set up,
-- where messages are heard; the items among them, where it is a monitor's; their pushes; or nothing
abbrev pub TellsWhatCame : Config → List Action → Type 0
TellsWhatCame config trace =
    (front more : List Action) (l : ℕ) → trace ≡ front ++ more → IsWhole more
    → notices_told l front ≡ notices_in (hearing_of config) (values_heard l front)

-- a confirmation is no message
abbrev pub ConfirmationsAreNone : Type 0
ConfirmationsAreNone = (v : Data) → is_confirmation v ≡ true → message_in v ≡ None

-- behind each front of a trace no item of a request's message is a message, where messages are heard: none of these is dealt to it
abbrev pub DealsNoMessage : Config → List Action → Type 0
DealsNoMessage config trace =
    (front more : List Action) (l k i : ℕ) (s : Start) (v : Data) → hears_messages (hearing_of config) ≡ true → trace ≡ front ++ more
    → slice_get ((book front).link l).starts k ≡ Some s → is_of_setup s.owner ≡ false
    → slice_get (cut ((book front).link l) k s.shape) i ≡ Some v → message_in v ≡ None

-- values that came are told where they are to be, and dealt to no request where they are messages
pub record TellsMessages (config : Config) (trace : List Action) : Type 0 where
  pub told : TellsWhatCame config trace
  pub undealt : DealsNoMessage config trace
