-- Traces of links of publish/subscribe and of links in monitor mode.
use Rattle.std.specs.Prelude.{ℕ, false, List, [], ◌∷◌, ◌++◌, Some, None, codes}
use Rattle.redis_error.specs.declared.fault_kind.FaultKind.TheVariants.{Reset}
use Rattle.resp_value.specs.Data.{bulk}
use Rattle.resp_value.specs.View.{value_of}
use Rattle.resp_write.specs.declared.subscription.SubscriptionAction.TheVariants.{Subscribe}
use Rattle.driver_model.specs.declared.action.Action.{Action}
use Rattle.driver_model.specs.declared.action.Action.TheVariants as action
use Rattle.driver_model.specs.declared.action.Owner.TheVariants as owner
use Rattle.driver_model.specs.declared.config.Config.{Config}
use Rattle.driver_model.specs.declared.config.Config.TheVariants as variant
use Rattle.driver_model.specs.declared.event.EventKind.TheVariants as event
use Rattle.driver_model.specs.declared.event.Submission.{Submission}
use Rattle.driver_model.specs.declared.event.Submission.TheVariants as submission
use Rattle.driver_model.specs.declared.msg.Msg.{Msg}
use Rattle.driver_model.specs.declared.outcome.Outcome.TheVariants as outcome
use Rattle.trace_examples.specs.Parts.{unbounded, turn, okay_line}
use Rattle.trace_examples.specs.Pushes.{heard, pushed_alone}
use Rattle.trace_examples.specs.Setups.{password_line, setup_sent}
use Rattle.trace_examples.specs.Traces.{opening, came_up}

-- a link of publish/subscribe with the server of this URL, to which the library isn't named, and one in monitor mode
abbrev pub listens_at : List ℕ → Config
listens_at url = variant.PubSub (record { url = url; lib = Some false })

abbrev pub watches_at : List ℕ → Config
watches_at url = variant.Monitor (record { url = url; lib = Some false })

-- both where nothing is to be said before the first request
abbrev pub listener : Config
listener = listens_at (codes "redis://h:6379")

abbrev pub watcher : Config
watcher = watches_at (codes "redis://h:6379")

-- and where the password pw is
abbrev pub secured_listener : Config
secured_listener = listens_at (codes "redis://:pw@h:6379")

abbrev pub secured_watcher : Config
secured_watcher = watches_at (codes "redis://:pw@h:6379")

-- a call that subscribes to the channel ch, in 27 bytes, and its confirmation
abbrev pub subscription : Submission
subscription = submission.Subscription Subscribe (codes "ch" ∷ [])

abbrev pub subscribe_line : List ℕ
subscribe_line = codes "*2\r\n$9\r\nSUBSCRIBE\r\n$2\r\nch\r\n"

abbrev pub subscribed_line : List ℕ
subscribed_line = codes "*3\r\n$9\r\nsubscribe\r\n$2\r\nch\r\n:1\r\n"

-- hi, published on that channel
abbrev pub message_line : List ℕ
message_line = codes "*3\r\n$7\r\nmessage\r\n$2\r\nch\r\n$2\r\nhi\r\n"

abbrev pub greeting : Msg
greeting = record { pattern = None; channel = value_of (bulk (codes "ch")); payload = value_of (bulk (codes "hi")) }

-- a ping without a message, in 14 bytes, and its reply
abbrev pub bare_ping : Submission
bare_ping = submission.Ping None

abbrev pub ping_line : List ℕ
ping_line = codes "*1\r\n$4\r\nPING\r\n"

abbrev pub pong_line : List ℕ
pong_line = codes "+PONG\r\n"

-- an array that is neither an answer nor a message, and a value that answers whoever waits
abbrev pub foo_line : List ℕ
foo_line = codes "*1\r\n$3\r\nfoo\r\n"

abbrev pub plain_line : List ℕ
plain_line = codes "+x\r\n"

-- MONITOR, in 17 bytes; what a server tells then, alone and right behind its answer
abbrev pub monitor_line : List ℕ
monitor_line = codes "*1\r\n$7\r\nMONITOR\r\n"

abbrev pub watched_line : List ℕ
watched_line = codes "+m\r\n"

abbrev pub answer_and_watched : List ℕ
answer_and_watched = codes "+OK\r\n+m\r\n"

-- a link came up, and the call was sent
abbrev pub called : Config → ℕ → List Action
called config word = came_up config word ++ turn 2 (event.Submit subscription) ∷ action.Start 0 0 (owner.Try 0 0) 1 27 ∷ action.Write 0 subscribe_line ∷ []

-- its confirmation came
abbrev pub confirmation_came : Config → ℕ → List Action
confirmation_came config word = called config word ++ turn 3 (event.Bytes 0 subscribed_line) ∷ []

-- it is done, and a message came
abbrev pub message_came : Config → ℕ → List Action
message_came config word = confirmation_came config word ++ action.Outcome 0 outcome.Done ∷ turn 4 (event.Bytes 0 message_line) ∷ []

-- and was told
abbrev pub message_told : Config → ℕ → List Action
message_told config word = message_came config word ++ action.Message greeting ∷ []

-- or a message came right behind the confirmation
abbrev pub both_came : Config → ℕ → List Action
both_came config word = called config word ++ turn 3 (event.Bytes 0 (subscribed_line ++ message_line)) ∷ []

-- or a message came while the call is open
abbrev pub message_while_called : Config → ℕ → List Action
message_while_called config word = called config word ++ turn 3 (event.Bytes 0 message_line) ∷ []

-- or a read failed, or the stream of messages was dropped
abbrev pub cut_off_called : Config → ℕ → List Action
cut_off_called config word = called config word ++ turn 3 (event.ReadFault 0 Reset) ∷ []

abbrev pub dropped_called : Config → ℕ → List Action
dropped_called config word = called config word ++ turn 3 event.DropStream ∷ []

-- the first of these closed the link
abbrev pub closed_called : Config → ℕ → List Action
closed_called config word = cut_off_called config word ++ action.Close 0 ∷ []

-- a ping was sent
abbrev pub pinged : Config → ℕ → List Action
pinged config word = came_up config word ++ turn 2 (event.Submit bare_ping) ∷ action.Start 0 0 (owner.Try 0 0) 1 14 ∷ action.Write 0 ping_line ∷ []

-- a value came that nobody awaits
abbrev pub strange_came : Config → ℕ → List Action
strange_came config word = came_up config word ++ turn 2 (event.Bytes 0 plain_line) ∷ []

-- or a message came in front of it
abbrev pub message_and_more : Config → ℕ → List Action
message_and_more config word = came_up config word ++ turn 2 (event.Bytes 0 (message_line ++ plain_line)) ∷ []

-- the stream of messages was dropped while nothing was open
abbrev pub dropped_alone : Config → ℕ → List Action
dropped_alone config word = came_up config word ++ turn 2 event.DropStream ∷ []

-- a message came before the setup was answered
abbrev pub message_in_setup : Config → ℕ → List Action
message_in_setup config word = setup_sent config word 1 22 password_line ++ turn 2 (event.Bytes 0 message_line) ∷ []

-- MONITOR was sent
abbrev pub watching : Config → ℕ → List Action
watching config word = opening config word ++ turn 1 (event.Connected 0) ∷ action.Start 0 0 owner.Monitor 1 17 ∷ action.Write 0 monitor_line ∷ []

-- its answer came
abbrev pub watch_answered : Config → ℕ → List Action
watch_answered config word = watching config word ++ turn 2 (event.Bytes 0 okay_line) ∷ []

-- and the creation was shown
abbrev pub watched : Config → ℕ → List Action
watched config word = watch_answered config word ++ action.Created None ∷ []

-- and the server tells something
abbrev pub item_came : Config → ℕ → List Action
item_came config word = watched config word ++ turn 3 (event.Bytes 0 watched_line) ∷ []

-- the setup was answered, and then MONITOR was sent
abbrev pub setup_and_watching : Config → ℕ → List Action
setup_and_watching config word =
    setup_sent config word 1 22 password_line ++
    turn 2 (event.Wrote 0 22) ∷ turn 3 (event.Bytes 0 okay_line) ∷ action.Start 0 1 owner.Monitor 1 17 ∷ action.Write 0 monitor_line ∷ []

-- the fronts of the traces that are refused for what comes next
abbrev pub listening_fronts : ℕ → List (List Action)
listening_fronts word =
    called listener word ∷ confirmation_came listener word ∷ message_came listener word ∷ message_told listener word ∷
    message_while_called listener word ∷ closed_called listener word ∷ dropped_called listener word ∷ strange_came listener word ∷
    both_came listener word ∷ message_and_more listener word ∷ message_in_setup secured_listener word ∷ pushed_alone heard word ∷
    dropped_alone unbounded word ∷ []

abbrev pub watching_fronts : ℕ → List (List Action)
watching_fronts word =
    came_up listener word ∷ watching watcher word ∷ watch_answered watcher word ∷ watched watcher word ∷
    item_came watcher word ∷ setup_sent secured_watcher word 1 22 password_line ∷ []

abbrev pub formless_fronts : ℕ → List (List Action)
formless_fronts word = came_up listener word ∷ came_up unbounded word ∷ watched watcher word ∷ []
