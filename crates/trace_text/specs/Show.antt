-- The text of a trace: for each action the line of its words.
use Rattle.std.specs.Prelude.{ℕ, Bool, true, false, ◌==◌, List, [], ◌∷◌, ◌++◌, Option, Some, None, codes, decimal, flat_map, if◌then◌else◌}
use Rattle.std.specs.Str.{byte}
use Rattle.resp_value.specs.Data.{array, push, items_of}
use Rattle.redis_error.specs.Names.{fault_name}
use Rattle.redis_error.specs.declared.redis_error.RedisError.{RedisError}
use Rattle.resp_value.specs.View.{data_of}
use Rattle.resp_value.specs.declared.value.Value.{Value}
use Rattle.driver_model.specs.declared.config.Config.{Config}
use Rattle.driver_model.specs.declared.config.Config.TheVariants as config
use Rattle.driver_model.specs.declared.config_words.AddressWords.{AddressWords}
use Rattle.driver_model.specs.declared.config_words.ConnectionWords.{ConnectionWords}
use Rattle.driver_model.specs.declared.config_words.ManagerWords.{ManagerWords}
use Rattle.driver_model.specs.declared.kind.SessionKind.{SessionKind}
use Rattle.driver_model.specs.declared.kind.SessionKind.TheVariants as kind
use Rattle.driver_model.specs.declared.msg.Msg.{Msg}
use Rattle.driver_model.specs.Request.{listed}
use Rattle.resp_write.specs.declared.subscription.SubscriptionAction.{SubscriptionAction}
use Rattle.resp_write.specs.declared.subscription.SubscriptionAction.TheVariants as call
use Rattle.driver_model.specs.declared.event.Submission.{Submission}
use Rattle.driver_model.specs.declared.event.Submission.TheVariants as submission
use Rattle.driver_model.specs.declared.event.EventKind.{EventKind}
use Rattle.driver_model.specs.declared.event.EventKind.TheVariants as event
use Rattle.driver_model.specs.declared.action.Owner.{Owner}
use Rattle.driver_model.specs.declared.action.Owner.TheVariants.{Try, Setup, Auth, Resub, Monitor}
use Rattle.driver_model.specs.declared.action.WaitKind.{WaitKind}
use Rattle.driver_model.specs.declared.action.WaitKind.TheVariants as wait
use Rattle.driver_model.specs.declared.action.Purpose.{Purpose}
use Rattle.driver_model.specs.declared.action.Purpose.TheVariants as purpose
use Rattle.driver_model.specs.declared.action.Cause.{Cause}
use Rattle.driver_model.specs.declared.action.Cause.TheVariants.{Opening, Event}
use Rattle.driver_model.specs.declared.action.Action.{Action}
use Rattle.driver_model.specs.declared.action.Action.TheVariants as action
use Rattle.driver_model.specs.declared.push_info.PushInfo.{PushInfo}
use Rattle.driver_model.specs.Push.{is_disconnection}
use Rattle.driver_model.specs.declared.outcome.Outcome.{Outcome}
use Rattle.driver_model.specs.declared.outcome.Outcome.TheVariants.{One, Many, Done, Fault}
use Rattle.resp_write.specs.Canonical.{canonical}
use Rattle.trace_text.specs.Words.{line_of}
use Rattle.trace_text.specs.Errors.{error_words}

-- `HOST:PORT`
abbrev pub address : List ℕ → ℕ → List ℕ
address host port = host ++ byte ":" ∷ decimal port

-- the number of a submission
abbrev pub submission_word : ℕ → List ℕ
submission_word s = byte "s" ∷ decimal s

-- a try of a submission, its number and its round; what is said to the server before the first request; new credentials; what is
-- subscribed again; or MONITOR
abbrev pub owner_word : Owner → List ℕ
owner_word (Try s round) = submission_word s ++ byte "." ∷ decimal round
owner_word Setup = codes "setup"
owner_word Auth = codes "auth"
owner_word Resub = codes "resub"
owner_word Monitor = codes "monitor"

abbrev pub wait_word : WaitKind → List ℕ
wait_word wait.Connect = codes "connect"
wait_word wait.Creds = codes "creds"
wait_word wait.Setup = codes "setup"
wait_word wait.Resubscribe = codes "resubscribe"
wait_word wait.Backoff = codes "backoff"
wait_word wait.Permit = codes "permit"
wait_word wait.Place = codes "place"
wait_word wait.Room = codes "room"

-- the word that random draws come from, where it isn't 0
abbrev pub draw_words : ℕ → List (List ℕ)
draw_words w = if w == 0 then [] else (byte "@" ∷ decimal w) ∷ []

-- the server's address, as it was given
unfoldable pub url : AddressWords → List ℕ
url address = codes "url=" ++ address.url

-- how many milliseconds the connect may take, where it is given
abbrev pub connect_words : Option (Option ℕ) → List (List ℕ)
connect_words None = []
connect_words (Some None) = codes "connect=none" ∷ []
connect_words (Some (Some ms)) = (codes "connect=" ++ decimal ms) ∷ []

-- within how many milliseconds a request is to be answered, where it is given
abbrev pub response_words : Option (Option ℕ) → List (List ℕ)
response_words None = []
response_words (Some None) = codes "response=none" ∷ []
response_words (Some (Some ms)) = (codes "response=" ++ decimal ms) ∷ []

-- how many messages the queue of the link holds, where it is given
abbrev pub buffer_words : Option ℕ → List (List ℕ)
buffer_words None = []
buffer_words (Some size) = (codes "buffer=" ++ decimal size) ∷ []

-- how many permits there are, where it is given
abbrev pub limit_words : Option ℕ → List (List ℕ)
limit_words None = []
limit_words (Some limit) = (codes "limit=" ++ decimal limit) ∷ []

-- at how many unwritten bytes no message of the link starts, where it is given
abbrev pub boundary_words : Option ℕ → List (List ℕ)
boundary_words None = []
boundary_words (Some bytes) = (codes "boundary=" ++ decimal bytes) ∷ []

-- whether somebody hears pushes, where it is given
abbrev pub push_words : Option Bool → List (List ℕ)
push_words None = []
push_words (Some true) = codes "push=on" ∷ []
push_words (Some false) = codes "push=off" ∷ []

-- whether credentials come of a source, where it is given
abbrev pub creds_words : Option Bool → List (List ℕ)
creds_words None = []
creds_words (Some true) = codes "creds=on" ∷ []
creds_words (Some false) = codes "creds=off" ∷ []

-- whether the server is told which library speaks, where it is given
abbrev pub lib_words : Option Bool → List (List ℕ)
lib_words None = []
lib_words (Some true) = codes "lib=on" ∷ []
lib_words (Some false) = codes "lib=off" ∷ []

-- how many attempts to connect there are after the first, where it is given
abbrev pub retries_words : Option ℕ → List (List ℕ)
retries_words None = []
retries_words (Some count) = (codes "retries=" ++ decimal count) ∷ []

-- below how many milliseconds the first delay lies, where it is given
abbrev pub min_words : Option ℕ → List (List ℕ)
min_words None = []
min_words (Some ms) = (codes "min=" ++ decimal ms) ∷ []

-- how many milliseconds a delay has at most, where it is given
abbrev pub max_words : Option (Option ℕ) → List (List ℕ)
max_words None = []
max_words (Some None) = codes "max=none" ∷ []
max_words (Some (Some ms)) = (codes "max=" ++ decimal ms) ∷ []

-- a fraction: its numerator, `/` and its denominator
abbrev pub fraction_word : ℕ × ℕ → List ℕ
fraction_word base = decimal base.0 ++ byte "/" ∷ decimal base.1

-- by what delays grow, where it is given
abbrev pub base_words : Option (ℕ × ℕ) → List (List ℕ)
base_words None = []
base_words (Some base) = (codes "base=" ++ fraction_word base) ∷ []

-- whether what was subscribed is subscribed again, where it is given
abbrev pub resub_words : Option Bool → List (List ℕ)
resub_words None = []
resub_words (Some true) = codes "resub=on" ∷ []
resub_words (Some false) = codes "resub=off" ∷ []

-- what is given of the delays
abbrev pub delay_words : ManagerWords → List (List ℕ)
delay_words m = min_words m.min ++ max_words m.max ++ base_words m.base

-- how a connection comes back: what is given of the attempts, of the delays between them, and of what is subscribed again
abbrev pub manager_words : ManagerWords → List (List ℕ)
manager_words m = retries_words m.retries ++ delay_words m ++ resub_words m.resub

-- what is given of the times
abbrev pub times_words : ConnectionWords → List (List ℕ)
times_words c = connect_words c.connect ++ response_words c.response

-- what is given of the queue of the link, and of the number of permits
abbrev pub numbers_words : ConnectionWords → List (List ℕ)
numbers_words c = buffer_words c.buffer ++ limit_words c.limit ++ boundary_words c.boundary

-- what is given of what is on or off
abbrev pub switch_words : ConnectionWords → List (List ℕ)
switch_words c = push_words c.push ++ creds_words c.creds

-- how a multiplexed connection behaves: what is given of the times, of the numbers, and of what is on or off
abbrev pub setting_words : ConnectionWords → List (List ℕ)
setting_words c = times_words c ++ numbers_words c ++ switch_words c

-- the word of what a session is
abbrev pub kind_word : SessionKind → List ℕ
kind_word kind.Single = codes "single"
kind_word (kind.Manager false) = codes "manager"
kind_word (kind.Manager true) = codes "lazy"
kind_word kind.PubSub = codes "pubsub"
kind_word kind.Monitor = codes "monitor"

-- what a session is, and what is given of it: the address first, behind how its connection behaves whether its server is told
-- which library speaks, and last how it comes back
abbrev pub session_words : Config → List (List ℕ)
session_words (config.Single address connection) = kind_word kind.Single ∷ url address ∷ (setting_words connection ++ lib_words address.lib)
session_words (config.Manager lazy address connection manager) =
    kind_word (kind.Manager lazy) ∷ url address ∷ (setting_words connection ++ lib_words address.lib ++ manager_words manager)
session_words (config.PubSub address) = kind_word kind.PubSub ∷ url address ∷ lib_words address.lib
session_words (config.Monitor address) = kind_word kind.Monitor ∷ url address ∷ lib_words address.lib

-- the config line of a session
abbrev pub config_words : Config → List (List ℕ)
config_words c = codes "config" ∷ session_words c

-- a time: so many milliseconds, or any number
abbrev pub time_word : Option ℕ → List ℕ
time_word None = codes "none"
time_word (Some ms) = decimal ms

-- the first of some commands, which has no words where there is none
abbrev pub first_of : List (List (List ℕ)) → List (List ℕ)
first_of [] = []
first_of (command ∷ commands) = command

-- the commands behind the first
abbrev pub behind_first : List (List (List ℕ)) → List (List (List ℕ))
behind_first [] = []
behind_first (command ∷ commands) = commands

-- the name of a subscription call
abbrev pub call_word : SubscriptionAction → List ℕ
call_word call.Subscribe = codes "subscribe"
call_word call.Unsubscribe = codes "unsubscribe"
call_word call.PSubscribe = codes "psubscribe"
call_word call.PUnsubscribe = codes "punsubscribe"
call_word call.SSubscribe = codes "ssubscribe"
call_word call.Sunsubscribe = codes "sunsubscribe"

abbrev pub submission_words : Submission → List (List ℕ)
submission_words (submission.Cmd args) = codes "cmd" ∷ args
submission_words (submission.NoReply args) = codes "noreply" ∷ args
submission_words (submission.Pipe commands) = codes "pipe" ∷ first_of commands
submission_words (submission.Multi commands) = codes "multi" ∷ first_of commands
submission_words (submission.Packed offset count commands) = codes "packed" ∷ decimal offset ∷ decimal count ∷ first_of commands
submission_words (submission.Subscription what names) = call_word what ∷ names
submission_words (submission.Ping message) = codes "ping" ∷ listed message

-- the words behind separators: the commands of a list but for the first
abbrev pub submission_more : Submission → List (List (List ℕ))
submission_more (submission.Cmd args) = []
submission_more (submission.NoReply args) = []
submission_more (submission.Pipe commands) = behind_first commands
submission_more (submission.Multi commands) = behind_first commands
submission_more (submission.Packed offset count commands) = behind_first commands
submission_more (submission.Subscription what names) = []
submission_more (submission.Ping message) = []

abbrev pub event_words : EventKind → List (List ℕ)
event_words (event.Submit s) = codes "submit" ∷ submission_words s
event_words (event.Cancel s) = codes "cancel" ∷ decimal s ∷ []
event_words (event.Connected link) = codes "connected" ∷ decimal link ∷ []
event_words (event.Refused link kind) = codes "refused" ∷ decimal link ∷ fault_name kind ∷ []
event_words (event.Wrote link count) = codes "wrote" ∷ decimal link ∷ decimal count ∷ []
event_words (event.Bytes link piece) = codes "bytes" ∷ decimal link ∷ piece ∷ []
event_words (event.Ended link) = codes "ended" ∷ decimal link ∷ []
event_words (event.ReadFault link kind) = codes "read-fault" ∷ decimal link ∷ fault_name kind ∷ []
event_words (event.WriteFault link kind) = codes "write-fault" ∷ decimal link ∷ fault_name kind ∷ []
event_words (event.Fired timer) = codes "fired" ∷ decimal timer ∷ []
event_words (event.Creds source auth) = codes "creds" ∷ decimal source ∷ auth.username ∷ auth.password ∷ []
event_words (event.CredsError source text) = codes "creds-err" ∷ decimal source ∷ text ∷ []
event_words (event.CredsEnd source) = codes "creds-end" ∷ decimal source ∷ []
event_words (event.Timeout ms) = codes "timeout" ∷ time_word ms ∷ []
event_words event.DropStream = codes "drop-stream" ∷ []
event_words event.Shutdown = codes "shutdown" ∷ []

abbrev pub event_more : EventKind → List (List (List ℕ))
event_more (event.Submit s) = submission_more s
event_more _ = []

-- the opening is told by the config line, an event by its own
abbrev pub cause_words : Cause → List (List ℕ)
cause_words (Opening config w) = draw_words w ++ config_words config
cause_words (Event e) = draw_words e.word ++ event_words e.kind

abbrev pub cause_more : Cause → List (List (List ℕ))
cause_more (Opening config w) = []
cause_more (Event e) = event_more e.kind

-- the line of a script that tells a cause: the config line, or that of an event
abbrev pub script_line : Cause → List ℕ
script_line c = line_of (cause_words c) (cause_more c)

abbrev pub outcome_words : Outcome → List (List ℕ)
outcome_words (One value) = codes "ok" ∷ canonical (data_of value) ∷ []
outcome_words (Many values) = codes "many" ∷ canonical (array (items_of values)) ∷ []
outcome_words Done = codes "done" ∷ []
outcome_words (Fault error) = codes "err" ∷ error_words error

-- what a timer is asked for
abbrev pub purpose_words : Purpose → List (List ℕ)
purpose_words (purpose.Connect link) = codes "connect" ∷ decimal link ∷ []
purpose_words (purpose.Response owner) = codes "response" ∷ owner_word owner ∷ []
purpose_words (purpose.Renewal link number) = codes "response" ∷ owner_word Auth ∷ []
purpose_words (purpose.Backoff generation) = codes "backoff" ∷ decimal generation ∷ []
purpose_words (purpose.Resubscription link) = codes "response" ∷ owner_word Resub ∷ []

-- how an opening went: its error, where it failed
abbrev pub created_words : Option RedisError → List (List ℕ)
created_words None = codes "ok" ∷ []
created_words (Some error) = codes "err" ∷ error_words error

-- a push: its value, or that the link has ended
abbrev pub push_word : PushInfo → List ℕ
push_word info = if is_disconnection info.kind then codes "disconnect" else canonical (push info.kind (items_of info.parts))

-- the pattern that a message came by, or `-` where it came by its channel
abbrev pub pattern_word : Option Value → List ℕ
pattern_word None = codes "-"
pattern_word (Some pattern) = canonical (data_of pattern)

-- a message of publish/subscribe
abbrev pub message_words : Msg → List (List ℕ)
message_words msg = pattern_word msg.pattern ∷ canonical (data_of msg.channel) ∷ canonical (data_of msg.payload) ∷ []

-- a link, or none
abbrev pub link_word : Option ℕ → List ℕ
link_word None = codes "none"
link_word (Some link) = decimal link

-- the words of an action, as they are before any escape
abbrev pub words_of : Action → List (List ℕ)
words_of (action.Turn number cause) = codes "turn" ∷ decimal number ∷ cause_words cause
words_of (action.Connect link host port) = codes "connect" ∷ decimal link ∷ address host port ∷ []
words_of (action.Timer timer ms what) = codes "timer" ∷ decimal timer ∷ decimal ms ∷ purpose_words what
words_of (action.Took owner link count) = codes "took" ∷ owner_word owner ∷ decimal link ∷ decimal count ∷ []
words_of (action.Push link info) = codes "push" ∷ decimal link ∷ push_word info ∷ []
words_of (action.Message msg) = codes "message" ∷ message_words msg
words_of (action.Monitor value) = codes "monitor" ∷ canonical (data_of value) ∷ []
words_of (action.NeedCreds source link) = codes "need-creds" ∷ decimal source ∷ decimal link ∷ []
words_of (action.Generation number) = codes "generation" ∷ decimal number ∷ []
words_of (action.Round owner link) = codes "round" ∷ owner_word owner ∷ link_word link ∷ []
words_of (action.Close link) = codes "close" ∷ decimal link ∷ []
words_of (action.Write link bytes) = codes "write" ∷ decimal link ∷ bytes ∷ []
words_of (action.Wait owner kind) = codes "wait" ∷ owner_word owner ∷ wait_word kind ∷ []
words_of (action.Start link message owner need len) = codes "start" ∷ decimal link ∷ decimal message ∷ owner_word owner ∷ decimal need ∷ decimal len ∷ []
words_of (action.Created error) = codes "created" ∷ created_words error
words_of (action.Outcome s outcome) = codes "outcome" ∷ submission_word s ∷ outcome_words outcome

-- those behind separators
abbrev pub more_of : Action → List (List (List ℕ))
more_of (action.Turn number cause) = cause_more cause
more_of _ = []

-- the line of an action
abbrev pub action_line : Action → List ℕ
action_line a = line_of (words_of a) (more_of a)

-- the text of a trace
abbrev pub show : List Action → List ℕ
show actions = flat_map action_line actions
