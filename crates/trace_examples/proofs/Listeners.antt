-- Links of publish/subscribe and of monitor mode: traces that can be relied on, and actions that stand where they may not.
use Rattle.std.proofs.Common.{◌≡◌, ℕ, Bool, true, false, List, [], ◌∷◌, ◌++◌, Option, Some, None, codes, pos, refl, sym, ap, ◌∙◌, subst}
use Rattle.std.specs.Fmt.{digits}
use Rattle.std.specs.Str.Lossy.{utf8_lossy, utf8_valid_len}
use Rattle.url.proofs.OnLiterals.{url_on_literals}
use Rattle.containers.proofs.Choices.{not_both}
use Rattle.connection_info.specs.declared.address.ConnectionInfo.{ConnectionInfo}
use Rattle.connection_info.specs.declared.protocol.ProtocolVersion.TheVariants.{RESP2}
use Rattle.redis_error.specs.declared.fault_kind.FaultKind.{FaultKind}
use Rattle.redis_error.specs.declared.fault_kind.FaultKind.TheVariants.{Reset}
use Rattle.redis_error.specs.declared.redis_error.RedisError.TheVariants as error
use Rattle.resp_value.specs.Data.{simple}
use Rattle.resp_value.specs.Kinds.{kind_of}
use Rattle.resp_value.specs.View.{value_of}
use Rattle.resp_value.specs.declared.value.Value.{Value}
use Rattle.resp_read.specs.Grammar.{max_depth}
use Rattle.resp_read.specs.Values.{values, left_over, is_spoiled}
use Rattle.resp_read.specs.Items.{items}
use Rattle.resp_write.specs.declared.subscription.SubscriptionAction.TheVariants.{SSubscribe}
use Rattle.driver_model.specs.Config.{address, fault_in}
use Rattle.driver_model.specs.Push.{is_disconnection}
use Rattle.driver_model.specs.declared.action.Action.TheVariants as action
use Rattle.driver_model.specs.declared.action.Cause.{Cause}
use Rattle.driver_model.specs.declared.action.Cause.TheVariants as cause
use Rattle.driver_model.specs.declared.action.Owner.TheVariants as owner
use Rattle.driver_model.specs.declared.event.EventKind.TheVariants as event
use Rattle.driver_model.specs.declared.hearing.Notice.{Notice}
use Rattle.driver_model.specs.declared.hearing.Notice.TheVariants as notice
use Rattle.driver_model.specs.declared.event.Submission.{Submission}
use Rattle.driver_model.specs.declared.event.Submission.TheVariants as submission
use Rattle.driver_model.specs.declared.msg.Msg.{Msg}
use Rattle.driver_model.specs.declared.outcome.Outcome.{Outcome}
use Rattle.driver_model.specs.declared.outcome.Outcome.TheVariants as outcome
use Rattle.driver_model.specs.declared.push_info.PushInfo.{PushInfo}
use Rattle.legal_trace.specs.Book.{Book, blank_book}
use Rattle.legal_trace.specs.Managers.{settings_in, is_lazy}
use Rattle.legal_trace.specs.Events.{is_bad_event}
use Rattle.legal_trace.specs.Ledger.{Heard, is_full_by, next_notice}
use Rattle.legal_trace.specs.Story.{Try}
use Rattle.legal_trace.specs.Legal.{MayNotify, MayPushBy, MayTurn, are_pushes_heard}
use Rattle.legal_trace.proofs.Plain.{same_some}
use Rattle.trace_examples.specs.Claims.{IsTraceIn, NoneBeginsIn}
use Rattle.trace_examples.specs.Fronts.{EachStands}
use Rattle.trace_examples.specs.Listeners.{listener, watcher, secured_listener, secured_watcher, subscription, subscribed_line, message_line, greeting, bare_ping, pong_line, foo_line, plain_line, watched_line, answer_and_watched, called, confirmation_came, message_came, message_told, message_while_called, cut_off_called, dropped_called, closed_called, pinged, both_came, message_and_more, item_came, formless_fronts, subscribe_line, strange_came, dropped_alone, message_in_setup, watching, watch_answered, watched, setup_and_watching, listening_fronts, watching_fronts}
use Rattle.trace_examples.specs.Parts.{unbounded, turn, command, okay_line}
use Rattle.trace_examples.specs.Pushes.{heard, invalidation, pushed_alone}
use Rattle.trace_examples.specs.Setups.{password_line, setup_sent}
use Rattle.trace_examples.specs.Traces.{opening, came_up}
use Rattle.trace_examples.proofs.Bounded.{blank_bounded, bounded_behind}
use Rattle.trace_examples.proofs.Due.{IsPlace, legal, stands}
use Rattle.trace_examples.proofs.Pushes.{at_heard}
use Rattle.trace_examples.proofs.Server.{at_h}
use Rattle.trace_examples.proofs.Single.{none_is_some, other_fault}
use Rattle.trace_examples.proofs.Stood.{book_of, may_stand, answer, none_is_set, created_by_link}

-- h and 6379, where this password is said or none
abbrev server_with : Option (List ℕ) → ConnectionInfo
server_with password = record {
  host = codes "h";
  port = 6379;
  redis = record { db = pos 0; username = None; password = password; protocol = RESP2; skip_set_lib_name = false };
}

-- the opening of a link of publish/subscribe asks for it, and so does that of one in monitor mode
is_listeners : address listener ≡ Some (server_with None)
unfolding url_on_literals utf8_lossy utf8_valid_len
is_listeners = refl

at_listener : IsPlace listener (codes "h") 6379
at_listener = record { sound = ap (λ a. fault_in a false None 4294967295) is_listeners; info = server_with None; configured = is_listeners; is = (refl, refl) }

is_watchers : address watcher ≡ Some (server_with None)
unfolding url_on_literals utf8_lossy utf8_valid_len
is_watchers = refl

at_watcher : IsPlace watcher (codes "h") 6379
at_watcher = record { sound = ap (λ a. fault_in a false None 4294967295) is_watchers; info = server_with None; configured = is_watchers; is = (refl, refl) }

-- also with the password
is_secured_listeners : address secured_listener ≡ Some (server_with (Some (codes "pw")))
unfolding url_on_literals utf8_lossy utf8_valid_len
is_secured_listeners = refl

at_secured_listener : IsPlace secured_listener (codes "h") 6379
at_secured_listener = record { sound = ap (λ a. fault_in a false None 4294967295) is_secured_listeners; info = server_with (Some (codes "pw")); configured = is_secured_listeners; is = (refl, refl) }

is_secured_watchers : address secured_watcher ≡ Some (server_with (Some (codes "pw")))
unfolding url_on_literals utf8_lossy utf8_valid_len
is_secured_watchers = refl

at_secured_watcher : IsPlace secured_watcher (codes "h") 6379
at_secured_watcher = record { sound = ap (λ a. fault_in a false None 4294967295) is_secured_watchers; info = server_with (Some (codes "pw")); configured = is_secured_watchers; is = (refl, refl) }

-- a confirmed call is done, and a message is told
pub subscribed_and_told : IsTraceIn listener
    (event.Connected 0 ∷ event.Submit subscription ∷ event.Bytes 0 subscribed_line ∷ event.Bytes 0 message_line ∷ [])
    message_came
    (action.Message greeting ∷ [])
unfolding digits settings_in is_lazy is_bad_event items values left_over is_spoiled max_depth kind_of url_on_literals utf8_lossy utf8_valid_len
subscribed_and_told word = legal listener word _ _ refl refl (at_listener, (refl, (refl, (refl, tt))))

-- also while the call is open
pub told_while_called : IsTraceIn listener
    (event.Connected 0 ∷ event.Submit subscription ∷ event.Bytes 0 message_line ∷ [])
    message_while_called
    (action.Message greeting ∷ [])
unfolding digits settings_in is_lazy is_bad_event items values left_over is_spoiled max_depth kind_of url_on_literals utf8_lossy utf8_valid_len
told_while_called word = legal listener word _ _ refl refl (at_listener, (refl, (refl, tt)))

-- and in the order in which they came
pub told_behind_the_outcome : IsTraceIn listener
    (event.Connected 0 ∷ event.Submit subscription ∷ event.Bytes 0 (subscribed_line ++ message_line) ∷ [])
    both_came
    (action.Outcome 0 outcome.Done ∷ action.Message greeting ∷ [])
unfolding digits settings_in is_lazy is_bad_event items values left_over is_spoiled max_depth kind_of url_on_literals utf8_lossy utf8_valid_len
told_behind_the_outcome word = legal listener word _ _ refl refl (at_listener, (refl, (refl, (refl, tt))))

-- as it is where the link ends
pub told_before_the_close : IsTraceIn listener
    (event.Connected 0 ∷ event.Bytes 0 (message_line ++ plain_line) ∷ [])
    message_and_more
    (action.Message greeting ∷ action.Close 0 ∷ [])
unfolding digits settings_in is_lazy is_bad_event items values left_over is_spoiled max_depth kind_of url_on_literals utf8_lossy utf8_valid_len
told_before_the_close word = legal listener word _ _ refl refl (at_listener, (refl, tt))

-- no call has a timer, also where a time is set
pub untimed : IsTraceIn listener
    (event.Connected 0 ∷ event.Timeout (Some 100) ∷ event.Submit subscription ∷ [])
    came_up
    (turn 2 (event.Timeout (Some 100)) ∷ turn 3 (event.Submit subscription) ∷ action.Start 0 0 (owner.Try 0 0) 1 27 ∷ action.Write 0 subscribe_line ∷ [])
unfolding digits settings_in is_lazy is_bad_event items values left_over is_spoiled max_depth kind_of url_on_literals utf8_lossy utf8_valid_len
untimed word = legal listener word _ _ refl refl (at_listener, (refl, tt))

-- a ping is answered, and an array that is no message ends the link
pub pinged_and_closed : IsTraceIn listener
    (event.Connected 0 ∷ event.Submit bare_ping ∷ event.Bytes 0 pong_line ∷ event.Submit bare_ping ∷ event.Bytes 0 foo_line ∷ [])
    pinged
    (turn 3 (event.Bytes 0 pong_line) ∷ action.Outcome 0 (outcome.One (value_of (simple (codes "PONG")))) ∷
    turn 4 (event.Submit bare_ping) ∷ action.Start 0 1 (owner.Try 1 0) 1 14 ∷
    turn 5 (event.Bytes 0 foo_line) ∷ action.Close 0 ∷ action.Outcome 1 (outcome.Fault error.Closed) ∷ [])
unfolding digits settings_in is_lazy is_bad_event items values left_over is_spoiled max_depth kind_of url_on_literals utf8_lossy utf8_valid_len
pinged_and_closed word = legal listener word _ _ refl refl (at_listener, (refl, (refl, (refl, tt))))

-- so does a value that nobody awaits
pub closed_by_a_value : IsTraceIn listener (event.Connected 0 ∷ event.Bytes 0 plain_line ∷ []) strange_came (action.Close 0 ∷ [])
unfolding digits settings_in is_lazy is_bad_event items values left_over is_spoiled max_depth kind_of url_on_literals utf8_lossy utf8_valid_len
closed_by_a_value word = legal listener word _ _ refl refl (at_listener, tt)

-- a fault closes an open call, as does the end of the connection
pub closed_by_a_fault : IsTraceIn listener
    (event.Connected 0 ∷ event.Submit subscription ∷ event.ReadFault 0 Reset ∷ [])
    cut_off_called
    (action.Close 0 ∷ action.Outcome 0 (outcome.Fault error.Closed) ∷ [])
unfolding digits settings_in is_lazy is_bad_event items values left_over is_spoiled max_depth kind_of url_on_literals utf8_lossy utf8_valid_len
closed_by_a_fault word = legal listener word _ _ refl refl (at_listener, (refl, (refl, tt)))

-- and so does a dropped stream
pub closed_by_the_drop : IsTraceIn listener
    (event.Connected 0 ∷ event.Submit subscription ∷ event.DropStream ∷ [])
    dropped_called
    (action.Close 0 ∷ action.Outcome 0 (outcome.Fault error.Closed) ∷ [])
unfolding digits settings_in is_lazy is_bad_event items values left_over is_spoiled max_depth kind_of url_on_literals utf8_lossy utf8_valid_len
closed_by_the_drop word = legal listener word _ _ refl refl (at_listener, (refl, (refl, tt)))

-- one that is dropped before the connect fails the creation
pub dropped_before_the_connect : IsTraceIn listener (event.DropStream ∷ []) opening (turn 1 event.DropStream ∷ action.Close 0 ∷ action.Created (Some error.Closed) ∷ [])
unfolding digits settings_in is_lazy is_bad_event items values left_over is_spoiled max_depth kind_of url_on_literals utf8_lossy utf8_valid_len
dropped_before_the_connect word = legal listener word _ _ refl refl (at_listener, (refl, tt))

-- a multiplexed connection has none
pub nothing_to_drop : IsTraceIn unbounded (event.Connected 0 ∷ event.DropStream ∷ []) dropped_alone []
unfolding digits settings_in is_lazy is_bad_event items values left_over is_spoiled max_depth kind_of url_on_literals utf8_lossy utf8_valid_len
nothing_to_drop word = legal unbounded word _ _ refl refl (at_h (Some None), tt)

-- MONITOR's answer shows the creation, and what comes behind it is told
pub watched_and_told : IsTraceIn watcher
    (event.Connected 0 ∷ event.Bytes 0 okay_line ∷ event.Bytes 0 watched_line ∷ [])
    watching
    (turn 2 (event.Bytes 0 okay_line) ∷ action.Created None ∷ turn 3 (event.Bytes 0 watched_line) ∷ action.Monitor (value_of (simple (codes "m"))) ∷ [])
unfolding digits settings_in is_lazy is_bad_event items values left_over is_spoiled max_depth kind_of url_on_literals utf8_lossy utf8_valid_len
watched_and_told word = legal watcher word _ _ refl refl (at_watcher, (refl, (refl, tt)))

-- also where both come in one piece
pub answered_and_told_at_once : IsTraceIn watcher
    (event.Connected 0 ∷ event.Bytes 0 answer_and_watched ∷ [])
    watching
    (turn 2 (event.Bytes 0 answer_and_watched) ∷ action.Created None ∷ action.Monitor (value_of (simple (codes "m"))) ∷ [])
unfolding digits settings_in is_lazy is_bad_event items values left_over is_spoiled max_depth kind_of url_on_literals utf8_lossy utf8_valid_len
answered_and_told_at_once word = legal watcher word _ _ refl refl (at_watcher, (refl, (refl, tt)))

-- where something is said before, MONITOR starts once that is answered
pub watched_behind_the_setup : IsTraceIn secured_watcher
    (event.Connected 0 ∷ event.Wrote 0 22 ∷ event.Bytes 0 okay_line ∷ event.Bytes 0 okay_line ∷ [])
    setup_and_watching
    (turn 4 (event.Bytes 0 okay_line) ∷ action.Created None ∷ [])
unfolding digits settings_in is_lazy is_bad_event items values left_over is_spoiled max_depth kind_of url_on_literals utf8_lossy utf8_valid_len
watched_behind_the_setup word = legal secured_watcher word _ _ refl refl (at_secured_watcher, (refl, (refl, tt)))

-- a fault before its answer is the error of the creation
pub failed_by_its_fault : IsTraceIn watcher
    (event.Connected 0 ∷ event.ReadFault 0 Reset ∷ [])
    watching
    (turn 2 (event.ReadFault 0 Reset) ∷ action.Close 0 ∷ action.Created (Some (error.Io Reset)) ∷ [])
unfolding digits settings_in is_lazy is_bad_event items values left_over is_spoiled max_depth kind_of url_on_literals utf8_lossy utf8_valid_len
failed_by_its_fault word = legal watcher word _ _ refl refl (at_watcher, (refl, (refl, tt)))

-- these fronts stand
pub listening_fronts_stand : (word : ℕ) → EachStands (listening_fronts word)
unfolding digits settings_in is_lazy is_bad_event items values left_over is_spoiled max_depth kind_of url_on_literals utf8_lossy utf8_valid_len
listening_fronts_stand word =
    let asked = stands (called listener word) refl (at_listener, (refl, tt)) in
    let confirmed = stands (confirmation_came listener word) refl (at_listener, (refl, tt)) in
    let came = stands (message_came listener word) refl (at_listener, (refl, (refl, tt))) in
    let told = stands (message_told listener word) refl (at_listener, (refl, (refl, (refl, tt)))) in
    let meanwhile = stands (message_while_called listener word) refl (at_listener, (refl, tt)) in
    let closed = stands (closed_called listener word) refl (at_listener, (refl, tt)) in
    let dropped = stands (dropped_called listener word) refl (at_listener, (refl, tt)) in
    let other = stands (strange_came listener word) refl (at_listener, tt) in
    let both = stands (both_came listener word) refl (at_listener, (refl, tt)) in
    let more = stands (message_and_more listener word) refl (at_listener, tt) in
    let early = stands (message_in_setup secured_listener word) refl (at_secured_listener, (refl, tt)) in
    let push = stands (pushed_alone heard word) refl (at_heard, (refl, tt)) in
    let alone = stands (dropped_alone unbounded word) refl (at_h (Some None), tt) in
    (asked, (confirmed, (came, (told, (meanwhile, (closed, (dropped, (other, (both, (more, (early, (push, (alone, tt)))))))))))))

-- and so do these
pub watching_fronts_stand : (word : ℕ) → EachStands (watching_fronts word)
unfolding digits settings_in is_lazy is_bad_event items values left_over is_spoiled max_depth kind_of url_on_literals utf8_lossy utf8_valid_len
watching_fronts_stand word =
    let up = stands (came_up listener word) refl (at_listener, tt) in
    let sent = stands (watching watcher word) refl (at_watcher, (refl, tt)) in
    let replied = stands (watch_answered watcher word) refl (at_watcher, (refl, tt)) in
    let shown = stands (watched watcher word) refl (at_watcher, (refl, tt)) in
    let item = stands (item_came watcher word) refl (at_watcher, (refl, tt)) in
    let greeted = stands (setup_sent secured_watcher word 1 22 password_line) refl (at_secured_watcher, (refl, tt)) in
    (up, (sent, (replied, (shown, (item, (greeted, tt))))))

-- where nothing waits nothing is told
none_waits : (b : Book) (l : ℕ) (n : Notice) → next_notice (b.link l) ≡ None → MayNotify b l n → ⊥
none_waits b l n none m = let x : None ≡ Some m.heard = sym none ∙ m.next in cc x

-- what is told is what waits
tells_what_waits : (b : Book) (l : ℕ) (n : Notice) (h : Heard) → next_notice (b.link l) ≡ Some h → MayNotify b l n → n ≡ h.what
tells_what_waits b l n h waits m = m.says ∙ ap (λ (x : Heard). x.what) (same_some m.heard h (sym m.next ∙ waits))

-- a message that is told twice
pub told_twice : (m : Msg) → NoneBeginsIn listener message_told (action.Message m)
unfolding digits settings_in is_lazy items values left_over max_depth kind_of url_on_literals utf8_lossy utf8_valid_len
told_twice m word events after h = none_waits (book_of (message_told listener word)) 0 (notice.Message m) refl (may_stand listener word events (message_told listener word) after (action.Message m) h)

-- one that came before the setup was answered
pub told_early : (m : Msg) → NoneBeginsIn secured_listener message_in_setup (action.Message m)
unfolding digits settings_in is_lazy items values left_over max_depth kind_of url_on_literals utf8_lossy utf8_valid_len
told_early m word events after h =
    none_waits (book_of (message_in_setup secured_listener word)) 0 (notice.Message m) refl (may_stand secured_listener word events (message_in_setup secured_listener word) after (action.Message m) h)

-- what waits on a link of messages, and where pushes are heard
abbrev greeting_heard : Heard
greeting_heard = record { after = 1; what = notice.Message greeting }

abbrev push_heard : Heard
push_heard = record { after = 1; what = notice.Push invalidation }

-- a message that is told before the outcome of the call that was confirmed before it
pub told_before_the_outcome : (m : Msg) → NoneBeginsIn listener both_came (action.Message m)
unfolding digits settings_in is_lazy items values left_over is_spoiled max_depth kind_of url_on_literals utf8_lossy utf8_valid_len
told_before_the_outcome m word events after h =
    let b = book_of (both_came listener word) in
    let may = may_stand listener word events (both_came listener word) after (action.Message m) h in
    let first : Try = record { link = 0; message = 0 } in
    may.answered 0 refl refl (record { try = first; last = refl; full = subst (λ (p : Heard). is_full_by (b.link 0) p.after 0 ≡ true) (same_some greeting_heard may.heard may.next) refl })

-- a turn that begins while a message waits
pub message_left_out : (number : ℕ) (c : Cause) → NoneBeginsIn listener message_came (action.Turn number c)
unfolding digits settings_in is_lazy items values left_over is_spoiled max_depth kind_of url_on_literals utf8_lossy utf8_valid_len
message_left_out number c word events after h = of_cause c (may_stand listener word events (message_came listener word) after (action.Turn number c) h)
  where
    of_cause : (c : Cause) → MayTurn (book_of (message_came listener word)) number c → ⊥
    of_cause (cause.Opening config draws) m = cc m.is_for
    of_cause (cause.Event e) m = cc (m.is_for.1.written.moved.begun.applied.shown.pushed 0 refl)

-- or what a server in monitor mode tells
pub item_left_out : (number : ℕ) (c : Cause) → NoneBeginsIn watcher item_came (action.Turn number c)
unfolding digits settings_in is_lazy items values left_over is_spoiled max_depth kind_of url_on_literals utf8_lossy utf8_valid_len
item_left_out number c word events after h = of_cause c (may_stand watcher word events (item_came watcher word) after (action.Turn number c) h)
  where
    of_cause : (c : Cause) → MayTurn (book_of (item_came watcher word)) number c → ⊥
    of_cause (cause.Opening config draws) m = cc m.is_for
    of_cause (cause.Event e) m = cc (m.is_for.1.written.moved.begun.applied.shown.pushed 0 refl)

-- a message that is told as a push
no_push : (b : Book) (info : PushInfo) (disconnects : Bool) → next_notice (b.link 0) ≡ Some greeting_heard → are_pushes_heard b ≡ false → MayPushBy disconnects b 0 info → ⊥
no_push b info true waits unheard m = not_both (are_pushes_heard b) unheard m.heard
no_push b info false waits unheard m = cc (tells_what_waits b 0 (notice.Push info) greeting_heard waits m)

pub told_as_a_push : (info : PushInfo) → NoneBeginsIn listener message_came (action.Push 0 info)
unfolding digits settings_in is_lazy items values left_over max_depth kind_of url_on_literals utf8_lossy utf8_valid_len
told_as_a_push info word events after h =
    no_push (book_of (message_came listener word)) info (is_disconnection info.kind) refl refl (may_stand listener word events (message_came listener word) after (action.Push 0 info) h)

-- or as what a server in monitor mode tells
apart_from_monitors : (value : Value) (m : Msg) → notice.Monitor value ≡ notice.Message m → ⊥
apart_from_monitors value m e = cc e

pub told_as_a_monitor : (value : Value) → NoneBeginsIn listener message_came (action.Monitor value)
unfolding digits settings_in is_lazy items values left_over max_depth kind_of url_on_literals utf8_lossy utf8_valid_len
told_as_a_monitor value word events after h =
    apart_from_monitors value greeting (tells_what_waits (book_of (message_came listener word)) 0 (notice.Monitor value) greeting_heard refl (may_stand listener word events (message_came listener word) after (action.Monitor value) h))

-- a push that is told as a message
apart_from_pushes : (m : Msg) (info : PushInfo) → notice.Message m ≡ notice.Push info → ⊥
apart_from_pushes m info e = cc e

pub push_told_as_a_message : (m : Msg) → NoneBeginsIn heard pushed_alone (action.Message m)
unfolding digits settings_in is_lazy items values left_over max_depth kind_of url_on_literals utf8_lossy utf8_valid_len
push_told_as_a_message m word events after h =
    apart_from_pushes m invalidation (tells_what_waits (book_of (pushed_alone heard word)) 0 (notice.Message m) push_heard refl (may_stand heard word events (pushed_alone heard word) after (action.Message m) h))

-- a message as the outcome of a call
pub message_as_an_outcome : (o : Outcome) → NoneBeginsIn listener message_while_called (action.Outcome 0 o)
unfolding digits settings_in is_lazy items values left_over max_depth kind_of url_on_literals utf8_lossy utf8_valid_len
message_as_an_outcome o word events after h = none_is_some o (answer listener word events (message_while_called listener word) after 0 o refl h).owes

-- a confirmation as a message
pub confirmation_as_a_message : (m : Msg) → NoneBeginsIn listener confirmation_came (action.Message m)
unfolding digits settings_in is_lazy items values left_over max_depth kind_of url_on_literals utf8_lossy utf8_valid_len
confirmation_as_a_message m word events after h =
    none_waits (book_of (confirmation_came listener word)) 0 (notice.Message m) refl (may_stand listener word events (confirmation_came listener word) after (action.Message m) h)

-- MONITOR's answer as what the server tells
pub answer_as_an_item : (value : Value) → NoneBeginsIn watcher watched (action.Monitor value)
unfolding digits settings_in is_lazy items values left_over max_depth kind_of url_on_literals utf8_lossy utf8_valid_len
answer_as_an_item value word events after h = none_waits (book_of (watched watcher word)) 0 (notice.Monitor value) refl (may_stand watcher word events (watched watcher word) after (action.Monitor value) h)

-- a turn that begins before the creation is shown
pub answered_and_not_created : (number : ℕ) (c : Cause) → NoneBeginsIn watcher watch_answered (action.Turn number c)
unfolding digits settings_in is_lazy items values left_over is_spoiled max_depth kind_of url_on_literals utf8_lossy utf8_valid_len
answered_and_not_created number c word events after h = of_cause c (may_stand watcher word events (watch_answered watcher word) after (action.Turn number c) h)
  where
    of_cause : (c : Cause) → MayTurn (book_of (watch_answered watcher word)) number c → ⊥
    of_cause (cause.Opening config draws) m = cc m.is_for
    of_cause (cause.Event e) m = m.is_for.1.written.moved.begun.applied.shown.created.shown 0 refl refl

-- MONITOR that starts twice
pub watched_twice : (k count len : ℕ) → NoneBeginsIn watcher watching (action.Start 0 k owner.Monitor count len)
unfolding digits settings_in is_lazy url_on_literals utf8_lossy utf8_valid_len
watched_twice k count len word events after h = let x : false ≡ true = (may_stand watcher word events (watching watcher word) after (action.Start 0 k owner.Monitor count len) h).due in cc x

-- or on a link of messages
pub watched_among_messages : (k count len : ℕ) → NoneBeginsIn listener came_up (action.Start 0 k owner.Monitor count len)
unfolding digits settings_in is_lazy url_on_literals utf8_lossy utf8_valid_len
watched_among_messages k count len word events after h =
    let x : false ≡ true = (may_stand listener word events (came_up listener word) after (action.Start 0 k owner.Monitor count len) h).due in cc x

-- or before the setup is answered
pub watched_in_setup : (k count len : ℕ) → NoneBeginsIn secured_watcher (λ config word. setup_sent config word 1 22 password_line) (action.Start 0 k owner.Monitor count len)
unfolding digits settings_in is_lazy url_on_literals utf8_lossy utf8_valid_len
watched_in_setup k count len word events after h =
    let front = setup_sent secured_watcher word 1 22 password_line in
    let x : false ≡ true = (may_stand secured_watcher word events front after (action.Start 0 k owner.Monitor count len) h).due in cc x

-- the creation before its answer
pub created_before_the_answer : NoneBeginsIn watcher watching (action.Created None)
unfolding digits settings_in is_lazy url_on_literals utf8_lossy utf8_valid_len
created_before_the_answer word events after h =
    let m = created_by_link (book_of (watching watcher word)) refl (may_stand watcher word events (watching watcher word) after (action.Created None) h) in
    none_is_set (book_of (watching watcher word)) m.l (bounded_behind blank_book (watching watcher word) refl blank_bounded) refl refl m.ready

-- a close by a message
pub closed_by_a_message : NoneBeginsIn listener message_told (action.Close 0)
unfolding digits settings_in is_lazy items values left_over is_spoiled max_depth kind_of url_on_literals utf8_lossy utf8_valid_len
closed_by_a_message word events after h = cc (may_stand listener word events (message_told listener word) after (action.Close 0) h).ends

-- and a close before one is told
pub closed_before_it_is_told : NoneBeginsIn listener message_and_more (action.Close 0)
unfolding digits settings_in is_lazy items values left_over is_spoiled max_depth kind_of url_on_literals utf8_lossy utf8_valid_len
closed_before_it_is_told word events after h = cc ((may_stand listener word events (message_and_more listener word) after (action.Close 0) h).pushed 0 refl)

-- a turn that begins behind a value that closes the link
pub strange_and_not_closed : (number : ℕ) (c : Cause) → NoneBeginsIn listener strange_came (action.Turn number c)
unfolding digits settings_in is_lazy items values left_over is_spoiled max_depth kind_of url_on_literals utf8_lossy utf8_valid_len
strange_and_not_closed number c word events after h = of_cause c (may_stand listener word events (strange_came listener word) after (action.Turn number c) h)
  where
    of_cause : (c : Cause) → MayTurn (book_of (strange_came listener word)) number c → ⊥
    of_cause (cause.Opening config draws) m = cc m.is_for
    of_cause (cause.Event e) m = cc (m.is_for.1.written.moved.begun.applied.shown.ended 0)

-- or behind a dropped stream
pub dropped_and_not_closed : (number : ℕ) (c : Cause) → NoneBeginsIn listener dropped_called (action.Turn number c)
unfolding digits settings_in is_lazy items values left_over is_spoiled max_depth kind_of url_on_literals utf8_lossy utf8_valid_len
dropped_and_not_closed number c word events after h = of_cause c (may_stand listener word events (dropped_called listener word) after (action.Turn number c) h)
  where
    of_cause : (c : Cause) → MayTurn (book_of (dropped_called listener word)) number c → ⊥
    of_cause (cause.Opening config draws) m = cc m.is_for
    of_cause (cause.Event e) m = cc (m.is_for.1.written.moved.begun.applied.shown.ended 0)

-- the fault itself, given to a call on a link of messages
pub fault_to_a_call : (kind : FaultKind) → NoneBeginsIn listener closed_called (action.Outcome 0 (outcome.Fault (error.Io kind)))
unfolding digits settings_in is_lazy url_on_literals utf8_lossy utf8_valid_len
fault_to_a_call kind word events after h =
    other_fault error.Closed (error.Io kind) (λ e. cc e) (answer listener word events (closed_called listener word) after 0 (outcome.Fault (error.Io kind)) refl h).owes

-- a dropped stream that closes a multiplexed connection
pub dropped_elsewhere : NoneBeginsIn unbounded dropped_alone (action.Close 0)
unfolding digits settings_in is_lazy url_on_literals utf8_lossy utf8_valid_len
dropped_elsewhere word events after h = cc (may_stand unbounded word events (dropped_alone unbounded word) after (action.Close 0) h).ends

-- the fronts of what has no form stand
pub formless_fronts_stand : (word : ℕ) → EachStands (formless_fronts word)
unfolding digits settings_in is_lazy is_bad_event items values left_over is_spoiled max_depth kind_of url_on_literals utf8_lossy utf8_valid_len
formless_fronts_stand word =
    let up = stands (came_up listener word) refl (at_listener, tt) in
    let other = stands (came_up unbounded word) refl (at_h (Some None), tt) in
    let shown = stands (watched watcher word) refl (at_watcher, (refl, tt)) in
    (up, (other, (shown, tt)))

-- a command on a link of messages
pub command_among_messages : NoneBeginsIn listener came_up (turn 2 (event.Submit (command 71)))
unfolding is_bad_event
command_among_messages word events after h = let x : true ≡ false = (may_stand listener word events (came_up listener word) after (turn 2 (event.Submit (command 71))) h).is_for.2 in cc x

-- or a call of sharded channels
pub sharded_call_among_messages : (names : List (List ℕ)) → NoneBeginsIn listener came_up (turn 2 (event.Submit (submission.Subscription SSubscribe names)))
unfolding is_bad_event
sharded_call_among_messages names word events after h =
    let x : true ≡ false = (may_stand listener word events (came_up listener word) after (turn 2 (event.Submit (submission.Subscription SSubscribe names))) h).is_for.2 in cc x

-- a ping on a multiplexed connection
pub ping_elsewhere : NoneBeginsIn unbounded came_up (turn 2 (event.Submit bare_ping))
unfolding is_bad_event
ping_elsewhere word events after h = let x : true ≡ false = (may_stand unbounded word events (came_up unbounded word) after (turn 2 (event.Submit bare_ping)) h).is_for.2 in cc x

-- anything in monitor mode
pub submitted_in_monitor_mode : (what : Submission) → NoneBeginsIn watcher watched (turn 3 (event.Submit what))
unfolding is_bad_event
submitted_in_monitor_mode what word events after h = let x : true ≡ false = (may_stand watcher word events (watched watcher word) after (turn 3 (event.Submit what)) h).is_for.2 in cc x
