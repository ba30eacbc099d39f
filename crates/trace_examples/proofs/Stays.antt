-- What stays as it is: traces that can be relied on, and actions that stand where they may not.
use Rattle.std.proofs.Common.{◌≡◌, ℕ, false, List, [], ◌∷◌, Some, None, codes, refl, ap}
use Rattle.std.specs.Fmt.{digits}
use Rattle.std.specs.Str.Lossy.{utf8_lossy, utf8_valid_len}
use Rattle.url.proofs.OnLiterals.{url_on_literals}
use Rattle.connection_info.specs.declared.protocol.ProtocolVersion.TheVariants.{RESP2}
use Rattle.manager_config.specs.declared.config.ConnectionManagerConfig.{ConnectionManagerConfig}
use Rattle.redis_error.specs.declared.fault_kind.FaultKind.TheVariants.{BrokenPipe, Reset}
use Rattle.redis_error.specs.declared.redis_error.RedisError.TheVariants as error
use Rattle.resp_value.specs.Kinds.{kind_of}
use Rattle.resp_read.specs.Grammar.{max_depth}
use Rattle.resp_read.specs.Values.{values, left_over, is_spoiled}
use Rattle.resp_read.specs.Items.{items}
use Rattle.sub_tracker.specs.Held.{held_after}
use Rattle.sub_tracker.specs.Pipeline.{resubscription}
use Rattle.driver_model.specs.Config.{address, manager_fault, manager_settings, no_manager_words}
use Rattle.driver_model.specs.declared.action.Action.TheVariants as action
use Rattle.driver_model.specs.declared.action.Owner.TheVariants as owner
use Rattle.driver_model.specs.declared.action.Purpose.TheVariants as purpose
use Rattle.driver_model.specs.declared.action.WaitKind.TheVariants as wait
use Rattle.driver_model.specs.declared.event.EventKind.TheVariants as event
use Rattle.driver_model.specs.declared.event.Submission.TheVariants as submission
use Rattle.driver_model.specs.declared.outcome.Outcome.TheVariants as outcome
use Rattle.driver_model.specs.Request.{packed_bytes}
use Rattle.legal_trace.specs.Managers.{settings_in, is_lazy}
use Rattle.legal_trace.specs.Events.{is_bad_event}
use Rattle.trace_examples.specs.Parts.{patient, turn, command, unawaited, unbounded, reply, one_reply, okay_line}
use Rattle.trace_examples.specs.Permits.{one_permit}
use Rattle.trace_examples.specs.Pushes.{get}
use Rattle.trace_examples.specs.Calls.{call_of_c}
use Rattle.trace_examples.specs.Managers.{trying_twice, resubscribing, connect, AreLegal}
use Rattle.trace_examples.specs.Stays.{counted_one_by_one, managed_one_by_one, told_in_place, left_behind, other_reply, unasked, hit, shut_early, set_behind, unwritable, ended_idle, shut_busy, shut_at_rest, shutting_at_rest, ended_again, ending_again, set_in_vain, staying_fronts}
use Rattle.trace_examples.specs.Claims.{IsTraceIn, IsTraceOf, NoneBeginsIn}
use Rattle.trace_examples.specs.Fronts.{EachStands}
use Rattle.trace_examples.proofs.Due.{IsPlace, legal, stands}
use Rattle.trace_examples.proofs.Server.{at_h, at_counted, at_limited}
use Rattle.trace_examples.proofs.Managers.{server_of, at_tried, at_repeated}
use Rattle.trace_examples.proofs.Stood.{may_stand}

-- how a manager comes back whose links any unwritten byte holds back, and that its opening asks for the server
abbrev one_by_one : ConnectionManagerConfig
one_by_one = manager_settings (record patient { buffer = Some 1; boundary = Some 0 }) (record no_manager_words { retries = Some 0 })

is_one_by_one : address managed_one_by_one ≡ Some (server_of RESP2)
unfolding url_on_literals utf8_lossy utf8_valid_len
is_one_by_one = refl

at_one_by_one : IsPlace managed_one_by_one (codes "h") 6379
at_one_by_one = record { sound = ap (λ at. manager_fault at one_by_one) is_one_by_one; info = server_of RESP2; configured = is_one_by_one; is = (refl, refl) }

-- a command that was told at its place keeps it until it starts, though its permit is free
pub told_keeps_its_place : IsTraceIn counted_one_by_one
    (event.Connected 0 ∷ event.Submit (command 71) ∷ event.Submit (unawaited 72) ∷ event.Submit (command 73) ∷ [])
    told_in_place
    (action.Wait (owner.Try 2 0) wait.Place ∷ [])
unfolding digits settings_in is_lazy is_bad_event url_on_literals utf8_lossy utf8_valid_len
told_keeps_its_place word = legal counted_one_by_one word _ _ refl refl (at_counted, (refl, (refl, tt)))

-- and has none on another link
pub free_on_the_next : IsTraceIn managed_one_by_one
    (event.Connected 0 ∷ event.Submit (command 71) ∷ event.Submit (unawaited 72) ∷ event.Ended 0 ∷ event.Connected 1 ∷ event.Submit (command 73) ∷ [])
    left_behind
    (turn 6 (event.Submit (command 73)) ∷ action.Round (owner.Try 2 0) (Some 1) ∷ action.Start 1 0 (owner.Try 2 0) 1 11 ∷ action.Write 1 (packed_bytes (command 73)) ∷ [])
unfolding digits is_bad_event items values left_over is_spoiled max_depth kind_of settings_in is_lazy held_after resubscription url_on_literals utf8_lossy utf8_valid_len
free_on_the_next word = legal managed_one_by_one word _ _ refl refl (at_one_by_one, (refl, (refl, (refl, (at_one_by_one, (refl, tt))))))

-- a reply that nobody awaits answers nobody that comes later
pub answers_nobody : IsTraceOf
    (event.Connected 0 ∷ event.Bytes 0 one_reply ∷ event.Submit (command 71) ∷ event.Bytes 0 other_reply ∷ [])
    unasked
    (turn 4 (event.Bytes 0 other_reply) ∷ action.Outcome 0 (reply 121) ∷ [])
unfolding digits settings_in is_lazy items values left_over is_spoiled max_depth is_bad_event url_on_literals utf8_lossy utf8_valid_len
answers_nobody word = legal unbounded word _ _ refl refl (at_h (Some None), (refl, (refl, tt)))

-- what is told of a link that has ended changes nothing
pub over_and_past : IsTraceOf
    (event.Connected 0 ∷ event.Submit (command 71) ∷ event.ReadFault 0 Reset ∷ event.Wrote 0 99 ∷ event.Bytes 0 okay_line ∷ event.Ended 0 ∷ [])
    hit
    (turn 4 (event.Wrote 0 99) ∷ turn 5 (event.Bytes 0 okay_line) ∷ turn 6 (event.Ended 0) ∷ [])
unfolding digits settings_in is_lazy items values left_over is_spoiled max_depth is_bad_event url_on_literals utf8_lossy utf8_valid_len
over_and_past word = legal unbounded word _ _ refl refl (at_h (Some None), (refl, (refl, tt)))

-- behind a shutdown the closed connection comes before all else
pub closed_before_all : IsTraceOf
    (event.Shutdown ∷ event.Submit (submission.Cmd []) ∷ event.Submit call_of_c ∷ [])
    shut_early
    (turn 2 (event.Submit (submission.Cmd [])) ∷ action.Outcome 0 (outcome.Fault error.Closed) ∷ turn 3 (event.Submit call_of_c) ∷ action.Outcome 1 (outcome.Fault error.Closed) ∷ [])
unfolding digits settings_in is_lazy is_bad_event url_on_literals utf8_lossy utf8_valid_len
closed_before_all word = legal unbounded word _ _ refl refl (at_h (Some None), (refl, (refl, tt)))

-- a time counts for whoever comes behind it
pub time_of_its_coming : IsTraceIn one_permit
    (event.Submit (command 71) ∷ event.Timeout (Some 7) ∷ event.Connected 0 ∷ [])
    set_behind
    (action.Took (owner.Try 0 0) 0 1 ∷ action.Timer 0 100 (purpose.Response (owner.Try 0 0)) ∷ action.Start 0 0 (owner.Try 0 0) 1 11 ∷ action.Write 0 (packed_bytes (command 71)) ∷ [])
unfolding digits settings_in is_lazy is_bad_event url_on_literals utf8_lossy utf8_valid_len
time_of_its_coming word = legal one_permit word _ _ refl refl (at_limited 1 (Some 100) refl, (tt, (refl, tt)))

-- a write that fails hits the oldest command
pub hit_by_a_write : IsTraceOf
    (event.Connected 0 ∷ event.Submit (command 71) ∷ event.WriteFault 0 BrokenPipe ∷ [])
    unwritable
    (action.Outcome 0 (outcome.Fault (error.Io BrokenPipe)) ∷ [])
unfolding digits settings_in is_lazy items values left_over is_spoiled max_depth is_bad_event url_on_literals utf8_lossy utf8_valid_len
hit_by_a_write word = legal unbounded word _ _ refl refl (at_h (Some None), (refl, (refl, tt)))

-- on RESP2 the end of a link is no cause, and the outcome of the next request is
pub unasked_back : IsTraceIn trying_twice
    (event.Connected 0 ∷ event.Ended 0 ∷ event.Submit (get 97) ∷ [])
    ended_idle
    (turn 3 (event.Submit (get 97)) ∷ action.Outcome 0 (outcome.Fault error.Closed) ∷ action.Generation 2 ∷ connect 1 ∷ [])
unfolding digits is_bad_event items values left_over is_spoiled max_depth kind_of settings_in is_lazy held_after resubscription url_on_literals utf8_lossy utf8_valid_len
unasked_back word = legal trying_twice word _ _ refl refl (at_tried false 1, (refl, (at_tried false 1, tt)))

-- behind a shutdown nothing begins
pub shut_back : IsTraceIn trying_twice (event.Connected 0 ∷ event.Submit (get 97) ∷ event.Shutdown ∷ []) shut_busy []
unfolding digits is_bad_event items values left_over is_spoiled max_depth kind_of settings_in is_lazy held_after resubscription url_on_literals utf8_lossy utf8_valid_len
shut_back word = legal trying_twice word _ _ refl refl (at_tried false 1, (refl, (refl, tt)))

-- and who waits behind a failed attempt is answered
pub resting_back : AreLegal trying_twice shutting_at_rest shut_at_rest (action.Outcome 0 (outcome.Fault error.Closed) ∷ [])
unfolding digits is_bad_event items values left_over is_spoiled max_depth kind_of settings_in is_lazy held_after resubscription url_on_literals utf8_lossy utf8_valid_len
resting_back word = legal trying_twice word _ _ refl refl (at_tried false 1, (tt, (refl, tt)))

-- a link that ends before what is subscribed again is answered is no cause
pub repeating_back : IsTraceIn resubscribing ending_again ended_again []
unfolding digits is_bad_event items values left_over is_spoiled max_depth kind_of settings_in is_lazy held_after resubscription url_on_literals utf8_lossy utf8_valid_len
repeating_back word =
    legal resubscribing word _ _ refl refl (at_repeated, (refl, (refl, (refl, (refl, (refl, (refl, (refl, (refl, (refl, (refl, (refl, (at_repeated, (refl, (refl, tt)))))))))))))))

-- a time that is set doesn't count for a manager
pub untimed_back : IsTraceIn trying_twice (event.Connected 0 ∷ event.Timeout (Some 7) ∷ event.Submit (get 97) ∷ []) set_in_vain []
unfolding digits is_bad_event items values left_over is_spoiled max_depth kind_of settings_in is_lazy held_after resubscription url_on_literals utf8_lossy utf8_valid_len
untimed_back word = legal trying_twice word _ _ refl refl (at_tried false 1, (refl, tt))

-- the first fronts stand
pub staying_fronts_stand : (word : ℕ) → EachStands (staying_fronts word)
unfolding digits is_bad_event items values left_over is_spoiled max_depth kind_of settings_in is_lazy held_after resubscription url_on_literals utf8_lossy utf8_valid_len
staying_fronts_stand word = (
  stands (told_in_place counted_one_by_one word) refl (at_counted, (refl, (refl, tt))),
  (stands (left_behind managed_one_by_one word) refl (at_one_by_one, (refl, (refl, (refl, (at_one_by_one, tt))))), tt),
)

-- a wait for room where one that was told has the only place
pub room_without_a_place : NoneBeginsIn counted_one_by_one told_in_place (action.Wait (owner.Try 2 0) wait.Room)
unfolding digits settings_in is_lazy url_on_literals utf8_lossy utf8_valid_len
room_without_a_place word events after h =
    let m = may_stand counted_one_by_one word events (told_in_place counted_one_by_one word) after (action.Wait (owner.Try 2 0) wait.Room) h in
    cc m.1.holds

-- a generation where a link ended on RESP2
pub begun_on_resp2 : (g : ℕ) → NoneBeginsIn trying_twice ended_idle (action.Generation g)
unfolding digits settings_in is_lazy url_on_literals utf8_lossy utf8_valid_len
begun_on_resp2 g word events after h = cc (may_stand trying_twice word events (ended_idle trying_twice word) after (action.Generation g) h).due

-- or behind a shutdown
pub begun_behind_a_shutdown : (g : ℕ) → NoneBeginsIn trying_twice shut_busy (action.Generation g)
unfolding digits settings_in is_lazy url_on_literals utf8_lossy utf8_valid_len
begun_behind_a_shutdown g word events after h = cc (may_stand trying_twice word events (shut_busy trying_twice word) after (action.Generation g) h).due

-- or behind a link that took no requests
pub begun_unserved : (g : ℕ) → NoneBeginsIn resubscribing ended_again (action.Generation g)
unfolding digits items values left_over is_spoiled max_depth kind_of settings_in is_lazy held_after resubscription url_on_literals utf8_lossy utf8_valid_len
begun_unserved g word events after h = cc (may_stand resubscribing word events (ended_again resubscribing word) after (action.Generation g) h).due
