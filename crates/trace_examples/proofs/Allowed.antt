-- Traces that can be relied on.
use Rattle.std.proofs.Common.{drop, ℕ, [], ◌∷◌, ◌++◌, Some, None, refl}
use Rattle.std.specs.Prelude.{pos}
use Rattle.std.specs.Fmt.{digits}
use Rattle.redis_error.specs.declared.fault_kind.FaultKind.TheVariants.{Reset}
use Rattle.redis_error.specs.declared.redis_error.RedisError.TheVariants as error
use Rattle.resp_value.specs.declared.value.Value.TheVariants.{Okay, Nil}
use Rattle.resp_value.specs.Data.{array, int, items_of}
use Rattle.resp_read.specs.Grammar.{max_depth}
use Rattle.resp_read.specs.Values.{values, left_over, is_spoiled}
use Rattle.resp_read.specs.Items.{items}
use Rattle.std.specs.Str.Lossy.{utf8_lossy, utf8_valid_len}
use Rattle.url.proofs.OnLiterals.{url_on_literals}
use Rattle.driver_model.specs.declared.action.Action.TheVariants as action
use Rattle.driver_model.specs.declared.action.Owner.TheVariants as owner
use Rattle.driver_model.specs.declared.event.EventKind.TheVariants as event
use Rattle.driver_model.specs.declared.event.Submission.TheVariants as submission
use Rattle.driver_model.specs.declared.outcome.Outcome.TheVariants as outcome
use Rattle.driver_model.specs.Request.{packed_bytes}
use Rattle.legal_trace.specs.Managers.{settings_in, is_lazy}
use Rattle.legal_trace.specs.Events.{is_bad_event}
use Rattle.legal_trace.specs.Legal.{Legal}
use Rattle.trace_examples.specs.Parts.{history, unbounded, command, unawaited, two_together, one_atomic, one_skipped, one_reply, replies, a_reply_and_more, okay_line, refusals, multi_refused, exec_refused, executed, spoiled_behind, reply, an_error}
use Rattle.trace_examples.specs.Traces.{cut_off, cut_off_alone, shut_down, both_cut_off, refused, refused_at_once, committed, half_filled, told_first, left_alone, connected_again, heard_early, spoiled, shut_in_wait, too_late, said_nothing, both_in_wait, taken_in_part}
use Rattle.trace_examples.proofs.Due.{legal}
use Rattle.trace_examples.proofs.Server.{at_h}

-- a transaction is refused: its command wasn't queued
pub transaction_refused : (word : ℕ)
    → Legal unbounded word (history (event.Connected 0 ∷ event.Submit one_atomic ∷ event.Bytes 0 refusals ∷ [])) (refused unbounded word ++ action.Outcome 0 (outcome.Fault (error.Aborted ((0, an_error) ∷ []))) ∷ [])
unfolding digits settings_in is_lazy items values left_over is_spoiled max_depth is_bad_event url_on_literals utf8_lossy utf8_valid_len
transaction_refused word = legal unbounded word _ _ refl refl (at_h (Some None), (refl, (refl, tt)))

-- a command whose reply nobody awaits is answered at its place, and its item isn't given to the next message
pub told_at_its_place : (word : ℕ)
    → Legal unbounded word (history (event.Connected 0 ∷ event.Submit (unawaited 71) ∷ event.Submit (command 72) ∷ event.Bytes 0 replies ∷ [])) (told_first unbounded word ++ action.Outcome 1 (reply 121) ∷ [])
unfolding digits settings_in is_lazy items values left_over is_spoiled max_depth is_bad_event url_on_literals utf8_lossy utf8_valid_len
told_at_its_place word = legal unbounded word _ _ refl refl (at_h (Some None), (refl, (refl, (refl, tt))))

-- a single command is hit by the fault
pub command_hit : (word : ℕ)
    → Legal unbounded word (history (event.Connected 0 ∷ event.Submit (command 71) ∷ event.ReadFault 0 Reset ∷ [])) (cut_off unbounded word (command 71) 1 11 ++ action.Outcome 0 (outcome.Fault (error.Io Reset)) ∷ [])
unfolding digits settings_in is_lazy items values left_over is_spoiled max_depth is_bad_event url_on_literals utf8_lossy utf8_valid_len
command_hit word = legal unbounded word _ _ refl refl (at_h (Some None), (refl, (refl, tt)))

-- and a pipeline is cut off by it
pub pipeline_cut_off : (word : ℕ)
    → Legal unbounded word (history (event.Connected 0 ∷ event.Submit two_together ∷ event.ReadFault 0 Reset ∷ [])) (cut_off unbounded word two_together 2 22 ++ action.Outcome 0 (outcome.Fault error.Closed) ∷ [])
unfolding digits settings_in is_lazy items values left_over is_spoiled max_depth is_bad_event url_on_literals utf8_lossy utf8_valid_len
pipeline_cut_off word = legal unbounded word _ _ refl refl (at_h (Some None), (refl, (refl, tt)))

-- a message that isn't full is still open
pub waits_for_more : (word : ℕ)
    → Legal unbounded word (history (event.Connected 0 ∷ event.Submit one_skipped ∷ event.Bytes 0 one_reply ∷ [])) (half_filled unbounded word)
unfolding digits settings_in is_lazy items values left_over is_spoiled max_depth is_bad_event url_on_literals utf8_lossy utf8_valid_len
waits_for_more word = legal unbounded word _ _ refl refl (at_h (Some None), (refl, tt))

-- an error to MULTI is the verdict, once all replies came
pub verdict_of_multi : (word : ℕ)
    → Legal unbounded word (history (event.Connected 0 ∷ event.Submit one_atomic ∷ event.Bytes 0 multi_refused ∷ event.Bytes 0 exec_refused ∷ [])) (refused_at_once unbounded word ++ action.Outcome 0 (outcome.Fault (error.Server an_error)) ∷ [])
unfolding digits settings_in is_lazy items values left_over is_spoiled max_depth is_bad_event url_on_literals utf8_lossy utf8_valid_len
verdict_of_multi word = legal unbounded word _ _ refl refl (at_h (Some None), (refl, (refl, tt)))

-- the replies to MULTI and to the commands as they were queued are skipped
pub queued_replies_skipped : (word : ℕ)
    → Legal unbounded word (history (event.Connected 0 ∷ event.Submit one_atomic ∷ event.Bytes 0 executed ∷ [])) (committed unbounded word ++ action.Outcome 0 (outcome.Many (array (items_of (int (pos 1) ∷ [])) ∷ [])) ∷ [])
unfolding digits settings_in is_lazy items values left_over is_spoiled max_depth is_bad_event url_on_literals utf8_lossy utf8_valid_len
queued_replies_skipped word = legal unbounded word _ _ refl refl (at_h (Some None), (refl, (refl, tt)))

-- one fault hits the oldest command, and closes the connection for the next
pub side_by_side : (word : ℕ)
    → Legal unbounded word (history (event.Connected 0 ∷ event.Submit (command 71) ∷ event.Submit (command 72) ∷ event.ReadFault 0 Reset ∷ [])) (both_cut_off unbounded word ++ action.Outcome 0 (outcome.Fault (error.Io Reset)) ∷ action.Outcome 1 (outcome.Fault error.Closed) ∷ [])
unfolding digits settings_in is_lazy items values left_over is_spoiled max_depth is_bad_event url_on_literals utf8_lossy utf8_valid_len
side_by_side word = legal unbounded word _ _ refl refl (at_h (Some None), (refl, (refl, (refl, tt))))

-- a second connect changes nothing
pub connected_twice : (word : ℕ)
    → Legal unbounded word (history (event.Connected 0 ∷ event.Submit (command 71) ∷ event.Connected 0 ∷ event.Bytes 0 okay_line ∷ [])) (connected_again unbounded word ++ action.Outcome 0 (outcome.One Okay) ∷ [])
unfolding digits settings_in is_lazy items values left_over is_spoiled max_depth is_bad_event url_on_literals utf8_lossy utf8_valid_len
connected_twice word = legal unbounded word _ _ refl refl (at_h (Some None), (refl, (refl, tt)))

-- bytes before the connect change nothing, also where they begin a value
pub bytes_too_early : (word : ℕ)
    → Legal unbounded word (history (event.Bytes 0 a_reply_and_more ∷ event.Connected 0 ∷ event.Submit (command 71) ∷ event.Bytes 0 okay_line ∷ [])) (heard_early unbounded word ++ action.Outcome 0 (outcome.One Okay) ∷ [])
unfolding digits settings_in is_lazy items values left_over is_spoiled max_depth is_bad_event url_on_literals utf8_lossy utf8_valid_len
bytes_too_early word = legal unbounded word _ _ refl refl (at_h (Some None), (refl, (refl, tt)))

-- the shutdown closes a link whose connect isn't answered, and then the connection of a request that waits for it
pub shut_down_in_wait : (word : ℕ)
    → Legal unbounded word (history (event.Submit (command 71) ∷ event.Shutdown ∷ [])) (shut_in_wait unbounded word ++ action.Close 0 ∷ action.Outcome 0 (outcome.Fault error.Closed) ∷ [])
unfolding digits settings_in is_lazy items values left_over is_spoiled max_depth is_bad_event url_on_literals utf8_lossy utf8_valid_len
shut_down_in_wait word = legal unbounded word _ _ refl refl (at_h (Some None), (refl, tt))

-- after the shutdown the connection is closed
pub shut_down_before : (word : ℕ)
    → Legal unbounded word (history (event.Shutdown ∷ event.Submit (command 71) ∷ [])) (too_late unbounded word ++ action.Outcome 0 (outcome.Fault error.Closed) ∷ [])
unfolding digits settings_in is_lazy items values left_over is_spoiled max_depth is_bad_event url_on_literals utf8_lossy utf8_valid_len
shut_down_before word = legal unbounded word _ _ refl refl (at_h (Some None), (refl, tt))

-- the item of a message that was cancelled is given to nobody, and the next one to the next message
pub cancelled_item_dropped : (word : ℕ)
    → Legal unbounded word (history (event.Connected 0 ∷ event.Submit (command 71) ∷ event.Submit (command 72) ∷ event.Cancel 0 ∷ event.Bytes 0 replies ∷ [])) (left_alone unbounded word ++ action.Outcome 1 (reply 121) ∷ [])
unfolding digits settings_in is_lazy items values left_over is_spoiled max_depth is_bad_event url_on_literals utf8_lossy utf8_valid_len
cancelled_item_dropped word = legal unbounded word _ _ refl refl (at_h (Some None), (refl, (refl, tt)))

-- where the oldest message was cancelled, the fault is given to nobody
pub cancelled_fault_dropped : (word : ℕ)
    → Legal unbounded word (history (event.Connected 0 ∷ event.Submit (command 71) ∷ event.Submit (command 72) ∷ event.Cancel 0 ∷ event.ReadFault 0 Reset ∷ [])) (cut_off_alone unbounded word ++ action.Outcome 1 (outcome.Fault error.Closed) ∷ [])
unfolding digits settings_in is_lazy items values left_over is_spoiled max_depth is_bad_event url_on_literals utf8_lossy utf8_valid_len
cancelled_fault_dropped word = legal unbounded word _ _ refl refl (at_h (Some None), (refl, (refl, tt)))

-- the shutdown closes a link that is up, and then the connection of a command that was started
pub shut_down_started : (word : ℕ)
    → Legal unbounded word (history (event.Connected 0 ∷ event.Submit (command 71) ∷ event.Shutdown ∷ [])) (shut_down unbounded word ++ action.Close 0 ∷ action.Outcome 0 (outcome.Fault error.Closed) ∷ [])
unfolding digits settings_in is_lazy items values left_over is_spoiled max_depth is_bad_event url_on_literals utf8_lossy utf8_valid_len
shut_down_started word = legal unbounded word _ _ refl refl (at_h (Some None), (refl, (refl, tt)))

-- a reply is answered before the bytes behind it close the link, which hits the next command
pub answered_then_closed : (word : ℕ)
    → Legal unbounded word (history (event.Connected 0 ∷ event.Submit (command 71) ∷ event.Submit (command 72) ∷ event.Bytes 0 spoiled_behind ∷ [])) (spoiled unbounded word ++ action.Outcome 0 (reply 120) ∷ action.Close 0 ∷ action.Outcome 1 (outcome.Fault error.Parse) ∷ [])
unfolding digits settings_in is_lazy items values left_over is_spoiled max_depth is_bad_event url_on_literals utf8_lossy utf8_valid_len
answered_then_closed word = legal unbounded word _ _ refl refl (at_h (Some None), (refl, (refl, (refl, tt))))

-- a command whose reply nobody awaits is answered once the earlier one started, and then starts; the bytes of both are offered together
pub told_in_its_turn : (word : ℕ)
    → Legal unbounded word (history (event.Submit (command 71) ∷ event.Submit (unawaited 72) ∷ event.Connected 0 ∷ [])) (both_in_wait unbounded word (unawaited 72) ++ action.Start 0 0 (owner.Try 0 0) 1 11 ∷ action.Outcome 1 (outcome.One Nil) ∷ action.Start 0 1 (owner.Try 1 0) 1 11 ∷ action.Write 0 (packed_bytes (command 71) ++ packed_bytes (unawaited 72)) ∷ [])
unfolding digits settings_in is_lazy items values left_over is_spoiled max_depth is_bad_event url_on_literals utf8_lossy utf8_valid_len
told_in_its_turn word = legal unbounded word _ _ refl refl (at_h (Some None), (refl, (refl, tt)))

-- bytes that weren't taken are offered again
pub offered_again : (word : ℕ)
    → Legal unbounded word (history (event.Connected 0 ∷ event.Submit (command 71) ∷ event.Wrote 0 5 ∷ [])) (taken_in_part unbounded word ++ action.Write 0 (drop 5 (packed_bytes (command 71))) ∷ [])
unfolding digits settings_in is_lazy items values left_over is_spoiled max_depth is_bad_event url_on_literals utf8_lossy utf8_valid_len
offered_again word = legal unbounded word _ _ refl refl (at_h (Some None), (refl, (refl, tt)))

-- a command without words is empty, before the connect as well
pub empty_command : (word : ℕ)
    → Legal unbounded word (history (event.Submit (submission.Cmd []) ∷ [])) (said_nothing unbounded word ++ action.Outcome 0 (outcome.Fault error.EmptyCommand) ∷ [])
unfolding digits settings_in is_lazy items values left_over is_spoiled max_depth is_bad_event url_on_literals utf8_lossy utf8_valid_len
empty_command word = legal unbounded word _ _ refl refl (at_h (Some None), (refl, tt))
