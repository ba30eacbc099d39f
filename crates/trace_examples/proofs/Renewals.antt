-- New credentials: traces that can be relied on, and actions that stand where they may not.
use Rattle.std.proofs.Common.{◌≡◌, ◌≢◌, ℕ, false, [], ◌∷◌, Some, None, codes, pos, refl, sym, ap, ◌∙◌, inl, inr, length, arith}
use Rattle.std.specs.Fmt.{digits}
use Rattle.std.specs.Str.Lossy.{utf8_lossy, utf8_valid_len}
use Rattle.url.proofs.OnLiterals.{url_on_literals}
use Rattle.connection_info.specs.declared.address.ConnectionInfo.{ConnectionInfo}
use Rattle.connection_info.specs.declared.protocol.ProtocolVersion.TheVariants.{RESP2}
use Rattle.resp_value.specs.declared.value.Value.TheVariants.{Okay}
use Rattle.resp_read.specs.Grammar.{max_depth}
use Rattle.resp_read.specs.Values.{values, left_over, is_spoiled}
use Rattle.resp_read.specs.Items.{items}
use Rattle.driver_model.specs.Config.{address, fault_in}
use Rattle.driver_model.specs.Request.{packed_bytes}
use Rattle.driver_model.specs.declared.action.Action.TheVariants as action
use Rattle.driver_model.specs.declared.action.Cause.{Cause}
use Rattle.driver_model.specs.declared.action.Cause.TheVariants as cause
use Rattle.driver_model.specs.declared.action.Owner.TheVariants as owner
use Rattle.driver_model.specs.declared.action.Purpose.TheVariants as purpose
use Rattle.driver_model.specs.declared.action.WaitKind.TheVariants as wait
use Rattle.driver_model.specs.declared.event.EventKind.TheVariants as event
use Rattle.driver_model.specs.declared.outcome.Outcome.{Outcome}
use Rattle.driver_model.specs.declared.outcome.Outcome.TheVariants as outcome
use Rattle.legal_trace.specs.Managers.{settings_in, is_lazy}
use Rattle.legal_trace.specs.Events.{is_bad_event}
use Rattle.legal_trace.specs.Ledger.{Start, renewal_message}
use Rattle.legal_trace.proofs.Plain.{same_some}
use Rattle.legal_trace.specs.Legal.{MayTurn}
use Rattle.trace_examples.specs.Parts.{turn, command, unawaited, okay_line}
use Rattle.trace_examples.specs.Setups.{wrong_password}
use Rattle.trace_examples.specs.Creds.{sourced, no_credentials}
use Rattle.trace_examples.specs.Renewals.{sourced_in_time, sourced_at_a_time, sourced_one_by_one, of_letter, line_of, first_taken, needed_again, renewal_came, renewal_told, second_came, renewal_taken, renewal_refused, asked_behind, one_answered, answered_late, answered_in_time, came_between, second_gone, told_between, let_go, came_behind, place_is_taken, once_set_up, renewal_fronts}
use Rattle.trace_examples.specs.Claims.{IsTraceIn, NoneBeginsIn}
use Rattle.trace_examples.specs.Fronts.{EachStands}
use Rattle.trace_examples.proofs.Creds.{at_sourced}
use Rattle.trace_examples.proofs.Due.{IsPlace, legal, stands}
use Rattle.trace_examples.proofs.Stood.{book_of, may_stand, answer}

-- h and 6379
abbrev server : ConnectionInfo
server = record {
  host = codes "h";
  port = 6379;
  redis = record { db = pos 0; username = None; password = None; protocol = RESP2; skip_set_lib_name = false };
}

-- the opening asks for it, where what the driver says is to be answered in time
is_server_in_time : address sourced_in_time ≡ Some server
unfolding url_on_literals utf8_lossy utf8_valid_len
is_server_in_time = refl

at_in_time : IsPlace sourced_in_time (codes "h") 6379
at_in_time = record { sound = ap (λ a. fault_in a false None 50) is_server_in_time; info = server; configured = is_server_in_time; is = (refl, refl) }

-- and where unwritten bytes hold a link back
is_server_at_a_time : address sourced_at_a_time ≡ Some server
unfolding url_on_literals utf8_lossy utf8_valid_len
is_server_at_a_time = refl

at_a_time : IsPlace sourced_at_a_time (codes "h") 6379
at_a_time = record { sound = ap (λ a. fault_in a false None 1) is_server_at_a_time; info = server; configured = is_server_at_a_time; is = (refl, refl) }

-- and where its queue holds more than one message
is_server_one_by_one : address sourced_one_by_one ≡ Some server
unfolding url_on_literals utf8_lossy utf8_valid_len
is_server_one_by_one = refl

one_by_one : IsPlace sourced_one_by_one (codes "h") 6379
one_by_one = record { sound = ap (λ a. fault_in a false None 50) is_server_one_by_one; info = server; configured = is_server_one_by_one; is = (refl, refl) }

-- the first credentials are said in the setup, and later ones told by AUTH; the end of their source changes nothing
pub set_up_and_renewed : IsTraceIn sourced
    (once_set_up (event.Creds 1 (of_letter 113) ∷ event.CredsEnd 1 ∷ []))
    renewal_told
    (turn 6 (event.CredsEnd 1) ∷ [])
unfolding digits settings_in is_lazy is_bad_event items values left_over is_spoiled max_depth url_on_literals utf8_lossy utf8_valid_len
set_up_and_renewed word = legal sourced word _ _ refl refl (at_sourced, (refl, (refl, tt)))

-- those that come while others are unanswered wait until these are taken
pub one_after_another : IsTraceIn sourced
    (once_set_up (event.Creds 1 (of_letter 113) ∷ event.Creds 1 (of_letter 114) ∷ event.Wrote 0 28 ∷ event.Bytes 0 okay_line ∷ []))
    renewal_taken
    (action.Start 0 2 owner.Auth 1 28 ∷ action.Write 0 (line_of 114) ∷ [])
unfolding digits settings_in is_lazy is_bad_event items values left_over is_spoiled max_depth url_on_literals utf8_lossy utf8_valid_len
one_after_another word = legal sourced word _ _ refl refl (at_sourced, (refl, (refl, (refl, tt))))

-- an error of their source changes nothing, and where it ends those that came before are told still, and none that come later
pub none_after_the_end : IsTraceIn sourced
    (once_set_up
    (event.Creds 1 (of_letter 113) ∷ event.Creds 1 (of_letter 114) ∷ event.CredsError 1 no_credentials ∷ event.CredsEnd 1 ∷ event.Creds 1 (of_letter 115) ∷ event.Wrote 0 28 ∷ event.Bytes 0 okay_line ∷ event.Wrote 0 28 ∷
    event.Bytes 0 okay_line ∷ []))
    second_came
    (turn 7 (event.CredsError 1 no_credentials) ∷ turn 8 (event.CredsEnd 1) ∷ turn 9 (event.Creds 1 (of_letter 115)) ∷ turn 10 (event.Wrote 0 28) ∷ turn 11 (event.Bytes 0 okay_line) ∷
    action.Start 0 2 owner.Auth 1 28 ∷ action.Write 0 (line_of 114) ∷ turn 12 (event.Wrote 0 28) ∷ turn 13 (event.Bytes 0 okay_line) ∷ [])
unfolding digits settings_in is_lazy is_bad_event items values left_over is_spoiled max_depth url_on_literals utf8_lossy utf8_valid_len
none_after_the_end word = legal sourced word _ _ refl refl (at_sourced, (refl, (refl, (refl, tt))))

-- where these are refused they are told no more, and requests go on
pub none_after_a_refusal : IsTraceIn sourced
    (once_set_up
    (event.Creds 1 (of_letter 113) ∷ event.Creds 1 (of_letter 114) ∷ event.Wrote 0 28 ∷ event.Bytes 0 wrong_password ∷ event.Submit (command 71) ∷ event.Wrote 0 11 ∷ event.Bytes 0 okay_line ∷ []))
    asked_behind
    (action.Outcome 0 (outcome.One Okay) ∷ [])
unfolding digits settings_in is_lazy is_bad_event items values left_over is_spoiled max_depth url_on_literals utf8_lossy utf8_valid_len
none_after_a_refusal word = legal sourced word _ _ refl refl (at_sourced, (refl, (refl, (refl, (refl, tt)))))

-- a reply to AUTH answers nobody, and the next is the command's
pub replied_behind : IsTraceIn sourced
    (once_set_up (event.Creds 1 (of_letter 113) ∷ event.Submit (command 71) ∷ event.Wrote 0 28 ∷ event.Bytes 0 okay_line ∷ event.Wrote 0 11 ∷ event.Bytes 0 okay_line ∷ []))
    one_answered
    (turn 9 (event.Wrote 0 11) ∷ turn 10 (event.Bytes 0 okay_line) ∷ action.Outcome 0 (outcome.One Okay) ∷ [])
unfolding digits settings_in is_lazy is_bad_event items values left_over is_spoiled max_depth url_on_literals utf8_lossy utf8_valid_len
replied_behind word = legal sourced word _ _ refl refl (at_sourced, (refl, (refl, (refl, (refl, tt)))))

-- a reply that comes when the time for it is over ends them, too
pub none_after_its_time : IsTraceIn sourced_in_time
    (once_set_up (event.Creds 1 (of_letter 113) ∷ event.Wrote 0 28 ∷ event.Fired 0 ∷ event.Bytes 0 okay_line ∷ event.Creds 1 (of_letter 114) ∷ []))
    answered_late
    []
unfolding digits settings_in is_lazy is_bad_event items values left_over is_spoiled max_depth url_on_literals utf8_lossy utf8_valid_len
none_after_its_time word = legal sourced_in_time word _ _ refl refl (at_in_time, (refl, (refl, (refl, tt))))

-- and a timer that fires behind the reply changes nothing
pub fired_behind_the_reply : IsTraceIn sourced_in_time
    (once_set_up (event.Creds 1 (of_letter 113) ∷ event.Wrote 0 28 ∷ event.Bytes 0 okay_line ∷ event.Fired 0 ∷ event.Creds 1 (of_letter 114) ∷ []))
    answered_in_time
    (action.Timer 1 100 (purpose.Renewal 0 1) ∷ action.Start 0 2 owner.Auth 1 28 ∷ action.Write 0 (line_of 114) ∷ [])
unfolding digits settings_in is_lazy is_bad_event items values left_over is_spoiled max_depth url_on_literals utf8_lossy utf8_valid_len
fired_behind_the_reply word = legal sourced_in_time word _ _ refl refl (at_in_time, (refl, (refl, (refl, (refl, (refl, tt))))))

-- on a link that is held back they wait behind the requests that have their place, and before all others
pub in_the_order_of_places : IsTraceIn sourced_one_by_one
    (once_set_up
    (event.Submit (command 71) ∷ event.Submit (command 72) ∷ event.Creds 1 (of_letter 113) ∷ event.Submit (command 73) ∷ event.Wrote 0 11 ∷ event.Wrote 0 11 ∷ event.Wrote 0 28 ∷ []))
    second_gone
    (action.Start 0 3 owner.Auth 1 28 ∷ action.Write 0 (line_of 113) ∷
    turn 11 (event.Wrote 0 28) ∷ action.Start 0 4 (owner.Try 2 0) 1 11 ∷ action.Write 0 (packed_bytes (command 73)) ∷ [])
unfolding digits settings_in is_lazy is_bad_event items values left_over is_spoiled max_depth url_on_literals utf8_lossy utf8_valid_len
in_the_order_of_places word = legal sourced_one_by_one word _ _ refl refl (one_by_one, (refl, (refl, (refl, (refl, (refl, tt))))))

-- one that was told at its place has it, too
pub behind_one_that_was_told : IsTraceIn sourced_one_by_one
    (once_set_up (event.Submit (command 71) ∷ event.Submit (unawaited 72) ∷ event.Creds 1 (of_letter 113) ∷ event.Wrote 0 11 ∷ event.Wrote 0 11 ∷ []))
    told_between
    (action.Start 0 2 (owner.Try 1 0) 1 11 ∷ action.Write 0 (packed_bytes (unawaited 72)) ∷
    turn 9 (event.Wrote 0 11) ∷ action.Start 0 3 owner.Auth 1 28 ∷ action.Write 0 (line_of 113) ∷ [])
unfolding digits settings_in is_lazy is_bad_event items values left_over is_spoiled max_depth url_on_literals utf8_lossy utf8_valid_len
behind_one_that_was_told word = legal sourced_one_by_one word _ _ refl refl (one_by_one, (refl, (refl, (refl, (refl, (refl, tt))))))

-- also where its queue is full
pub beside_a_full_queue : IsTraceIn sourced_at_a_time
    (once_set_up (event.Submit (command 71) ∷ event.Submit (command 72) ∷ event.Creds 1 (of_letter 113) ∷ event.Submit (command 73) ∷ event.Wrote 0 11 ∷ event.Wrote 0 11 ∷ []))
    let_go
    (action.Start 0 2 (owner.Try 1 0) 1 11 ∷ action.Write 0 (packed_bytes (command 72)) ∷
    turn 10 (event.Wrote 0 11) ∷ action.Start 0 3 owner.Auth 1 28 ∷ action.Write 0 (line_of 113) ∷ action.Wait (owner.Try 2 0) wait.Room ∷ [])
unfolding digits settings_in is_lazy is_bad_event items values left_over is_spoiled max_depth url_on_literals utf8_lossy utf8_valid_len
beside_a_full_queue word = legal sourced_at_a_time word _ _ refl refl (at_a_time, (refl, (refl, (refl, (refl, tt)))))

-- and count in it as one
pub in_the_queue : IsTraceIn sourced_at_a_time
    (once_set_up (event.Submit (command 71) ∷ event.Creds 1 (of_letter 113) ∷ event.Submit (command 72) ∷ event.Wrote 0 11 ∷ []))
    place_is_taken
    (action.Start 0 2 owner.Auth 1 28 ∷ action.Write 0 (line_of 113) ∷ action.Wait (owner.Try 1 0) wait.Room ∷ [])
unfolding digits settings_in is_lazy is_bad_event items values left_over is_spoiled max_depth url_on_literals utf8_lossy utf8_valid_len
in_the_queue word = legal sourced_at_a_time word _ _ refl refl (at_a_time, (refl, (refl, (refl, tt))))

-- these fronts stand
pub renewal_fronts_stand : (word : ℕ) → EachStands (renewal_fronts word)
unfolding digits settings_in is_lazy is_bad_event items values left_over is_spoiled max_depth url_on_literals utf8_lossy utf8_valid_len
renewal_fronts_stand word =
    let taken = stands (first_taken sourced word) refl (at_sourced, (refl, tt)) in
    let again = stands (needed_again sourced word) refl (at_sourced, (refl, tt)) in
    let came = stands (renewal_came sourced word) refl (at_sourced, (refl, tt)) in
    let in_time = stands (renewal_came sourced_in_time word) refl (at_in_time, (refl, tt)) in
    let second = stands (second_came sourced word) refl (at_sourced, (refl, (refl, tt))) in
    let refused = stands (renewal_refused sourced word) refl (at_sourced, (refl, (refl, tt))) in
    let one = stands (one_answered sourced word) refl (at_sourced, (refl, (refl, (refl, tt)))) in
    let late = stands (answered_late sourced_in_time word) refl (at_in_time, (refl, (refl, (refl, tt)))) in
    let between = stands (came_between sourced_one_by_one word) refl (one_by_one, (refl, (refl, tt))) in
    let gone = stands (second_gone sourced_one_by_one word) refl (one_by_one, (refl, (refl, (refl, tt)))) in
    let counted = stands (came_behind sourced_at_a_time word) refl (at_a_time, (refl, (refl, tt))) in
    (taken, (again, (came, (in_time, (second, (refused, (one, (late, (between, (gone, (counted, tt)))))))))))

-- AUTH where no new credentials came
pub told_nothing : (k count len : ℕ) → NoneBeginsIn sourced needed_again (action.Start 0 k owner.Auth count len)
unfolding digits settings_in is_lazy items values left_over max_depth url_on_literals utf8_lossy utf8_valid_len
told_nothing k count len word events after h = cc (may_stand sourced word events (needed_again sourced word) after (action.Start 0 k owner.Auth count len) h).due

-- a second one before the first is answered
pub told_two_at_once : (k count len : ℕ) → NoneBeginsIn sourced second_came (action.Start 0 k owner.Auth count len)
unfolding digits settings_in is_lazy items values left_over max_depth url_on_literals utf8_lossy utf8_valid_len
told_two_at_once k count len word events after h = cc (may_stand sourced word events (second_came sourced word) after (action.Start 0 k owner.Auth count len) h).due

-- or after that was refused
pub told_after_a_refusal : (k count len : ℕ) → NoneBeginsIn sourced renewal_refused (action.Start 0 k owner.Auth count len)
unfolding digits settings_in is_lazy items values left_over max_depth url_on_literals utf8_lossy utf8_valid_len
told_after_a_refusal k count len word events after h = cc (may_stand sourced word events (renewal_refused sourced word) after (action.Start 0 k owner.Auth count len) h).due

-- or was answered when its time was over
pub told_after_its_time : (k count len : ℕ) → NoneBeginsIn sourced_in_time answered_late (action.Start 0 k owner.Auth count len)
unfolding digits settings_in is_lazy items values left_over max_depth url_on_literals utf8_lossy utf8_valid_len
told_after_its_time k count len word events after h = cc (may_stand sourced_in_time word events (answered_late sourced_in_time word) after (action.Start 0 k owner.Auth count len) h).due

-- or before its timer is asked for
pub told_untimed : (k count len : ℕ) → NoneBeginsIn sourced_in_time renewal_came (action.Start 0 k owner.Auth count len)
unfolding digits settings_in is_lazy items values left_over max_depth url_on_literals utf8_lossy utf8_valid_len
told_untimed k count len word events after h =
    let m = may_stand sourced_in_time word events (renewal_came sourced_in_time word) after (action.Start 0 k owner.Auth count len) h in
    let i = m.timed 0 (λ e. cc e) in omega (arith, i)

-- a message of other credentials, of more or of fewer bytes
pub told_otherwise : (k count len : ℕ) → len ≢ 28 → NoneBeginsIn sourced renewal_came (action.Start 0 k owner.Auth count len)
unfolding digits settings_in is_lazy items values left_over max_depth url_on_literals utf8_lossy utf8_valid_len
told_otherwise k count len other word events after h =
    let m = may_stand sourced word events (renewal_came sourced word) after (action.Start 0 k owner.Auth count len) h in
    other (m.long_as_its_bytes ∙ ap (λ (s : Start). length s.bytes) (ap renewal_message (same_some m.credentials (of_letter 113) (sym m.due))))

-- a timer for them where none is to be
pub timed_for_nothing : (t ms : ℕ) → NoneBeginsIn sourced renewal_came (action.Timer t ms (purpose.Renewal 0 0))
unfolding digits settings_in is_lazy items values left_over max_depth url_on_literals utf8_lossy utf8_valid_len
timed_for_nothing t ms word events after h = elim (may_stand sourced word events (renewal_came sourced word) after (action.Timer t ms (purpose.Renewal 0 0)) h) [
  | inl (inl m) ↦ cc m.is_for
  | inl (inr m) ↦ cc m.is_for
  | inr (inl m) ↦ cc m.is_for
  | inr (inr (inl m)) ↦ cc m.within
  | inr (inr (inr m)) ↦ cc m.within
]

-- they before a request that took its place before
pub told_out_of_place : (k count len : ℕ) → NoneBeginsIn sourced_one_by_one came_between (action.Start 0 k owner.Auth count len)
unfolding digits settings_in is_lazy items values left_over max_depth url_on_literals utf8_lossy utf8_valid_len
told_out_of_place k count len word events after h = cc (may_stand sourced_one_by_one word events (came_between sourced_one_by_one word) after (action.Start 0 k owner.Auth count len) h).free

-- a request that starts before them and took its place behind them
pub started_before_them : (l k round count len : ℕ) → NoneBeginsIn sourced_one_by_one second_gone (action.Start l k (owner.Try 2 round) count len)
unfolding digits settings_in is_lazy items values left_over max_depth url_on_literals utf8_lossy utf8_valid_len
started_before_them l k round count len word events after h =
    let m = may_stand sourced_one_by_one word events (second_gone sourced_one_by_one word) after (action.Start l k (owner.Try 2 round) count len) h in
    cc (m.1.begun.renewed 0 (of_letter 113) refl)

-- or waits in their place
pub waits_in_their_place : NoneBeginsIn sourced_at_a_time came_behind (action.Wait (owner.Try 1 0) wait.Room)
unfolding digits settings_in is_lazy items values left_over max_depth url_on_literals utf8_lossy utf8_valid_len
waits_in_their_place word events after h = cc (may_stand sourced_at_a_time word events (came_behind sourced_at_a_time word) after (action.Wait (owner.Try 1 0) wait.Room) h).1.holds

-- the reply to AUTH as an outcome
pub answered_by_it : (o : Outcome) → NoneBeginsIn sourced one_answered (action.Outcome 0 o)
unfolding digits settings_in is_lazy items values left_over max_depth url_on_literals utf8_lossy utf8_valid_len
answered_by_it o word events after h = cc (answer sourced word events (one_answered sourced word) after 0 o refl h).owes

-- a second source before the creation is shown
pub needed_too_soon : (c : ℕ) → NoneBeginsIn sourced first_taken (action.NeedCreds c 0)
unfolding digits settings_in is_lazy items values left_over max_depth url_on_literals utf8_lossy utf8_valid_len
needed_too_soon c word events after h = (may_stand sourced word events (first_taken sourced word) after (action.NeedCreds c 0) h).created 0 refl refl

-- a turn that begins while new credentials are to be told
pub left_untold : (number : ℕ) (c : Cause) → NoneBeginsIn sourced renewal_came (action.Turn number c)
unfolding digits settings_in is_lazy items values left_over max_depth url_on_literals utf8_lossy utf8_valid_len
left_untold number c word events after h = of_cause c (may_stand sourced word events (renewal_came sourced word) after (action.Turn number c) h)
  where
    of_cause : (c : Cause) → MayTurn (book_of (renewal_came sourced word)) number c → ⊥
    of_cause (cause.Opening config draws) m = cc m.is_for
    of_cause (cause.Event e) m = cc (m.is_for.1.written.moved.begun.renewed 0 (of_letter 113) refl)
