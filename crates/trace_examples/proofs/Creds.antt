-- Credentials of a source: traces that can be relied on, and actions that stand where they may not.
use Rattle.std.proofs.Common.{◌≡◌, ◌≢◌, ℕ, false, [], ◌∷◌, Option, Some, None, codes, pos, refl, sym, ap}
use Rattle.std.specs.Fmt.{digits}
use Rattle.std.specs.Str.Lossy.{utf8_lossy, utf8_valid_len}
use Rattle.url.proofs.OnLiterals.{url_on_literals}
use Rattle.redis_error.specs.declared.redis_error.RedisError.{RedisError}
use Rattle.redis_error.specs.declared.redis_error.RedisError.TheVariants as error
use Rattle.connection_info.specs.declared.address.ConnectionInfo.{ConnectionInfo}
use Rattle.connection_info.specs.declared.protocol.ProtocolVersion.TheVariants.{RESP2}
use Rattle.resp_read.specs.Grammar.{max_depth}
use Rattle.resp_read.specs.Values.{values, left_over, is_spoiled}
use Rattle.resp_read.specs.Items.{items}
use Rattle.driver_model.specs.Config.{address, fault_in}
use Rattle.driver_model.specs.Request.{packed_bytes}
use Rattle.driver_model.specs.declared.action.Action.TheVariants as action
use Rattle.driver_model.specs.declared.action.Cause.{Cause}
use Rattle.driver_model.specs.declared.action.Cause.TheVariants as cause
use Rattle.driver_model.specs.declared.action.Owner.TheVariants as owner
use Rattle.driver_model.specs.declared.action.WaitKind.TheVariants as wait
use Rattle.driver_model.specs.declared.event.EventKind.TheVariants as event
use Rattle.driver_model.specs.declared.outcome.Outcome.TheVariants as outcome
use Rattle.legal_trace.specs.Managers.{settings_in, is_lazy}
use Rattle.legal_trace.specs.Events.{is_bad_event}
use Rattle.legal_trace.specs.Ledger.{failure_in}
use Rattle.legal_trace.specs.Book.{blank_book}
use Rattle.legal_trace.specs.Legal.{MayTurn, MayShowCreation}
use Rattle.legal_trace.proofs.Plain.{same_some}
use Rattle.trace_examples.specs.Parts.{turn, command, okay_line, spoiled_behind}
use Rattle.trace_examples.specs.Setups.{secured, unsaid}
use Rattle.trace_examples.specs.Traces.{opening}
use Rattle.trace_examples.specs.Creds.{sourced, user_and_password, no_credentials, source_error, needed, came_meanwhile, credentials_taken, started_behind, deserted_first, closed_by_denial, spoiled_meanwhile, source_fronts}
use Rattle.trace_examples.specs.Claims.{IsTraceIn, NoneBegins, NoneBeginsIn}
use Rattle.trace_examples.specs.Fronts.{EachStands}
use Rattle.trace_examples.proofs.Bounded.{blank_bounded, bounded_behind}
use Rattle.trace_examples.proofs.Due.{IsPlace, legal, stands}
use Rattle.trace_examples.proofs.Settled.{first_and_idle, failed_idle}
use Rattle.trace_examples.proofs.Stood.{book_of, may_stand, none_is_set, created_by_link}

-- h and 6379
abbrev server : ConnectionInfo
server = record {
  host = codes "h";
  port = 6379;
  redis = record { db = pos 0; username = None; password = None; protocol = RESP2; skip_set_lib_name = false };
}

-- the opening asks for it
is_server : address sourced ≡ Some server
unfolding url_on_literals utf8_lossy utf8_valid_len
is_server = refl

pub at_sourced : IsPlace sourced (codes "h") 6379
at_sourced = record { sound = ap (λ a. fault_in a false None 50) is_server; info = server; configured = is_server; is = (refl, refl) }

-- the first credentials are said in the setup; a command waits for them, and then for the setup, and starts behind the
-- creation
pub said_in_the_setup : IsTraceIn sourced
    (event.Connected 0 ∷ event.Submit (command 71) ∷ event.Creds 0 user_and_password ∷ event.Wrote 0 28 ∷ event.Bytes 0 okay_line ∷ [])
    credentials_taken
    (action.Start 0 1 (owner.Try 0 0) 1 11 ∷ action.Write 0 (packed_bytes (command 71)) ∷ [])
unfolding digits settings_in is_lazy is_bad_event items values left_over is_spoiled max_depth url_on_literals utf8_lossy utf8_valid_len
said_in_the_setup word = legal sourced word _ _ refl refl (at_sourced, (refl, (refl, tt)))

-- once its source has given them, what it says more changes nothing
pub asked_no_more : IsTraceIn sourced
    (event.Connected 0 ∷ event.Submit (command 71) ∷ event.Creds 0 user_and_password ∷ event.Wrote 0 28 ∷ event.Bytes 0 okay_line ∷ event.Creds 0 user_and_password ∷ event.CredsError 0 no_credentials ∷ event.CredsEnd 0 ∷ [])
    started_behind
    (turn 6 (event.Creds 0 user_and_password) ∷ turn 7 (event.CredsError 0 no_credentials) ∷ turn 8 (event.CredsEnd 0) ∷ [])
unfolding digits settings_in is_lazy is_bad_event items values left_over is_spoiled max_depth url_on_literals utf8_lossy utf8_valid_len
asked_no_more word = legal sourced word _ _ refl refl (at_sourced, (refl, (refl, tt)))

-- where the source ends the link is closed, and the opening failed without a text
pub ended_first : IsTraceIn sourced
    (event.Connected 0 ∷ event.CredsEnd 0 ∷ [])
    deserted_first
    (action.Close 0 ∷ action.Created (Some (error.AuthFailed [])) ∷ [])
unfolding digits settings_in is_lazy is_bad_event url_on_literals utf8_lossy utf8_valid_len
ended_first word = legal sourced word _ _ refl refl (at_sourced, (refl, tt))

-- and where it could give none, by what it says, which whoever waits gets, too
pub failed_first : IsTraceIn sourced
    (event.Connected 0 ∷ event.Submit (command 71) ∷ event.CredsError 0 no_credentials ∷ [])
    closed_by_denial
    (action.Created (Some source_error) ∷ action.Outcome 0 (outcome.Fault source_error) ∷ [])
unfolding digits settings_in is_lazy is_bad_event url_on_literals utf8_lossy utf8_valid_len
failed_first word = legal sourced word _ _ refl refl (at_sourced, (refl, (refl, tt)))

-- a reply that comes meanwhile answers nothing, and bytes that begin no value fail the opening by the closed connection
pub spoiled_first : IsTraceIn sourced
    (event.Connected 0 ∷ event.Bytes 0 okay_line ∷ event.Bytes 0 spoiled_behind ∷ [])
    spoiled_meanwhile
    (action.Close 0 ∷ action.Created (Some error.Closed) ∷ [])
unfolding digits settings_in is_lazy is_bad_event items values left_over is_spoiled max_depth url_on_literals utf8_lossy utf8_valid_len
spoiled_first word = legal sourced word _ _ refl refl (at_sourced, (refl, tt))

-- these fronts stand
pub source_fronts_stand : (word : ℕ) → EachStands (source_fronts word)
unfolding digits settings_in is_lazy is_bad_event items values left_over is_spoiled max_depth url_on_literals utf8_lossy utf8_valid_len
source_fronts_stand word =
    let asked = stands (opening sourced word) refl (at_sourced, tt) in
    let up = stands (unsaid sourced word) refl (at_sourced, tt) in
    let need = stands (needed sourced word) refl (at_sourced, tt) in
    let came = stands (came_meanwhile sourced word) refl (at_sourced, tt) in
    let deserted = stands (deserted_first sourced word) refl (at_sourced, tt) in
    let closed = stands (closed_by_denial sourced word) refl (at_sourced, tt) in
    let taken = stands (credentials_taken sourced word) refl (at_sourced, (refl, tt)) in
    (asked, (up, (need, (came, (deserted, (closed, (taken, tt)))))))

-- a setup that starts before credentials came
pub said_without : (k count len : ℕ) → NoneBeginsIn sourced needed (action.Start 0 k owner.Setup count len)
unfolding digits settings_in is_lazy url_on_literals utf8_lossy utf8_valid_len
said_without k count len word events after h =
    let m = may_stand sourced word events (needed sourced word) after (action.Start 0 k owner.Setup count len) h in
    cc m.due

-- a creation
pub created_without : NoneBeginsIn sourced needed (action.Created None)
unfolding digits settings_in is_lazy url_on_literals utf8_lossy utf8_valid_len
created_without word events after h =
    let m = created_by_link (book_of (needed sourced word)) refl (may_stand sourced word events (needed sourced word) after (action.Created None) h) in
    none_is_set (book_of (needed sourced word)) m.l (bounded_behind blank_book (needed sourced word) refl blank_bounded) refl refl m.ready

-- a source that is asked for twice
pub needed_twice : (c : ℕ) → NoneBeginsIn sourced needed (action.NeedCreds c 0)
unfolding digits settings_in is_lazy url_on_literals utf8_lossy utf8_valid_len
needed_twice c word events after h = cc (may_stand sourced word events (needed sourced word) after (action.NeedCreds c 0) h).due

-- or a third time, when they were taken
pub needed_when_taken : (c : ℕ) → NoneBeginsIn sourced credentials_taken (action.NeedCreds c 0)
unfolding digits settings_in is_lazy items values left_over max_depth url_on_literals utf8_lossy utf8_valid_len
needed_when_taken c word events after h = cc (may_stand sourced word events (credentials_taken sourced word) after (action.NeedCreds c 0) h).due

-- or before the connect is answered
pub needed_too_soon : (c : ℕ) → NoneBegins opening (action.NeedCreds c 0)
needed_too_soon c config word events after h = cc (may_stand config word events (opening config word) after (action.NeedCreds c 0) h).due

-- or where none is wanted
pub needed_unwanted : (c : ℕ) → NoneBeginsIn secured unsaid (action.NeedCreds c 0)
needed_unwanted c word events after h = cc (may_stand secured word events (unsaid secured word) after (action.NeedCreds c 0) h).due

-- a wait that is shown as one for the setup while credentials are waited for
pub setup_meanwhile : NoneBeginsIn sourced came_meanwhile (action.Wait (owner.Try 0 0) wait.Setup)
unfolding digits settings_in is_lazy url_on_literals utf8_lossy utf8_valid_len
setup_meanwhile word events after h = cc (may_stand sourced word events (came_meanwhile sourced word) after (action.Wait (owner.Try 0 0) wait.Setup) h).1.holds

-- a creation that is shown before the close, where the source ended
pub failed_before_the_close : (e : Option RedisError) → NoneBeginsIn sourced deserted_first (action.Created e)
unfolding digits settings_in is_lazy url_on_literals utf8_lossy utf8_valid_len
failed_before_the_close e word events after h = of_error e (may_stand sourced word events (deserted_first sourced word) after (action.Created e) h)
  where
    of_error : (e : Option RedisError) → MayShowCreation (book_of (deserted_first sourced word)) e → ⊥
    of_error None m =
        let may = created_by_link (book_of (deserted_first sourced word)) refl m in
        none_is_set (book_of (deserted_first sourced word)) may.l (bounded_behind blank_book (deserted_first sourced word) refl blank_bounded) refl refl may.ready
    of_error (Some x) m = cc (m.ended 0)

-- an opening that fails with another error than what its source says
pub another_denial : (e : RedisError) → e ≢ source_error → NoneBeginsIn sourced closed_by_denial (action.Created (Some e))
unfolding digits settings_in is_lazy url_on_literals utf8_lossy utf8_valid_len
another_denial e other word events after h =
    let b = book_of (closed_by_denial sourced word) in
    let m = may_stand sourced word events (closed_by_denial sourced word) after (action.Created (Some e)) h in
    first_and_idle b (λ l. failure_in (b.link l).end ≡ Some e → ⊥) m.l (bounded_behind blank_book (closed_by_denial sourced word) refl blank_bounded) refl
    (λ fails. other (sym (same_some source_error e fails)))
    (λ idle fails. failed_idle (b.link m.l) e idle fails) m.fails

-- credentials of a source that was never asked for
pub given_unasked : NoneBeginsIn sourced needed (turn 2 (event.Creds 1 user_and_password))
unfolding is_bad_event digits settings_in is_lazy url_on_literals utf8_lossy utf8_valid_len
given_unasked word events after h =
    let m = may_stand sourced word events (needed sourced word) after (turn 2 (event.Creds 1 user_and_password)) h in
    cc m.is_for.2

-- a turn that begins while no source was asked for
pub source_left_out : (number : ℕ) (c : Cause) → NoneBeginsIn sourced unsaid (action.Turn number c)
unfolding digits settings_in is_lazy url_on_literals utf8_lossy utf8_valid_len
source_left_out number c word events after h = of_cause c (may_stand sourced word events (unsaid sourced word) after (action.Turn number c) h)
  where
    of_cause : (c : Cause) → MayTurn (book_of (unsaid sourced word)) number c → ⊥
    of_cause (cause.Opening config draws) m = cc m.is_for
    of_cause (cause.Event e) m = cc (m.is_for.1.written.moved.begun.applied.shown.sourced 0)
