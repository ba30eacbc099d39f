-- Subscription calls: traces that can be relied on, and an answer that comes too early.
use Rattle.std.proofs.Common.{◌≡◌, false, [], ◌∷◌, Some, None, codes, pos, refl}
use Rattle.std.specs.Fmt.{digits}
use Rattle.std.specs.Str.Lossy.{utf8_lossy, utf8_valid_len}
use Rattle.url.proofs.OnLiterals.{url_on_literals}
use Rattle.redis_error.specs.declared.redis_error.RedisError.TheVariants as error
use Rattle.resp_value.specs.Kinds.{kind_of}
use Rattle.resp_read.specs.Grammar.{max_depth}
use Rattle.resp_read.specs.Values.{values, left_over, is_spoiled}
use Rattle.resp_read.specs.Items.{items}
use Rattle.connection_info.specs.declared.address.ConnectionInfo.{ConnectionInfo}
use Rattle.connection_info.specs.declared.protocol.ProtocolVersion.TheVariants.{RESP3}
use Rattle.driver_model.specs.Config.{address}
use Rattle.driver_model.specs.declared.action.Action.TheVariants as action
use Rattle.driver_model.specs.declared.event.EventKind.TheVariants as event
use Rattle.driver_model.specs.declared.outcome.Outcome.TheVariants as outcome
use Rattle.legal_trace.specs.Managers.{settings_in, is_lazy}
use Rattle.legal_trace.specs.Events.{is_bad_event}
use Rattle.trace_examples.specs.Parts.{turn, unbounded}
use Rattle.trace_examples.specs.Traces.{came_up}
use Rattle.trace_examples.specs.Calls.{of_third, call_of_c, hello_well, confirmation, denied_line, denial, called}
use Rattle.trace_examples.specs.Claims.{IsTraceOf, IsTraceIn, NoneBeginsIn}
use Rattle.trace_examples.proofs.Due.{IsPlace, legal}
use Rattle.trace_examples.proofs.Server.{at_h}
use Rattle.trace_examples.proofs.Setups.{at_url}
use Rattle.trace_examples.proofs.Stood.{answer}

-- the server that speaks the third protocol
abbrev pub third_server : ConnectionInfo
third_server = record {
  host = codes "h";
  port = 6379;
  redis = record { db = pos 0; username = None; password = None; protocol = RESP3; skip_set_lib_name = false };
}

is_third : address of_third ≡ Some third_server
unfolding url_on_literals utf8_lossy utf8_valid_len
is_third = refl

pub at_third : IsPlace of_third (codes "h") 6379
at_third = at_url (codes "redis://h:6379/?protocol=3") (Some None) (Some false) third_server is_third

-- the call is confirmed
pub call_confirmed : IsTraceIn of_third
    (event.Connected 0 ∷ event.Bytes 0 hello_well ∷ event.Submit call_of_c ∷ event.Bytes 0 confirmation ∷ [])
    called
    (turn 4 (event.Bytes 0 confirmation) ∷ action.Outcome 0 outcome.Done ∷ [])
unfolding digits settings_in is_lazy is_bad_event items values left_over is_spoiled max_depth kind_of url_on_literals utf8_lossy utf8_valid_len
call_confirmed word = legal of_third word _ _ refl refl (at_third, (refl, (refl, tt)))

-- or the server denies it
pub call_denied : IsTraceIn of_third
    (event.Connected 0 ∷ event.Bytes 0 hello_well ∷ event.Submit call_of_c ∷ event.Bytes 0 denied_line ∷ [])
    called
    (turn 4 (event.Bytes 0 denied_line) ∷ action.Outcome 0 (outcome.Fault (error.Server denial)) ∷ [])
unfolding digits settings_in is_lazy is_bad_event items values left_over is_spoiled max_depth kind_of url_on_literals utf8_lossy utf8_valid_len
call_denied word = legal of_third word _ _ refl refl (at_third, (refl, (refl, tt)))

-- on a link that doesn't speak it the call is refused at once
pub call_refused : IsTraceOf
    (event.Connected 0 ∷ event.Submit call_of_c ∷ [])
    came_up
    (turn 2 (event.Submit call_of_c) ∷ action.Outcome 0 (outcome.Fault error.Resp3Required) ∷ [])
unfolding digits settings_in is_lazy is_bad_event url_on_literals utf8_lossy utf8_valid_len
call_refused word = legal unbounded word _ _ refl refl (at_h (Some None), (refl, tt))

-- it is not done before it is confirmed
pub done_early : NoneBeginsIn of_third called (action.Outcome 0 outcome.Done)
unfolding digits settings_in is_lazy items values left_over is_spoiled max_depth kind_of url_on_literals utf8_lossy utf8_valid_len
done_early word events after h = cc (answer of_third word events (called of_third word) after 0 outcome.Done refl h).owes
