-- Setups of links: traces that can be relied on, and actions that stand where they may not.
use Rattle.std.proofs.Common.{◌≡◌, ℕ, Bool, false, List, [], ◌∷◌, Option, Some, None, codes, pos, refl, ap}
use Rattle.std.specs.Fmt.{digits}
use Rattle.std.specs.Str.Lossy.{utf8_lossy, utf8_valid_len}
use Rattle.url.proofs.OnLiterals.{url_on_literals}
use Rattle.redis_error.specs.declared.fault_kind.FaultKind.TheVariants.{Reset, TimedOut}
use Rattle.redis_error.specs.declared.redis_error.RedisError.TheVariants as error
use Rattle.resp_read.specs.Grammar.{max_depth}
use Rattle.resp_read.specs.Values.{values, left_over, is_spoiled}
use Rattle.resp_read.specs.Items.{items}
use Rattle.connection_info.specs.declared.address.ConnectionInfo.{ConnectionInfo}
use Rattle.connection_info.specs.declared.protocol.ProtocolVersion.TheVariants.{RESP2, RESP3}
use Rattle.driver_model.specs.Config.{address, fault_in}
use Rattle.driver_model.specs.declared.action.Action.TheVariants as action
use Rattle.driver_model.specs.declared.action.Owner.TheVariants as owner
use Rattle.driver_model.specs.declared.action.Purpose.TheVariants as purpose
use Rattle.driver_model.specs.declared.action.WaitKind.TheVariants as wait
use Rattle.driver_model.specs.declared.event.EventKind.TheVariants as event
use Rattle.driver_model.specs.declared.outcome.Outcome.TheVariants as outcome
use Rattle.driver_model.specs.Request.{packed_bytes}
use Rattle.legal_trace.specs.Managers.{settings_in, is_lazy}
use Rattle.legal_trace.specs.Events.{is_bad_event}
use Rattle.trace_examples.specs.Parts.{turn, command, reply, one_reply, okay_line}
use Rattle.trace_examples.specs.Setups.{told_at, secured, secured_in_time, of_a_user, of_a_library, of_all, by_default, of_a_held_user, said_later, named_in_time, wrong_password, refusal, other_arguments, unknown_command, all_well, set_up, refusal_told, said_again, library_said, all_said, cut_off_during, shut_during, overdue_during, waited_for_both}
use Rattle.trace_examples.specs.Claims.{IsTraceIn}
use Rattle.trace_examples.proofs.Due.{IsPlace, legal}

-- the place of a server whose URL is this
pub at_url : (url : List ℕ) (connect : Option (Option ℕ)) (lib : Option Bool) (info : ConnectionInfo) → address (told_at url connect lib) ≡ Some info → IsPlace (told_at url connect lib) info.host info.port
at_url url connect lib info e = record { sound = ap (λ a. fault_in a false None 50) e; info = info; configured = e; is = (refl, refl) }

-- the server with the password
abbrev secured_server : ConnectionInfo
secured_server = record {
  host = codes "h";
  port = 6379;
  redis = record { db = pos 0; username = None; password = Some (codes "pw"); protocol = RESP2; skip_set_lib_name = false };
}

is_secured : (connect : Option (Option ℕ)) → address (told_at (codes "redis://:pw@h:6379") connect (Some false)) ≡ Some secured_server
unfolding url_on_literals utf8_lossy utf8_valid_len
is_secured connect = refl

pub at_secured : (connect : Option (Option ℕ)) → IsPlace (told_at (codes "redis://:pw@h:6379") connect (Some false)) (codes "h") 6379
at_secured connect = at_url (codes "redis://:pw@h:6379") connect (Some false) secured_server (is_secured connect)

-- the one with a user
abbrev users_server : ConnectionInfo
users_server = record {
  host = codes "h";
  port = 6379;
  redis = record { db = pos 0; username = Some (codes "u"); password = Some (codes "pw"); protocol = RESP2; skip_set_lib_name = false };
}

is_users : address of_a_user ≡ Some users_server
unfolding url_on_literals utf8_lossy utf8_valid_len
is_users = refl

pub at_users : IsPlace of_a_user (codes "h") 6379
at_users = at_url (codes "redis://u:pw@h:6379") (Some None) (Some false) users_server is_users

-- the one to which the library is named
abbrev open_server : ConnectionInfo
open_server = record {
  host = codes "h";
  port = 6379;
  redis = record { db = pos 0; username = None; password = None; protocol = RESP2; skip_set_lib_name = false };
}

is_open_one : address of_a_library ≡ Some open_server
unfolding url_on_literals utf8_lossy utf8_valid_len
is_open_one = refl

at_open : IsPlace of_a_library (codes "h") 6379
at_open = at_url (codes "redis://h:6379") (Some None) None open_server is_open_one

-- also where nothing is said of times
is_default : address by_default ≡ Some open_server
unfolding url_on_literals utf8_lossy utf8_valid_len
is_default = refl

at_default : IsPlace by_default (codes "h") 6379
at_default = record { sound = ap (λ a. fault_in a false None 50) is_default; info = open_server; configured = is_default; is = (refl, refl) }

-- and the one with a user, where nothing starts while bytes are unwritten
is_held_users : address of_a_held_user ≡ Some users_server
unfolding url_on_literals utf8_lossy utf8_valid_len
is_held_users = refl

pub at_held_users : IsPlace of_a_held_user (codes "h") 6379
at_held_users = record { sound = ap (λ a. fault_in a false None 50) is_held_users; info = users_server; configured = is_held_users; is = (refl, refl) }

-- and the one to which all is said
abbrev server_of_all : ConnectionInfo
server_of_all = record {
  host = codes "h";
  port = 6379;
  redis = record { db = pos 2; username = None; password = Some (codes "p"); protocol = RESP3; skip_set_lib_name = false };
}

is_of_all : address of_all ≡ Some server_of_all
unfolding url_on_literals utf8_lossy utf8_valid_len
is_of_all = refl

at_all : IsPlace of_all (codes "h") 6379
at_all = at_url (codes "redis://:p@h:6379/2?protocol=3") (Some None) None server_of_all is_of_all

-- a command waits while the password is judged, and starts once the creation is shown
pub starts_once_set_up : IsTraceIn secured
    (event.Connected 0 ∷ event.Submit (command 71) ∷ event.Wrote 0 22 ∷ event.Bytes 0 okay_line ∷ event.Bytes 0 one_reply ∷ [])
    set_up
    (action.Start 0 1 (owner.Try 0 0) 1 11 ∷ action.Write 0 (packed_bytes (command 71)) ∷ turn 5 (event.Bytes 0 one_reply) ∷ action.Outcome 0 (reply 120) ∷ [])
unfolding digits settings_in is_lazy is_bad_event items values left_over is_spoiled max_depth url_on_literals utf8_lossy utf8_valid_len
starts_once_set_up word = legal secured word _ _ refl refl (at_secured (Some None), (refl, (refl, (refl, tt))))

-- a command that waited for the connect waits for the setup behind it
pub the_connect_and_then_the_setup : IsTraceIn secured
    (event.Submit (command 71) ∷ event.Connected 0 ∷ [])
    waited_for_both
    (action.Wait (owner.Try 0 0) wait.Setup ∷ [])
unfolding digits settings_in is_lazy is_bad_event url_on_literals utf8_lossy utf8_valid_len
the_connect_and_then_the_setup word = legal secured word _ _ refl refl (at_secured (Some None), (refl, tt))

-- the password is refused: the link is closed, this is shown, and the command that waits and the next one get the error
pub password_is_refused : IsTraceIn secured
    (event.Connected 0 ∷ event.Submit (command 71) ∷ event.Bytes 0 wrong_password ∷ event.Submit (command 72) ∷ [])
    refusal_told
    (action.Outcome 0 (outcome.Fault refusal) ∷ turn 4 (event.Submit (command 72)) ∷ action.Outcome 1 (outcome.Fault refusal) ∷ [])
unfolding digits settings_in is_lazy is_bad_event items values left_over is_spoiled max_depth url_on_literals utf8_lossy utf8_valid_len
password_is_refused word = legal secured word _ _ refl refl (at_secured (Some None), (refl, (refl, (refl, (refl, tt)))))

-- the server counts other arguments: the setup starts once more, without the user name
pub without_the_user : IsTraceIn of_a_user
    (event.Connected 0 ∷ event.Wrote 0 29 ∷ event.Bytes 0 other_arguments ∷ event.Bytes 0 okay_line ∷ [])
    said_again
    (turn 4 (event.Bytes 0 okay_line) ∷ action.Created None ∷ [])
unfolding digits settings_in is_lazy is_bad_event items values left_over is_spoiled max_depth url_on_literals utf8_lossy utf8_valid_len
without_the_user word = legal of_a_user word _ _ refl refl (at_users, (refl, (refl, tt)))

-- it starts once nothing holds the link back
pub without_the_user_later : IsTraceIn of_a_held_user
    (event.Connected 0 ∷ event.Bytes 0 other_arguments ∷ event.Wrote 0 29 ∷ event.Bytes 0 okay_line ∷ [])
    said_later
    (turn 4 (event.Bytes 0 okay_line) ∷ action.Created None ∷ [])
unfolding digits settings_in is_lazy is_bad_event items values left_over is_spoiled max_depth url_on_literals utf8_lossy utf8_valid_len
without_the_user_later word = legal of_a_held_user word _ _ refl refl (at_held_users, (refl, (refl, tt)))

-- where nothing is said but the address the library is named, and a request has 500 milliseconds once this is well
pub by_the_address_alone : IsTraceIn by_default
    (event.Connected 0 ∷ event.Bytes 0 okay_line ∷ event.Bytes 0 okay_line ∷ event.Submit (command 71) ∷ event.Bytes 0 one_reply ∷ [])
    named_in_time
    (turn 4 (event.Submit (command 71)) ∷ action.Timer 1 500 (purpose.Response (owner.Try 0 0)) ∷ action.Start 0 1 (owner.Try 0 0) 1 11 ∷ turn 5 (event.Bytes 0 one_reply) ∷ action.Outcome 0 (reply 120) ∷ [])
unfolding digits settings_in is_lazy is_bad_event items values left_over is_spoiled max_depth url_on_literals utf8_lossy utf8_valid_len
by_the_address_alone word = legal by_default word _ _ refl refl (at_default, ((refl, refl), (refl, (tt, (refl, tt)))))

-- an error about the library's name is none, and the link is ready once both replies came
pub library_unknown : IsTraceIn of_a_library
    (event.Connected 0 ∷ event.Bytes 0 unknown_command ∷ event.Bytes 0 okay_line ∷ [])
    library_said
    (action.Created None ∷ [])
unfolding digits settings_in is_lazy is_bad_event items values left_over is_spoiled max_depth url_on_literals utf8_lossy utf8_valid_len
library_unknown word = legal of_a_library word _ _ refl refl (at_open, (refl, tt))

-- all that can be said is said in one message, in this order
pub all_in_order : IsTraceIn of_all
    (event.Connected 0 ∷ event.Bytes 0 all_well ∷ [])
    all_said
    (action.Created None ∷ [])
unfolding digits settings_in is_lazy is_bad_event items values left_over is_spoiled max_depth url_on_literals utf8_lossy utf8_valid_len
all_in_order word = legal of_all word _ _ refl refl (at_all, (refl, tt))

-- a link that fails during its setup is closed, and its opening failed by the closed connection
pub cut_off_in_setup : IsTraceIn secured
    (event.Connected 0 ∷ event.Submit (command 71) ∷ event.ReadFault 0 Reset ∷ [])
    cut_off_during
    (action.Close 0 ∷ action.Created (Some error.Closed) ∷ action.Outcome 0 (outcome.Fault error.Closed) ∷ [])
unfolding digits settings_in is_lazy is_bad_event url_on_literals utf8_lossy utf8_valid_len
cut_off_in_setup word = legal secured word _ _ refl refl (at_secured (Some None), (refl, (refl, (refl, tt))))

-- the time of a connect holds until the link is set up
pub timed_out_in_setup : IsTraceIn secured_in_time
    (event.Connected 0 ∷ event.Fired 0 ∷ [])
    overdue_during
    (action.Close 0 ∷ action.Created (Some (error.Io TimedOut)) ∷ [])
unfolding digits settings_in is_lazy is_bad_event url_on_literals utf8_lossy utf8_valid_len
timed_out_in_setup word = legal secured_in_time word _ _ refl refl (at_secured None, ((refl, refl), (refl, (refl, tt))))

-- the shutdown closes a link that is being set up, and then the connection of a request that waits for it
pub shut_down_in_setup : IsTraceIn secured
    (event.Connected 0 ∷ event.Submit (command 71) ∷ event.Shutdown ∷ [])
    shut_during
    (action.Close 0 ∷ action.Outcome 0 (outcome.Fault error.Closed) ∷ [])
unfolding digits settings_in is_lazy is_bad_event url_on_literals utf8_lossy utf8_valid_len
shut_down_in_setup word = legal secured word _ _ refl refl (at_secured (Some None), (refl, (refl, tt)))
