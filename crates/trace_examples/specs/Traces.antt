-- The fronts of a few traces.
use Rattle.std.specs.Prelude.{ℕ, List, [], ◌∷◌, ◌++◌, None, codes}
use Rattle.redis_error.specs.declared.fault_kind.FaultKind.TheVariants.{Reset}
use Rattle.redis_error.specs.declared.redis_error.RedisError.TheVariants.{Io}
use Rattle.resp_value.specs.declared.value.Value.TheVariants.{Nil}
use Rattle.driver_model.specs.declared.action.Action.{Action}
use Rattle.driver_model.specs.declared.action.Action.TheVariants as action
use Rattle.driver_model.specs.declared.action.Cause.TheVariants as cause
use Rattle.driver_model.specs.declared.action.Owner.TheVariants as owner
use Rattle.driver_model.specs.declared.action.WaitKind.TheVariants as wait
use Rattle.driver_model.specs.declared.config.Config.{Config}
use Rattle.driver_model.specs.declared.event.EventKind.TheVariants as event
use Rattle.driver_model.specs.declared.event.Submission.{Submission}
use Rattle.driver_model.specs.declared.event.Submission.TheVariants as submission
use Rattle.driver_model.specs.declared.outcome.Outcome.TheVariants as outcome
use Rattle.driver_model.specs.Request.{packed_bytes}
use Rattle.trace_examples.specs.Parts.{turn, command, unawaited, one_atomic, one_skipped, reply, one_reply, replies, replies_alike, a_reply_and_more, spoiled_behind, okay_line, a_push, refusals, multi_refused, exec_refused, executed}

-- the opening, which asks for the first link
abbrev pub opening : Config → ℕ → List Action
opening config word = action.Turn 0 (cause.Opening config word) ∷ action.Connect 0 (codes "h") 6379 ∷ []

-- and the link came up
abbrev pub came_up : Config → ℕ → List Action
came_up config word = opening config word ++ turn 1 (event.Connected 0) ∷ action.Created None ∷ []

-- a request was handed in, and nothing more was done
abbrev pub arrived : Config → ℕ → Submission → List Action
arrived config word s = came_up config word ++ turn 2 (event.Submit s) ∷ []

-- a request of that need and length was started and offered
abbrev pub sent : Config → ℕ → Submission → ℕ → ℕ → List Action
sent config word s need len = arrived config word s ++ action.Start 0 0 (owner.Try 0 0) need len ∷ action.Write 0 (packed_bytes s) ∷ []

-- a command was started, and nothing else happened
abbrev pub started_one : Config → ℕ → List Action
started_one config word = sent config word (command 71) 1 11

-- a second one was started behind it
abbrev pub started_both : Config → ℕ → List Action
started_both config word = started_one config word ++ turn 3 (event.Submit (command 72)) ∷ action.Start 0 1 (owner.Try 1 0) 1 11 ∷ []

-- and both were written
abbrev pub sent_both : Config → ℕ → List Action
sent_both config word = started_both config word ++ turn 4 (event.Wrote 0 11) ∷ action.Write 0 (packed_bytes (command 72)) ∷ turn 5 (event.Wrote 0 11) ∷ []

-- and both replies came
abbrev pub answered_both : Config → ℕ → List Action
answered_both config word = sent_both config word ++ turn 6 (event.Bytes 0 replies) ∷ []

-- and the first was answered
abbrev pub answered_first : Config → ℕ → List Action
answered_first config word = answered_both config word ++ action.Outcome 0 (reply 120) ∷ []

-- or +x came twice
abbrev pub answered_alike : Config → ℕ → List Action
answered_alike config word = sent_both config word ++ turn 6 (event.Bytes 0 replies_alike) ∷ []

-- or the first was cancelled, and both replies came
abbrev pub left_alone : Config → ℕ → List Action
left_alone config word = started_both config word ++ turn 4 (event.Cancel 0) ∷ turn 5 (event.Bytes 0 replies) ∷ []

-- or the first was cancelled, and then a read failed, and the link was closed
abbrev pub cut_off_alone : Config → ℕ → List Action
cut_off_alone config word = started_both config word ++ turn 4 (event.Cancel 0) ∷ turn 5 (event.ReadFault 0 Reset) ∷ action.Close 0 ∷ []

-- or the first reply came, and a byte behind it that begins no value
abbrev pub spoiled : Config → ℕ → List Action
spoiled config word = started_both config word ++ turn 4 (event.Bytes 0 spoiled_behind) ∷ []

-- or a read failed, and the link was closed
abbrev pub both_cut_off : Config → ℕ → List Action
both_cut_off config word = started_both config word ++ turn 4 (event.ReadFault 0 Reset) ∷ action.Close 0 ∷ []

-- a command was started, a second connect came, and then the reply
abbrev pub connected_again : Config → ℕ → List Action
connected_again config word = started_one config word ++ turn 3 (event.Connected 0) ∷ turn 4 (event.Bytes 0 okay_line) ∷ []

-- a command was started, and a push without reply came
abbrev pub pushed : Config → ℕ → List Action
pushed config word = started_one config word ++ turn 3 (event.Bytes 0 a_push) ∷ []

-- a command was started, and a second one was handed in that wasn't
abbrev pub held_back : Config → ℕ → List Action
held_back config word = started_one config word ++ turn 3 (event.Submit (command 72)) ∷ []

-- a command was started, and its first five bytes were taken
abbrev pub taken_in_part : Config → ℕ → List Action
taken_in_part config word = started_one config word ++ turn 3 (event.Wrote 0 5) ∷ []

-- a request was started, and its bytes were never offered
abbrev pub started_unoffered : Config → ℕ → List Action
started_unoffered config word = arrived config word (command 71) ++ action.Start 0 0 (owner.Try 0 0) 1 11 ∷ []

-- a request was started, and a read from its link failed
abbrev pub cut_off : Config → ℕ → Submission → ℕ → ℕ → List Action
cut_off config word s need len = sent config word s need len ++ turn 3 (event.ReadFault 0 Reset) ∷ action.Close 0 ∷ []

-- the command was hit by the fault, and another one was handed in
abbrev pub ended : Config → ℕ → List Action
ended config word = cut_off config word (command 71) 1 11 ++ action.Outcome 0 (outcome.Fault (Io Reset)) ∷ turn 4 (event.Submit (command 72)) ∷ []

-- a transaction was refused
abbrev pub refused : Config → ℕ → List Action
refused config word = sent config word one_atomic 3 40 ++ turn 3 (event.Bytes 0 refusals) ∷ []

-- or its MULTI alone, and the last reply came in a piece of its own
abbrev pub refused_at_once : Config → ℕ → List Action
refused_at_once config word = sent config word one_atomic 3 40 ++ turn 3 (event.Bytes 0 multi_refused) ∷ turn 4 (event.Bytes 0 exec_refused) ∷ []

-- or it was executed
abbrev pub committed : Config → ℕ → List Action
committed config word = sent config word one_atomic 3 40 ++ turn 3 (event.Bytes 0 executed) ∷ []

-- one of the two items came that a message takes
abbrev pub half_filled : Config → ℕ → List Action
half_filled config word = sent config word one_skipped 2 11 ++ turn 3 (event.Bytes 0 one_reply) ∷ []

-- a command came whose reply nobody awaits, and wasn't answered
abbrev pub left_untold : Config → ℕ → List Action
left_untold config word = arrived config word (unawaited 71)

-- a command was answered at its place, since nobody awaits its reply, another started behind it, and both replies came
abbrev pub told_first : Config → ℕ → List Action
told_first config word =
    left_untold config word ++
    action.Outcome 0 (outcome.One Nil) ∷ action.Start 0 0 (owner.Try 0 0) 1 11 ∷ action.Write 0 (packed_bytes (unawaited 71)) ∷
    turn 3 (event.Submit (command 72)) ∷ action.Start 0 1 (owner.Try 1 0) 1 11 ∷
    turn 4 (event.Bytes 0 replies) ∷ []

-- a request was handed in before the link is up, and no wait was shown
abbrev pub left_out : Config → ℕ → List Action
left_out config word = opening config word ++ turn 1 (event.Submit (command 71)) ∷ []

-- and a second one
abbrev pub both_left_out : Config → ℕ → List Action
both_left_out config word = left_out config word ++ turn 2 (event.Submit (command 72)) ∷ []

-- a request waits for the connect
abbrev pub in_wait : Config → ℕ → Submission → List Action
in_wait config word s = opening config word ++ turn 1 (event.Submit s) ∷ action.Wait (owner.Try 0 0) wait.Connect ∷ []

-- a command was started, and everything is shut down
abbrev pub shut_down : Config → ℕ → List Action
shut_down config word = started_one config word ++ turn 3 event.Shutdown ∷ []

-- or while it waits for the connect
abbrev pub shut_in_wait : Config → ℕ → List Action
shut_in_wait config word = in_wait config word (command 71) ++ turn 2 event.Shutdown ∷ []

-- or the link came up
abbrev pub up_in_wait : Config → ℕ → Submission → List Action
up_in_wait config word s = in_wait config word s ++ turn 2 (event.Connected 0) ∷ []

-- two requests waited, and the link came up
abbrev pub both_in_wait : Config → ℕ → Submission → List Action
both_in_wait config word s =
    in_wait config word (command 71) ++
    turn 2 (event.Submit s) ∷ action.Wait (owner.Try 1 0) wait.Connect ∷
    turn 3 (event.Connected 0) ∷ action.Created None ∷ []

-- two commands waited, and the first of them started
abbrev pub first_of_both : Config → ℕ → List Action
first_of_both config word = both_in_wait config word (command 72) ++ action.Start 0 0 (owner.Try 0 0) 1 11 ∷ []

-- everything was shut down, and a command was handed in
abbrev pub too_late : Config → ℕ → List Action
too_late config word = opening config word ++ turn 1 event.Shutdown ∷ action.Close 0 ∷ turn 2 (event.Submit (command 71)) ∷ []

-- bytes came before the connect, and then a command was started, and its reply came
abbrev pub heard_early : Config → ℕ → List Action
heard_early config word =
    opening config word ++
    turn 1 (event.Bytes 0 a_reply_and_more) ∷
    turn 2 (event.Connected 0) ∷ action.Created None ∷
    turn 3 (event.Submit (command 71)) ∷ action.Start 0 0 (owner.Try 0 0) 1 11 ∷ action.Write 0 (packed_bytes (command 71)) ∷
    turn 4 (event.Bytes 0 okay_line) ∷ []

-- a command without words was handed in before the link is up
abbrev pub said_nothing : Config → ℕ → List Action
said_nothing config word = opening config word ++ turn 1 (event.Submit (submission.Cmd [])) ∷ []
