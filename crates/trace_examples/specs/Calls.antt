-- The fronts of traces with subscription calls.
use Rattle.std.specs.Prelude.{ℕ, false, List, [], ◌∷◌, ◌++◌, Some, None, codes}
use Rattle.resp_value.specs.declared.server_error.ServerError.{ServerError}
use Rattle.resp_write.specs.declared.subscription.SubscriptionAction.TheVariants.{Subscribe}
use Rattle.driver_model.specs.declared.action.Action.{Action}
use Rattle.driver_model.specs.declared.action.Action.TheVariants as action
use Rattle.driver_model.specs.declared.action.Owner.TheVariants as owner
use Rattle.driver_model.specs.declared.config.Config.{Config}
use Rattle.driver_model.specs.declared.event.EventKind.TheVariants as event
use Rattle.driver_model.specs.declared.event.Submission.{Submission}
use Rattle.driver_model.specs.declared.event.Submission.TheVariants as submission
use Rattle.trace_examples.specs.Parts.{turn}
use Rattle.trace_examples.specs.Setups.{told_at, setup_sent}

-- the third protocol, and nothing else
abbrev pub of_third : Config
of_third = told_at (codes "redis://h:6379/?protocol=3") (Some None) (Some false)

-- a call that subscribes to the channel c, of 26 bytes
abbrev pub call_of_c : Submission
call_of_c = submission.Subscription Subscribe (codes "c" ∷ [])

-- what says that the third protocol is spoken from now on, of 22 bytes, and the reply to it
abbrev pub hello_line : List ℕ
hello_line = codes "*2\r\n$5\r\nHELLO\r\n$1\r\n3\r\n"

abbrev pub hello_well : List ℕ
hello_well = codes "%1\r\n$5\r\nproto\r\n:3\r\n"

-- the confirmation of the call, and an error in its place
abbrev pub confirmation : List ℕ
confirmation = codes ">3\r\n$9\r\nsubscribe\r\n$1\r\nc\r\n:1\r\n"

abbrev pub denied_line : List ℕ
denied_line = codes "-NOPERM no\r\n"

abbrev pub denial : ServerError
denial = record { code = codes "NOPERM"; detail = Some (codes "no") }

-- the call came in on a link that speaks the third protocol, and started
abbrev pub called : Config → ℕ → List Action
called config word =
    setup_sent config word 1 22 hello_line ++
    turn 2 (event.Bytes 0 hello_well) ∷ action.Created None ∷
    turn 3 (event.Submit call_of_c) ∷ action.Start 0 1 (owner.Try 0 0) 1 26 ∷ []
