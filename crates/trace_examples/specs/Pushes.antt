-- Traces of links on which pushes come.
use Rattle.std.specs.Prelude.{ℕ, true, false, List, [], ◌∷◌, ◌++◌, Some, None, codes, pos}
use Rattle.redis_error.specs.declared.fault_kind.FaultKind.TheVariants.{Reset}
use Rattle.resp_value.specs.declared.push_kind.PushKind.TheVariants.{Disconnection, Invalidate, Subscribe}
use Rattle.resp_value.specs.Data.{Data, bulk, int, push, simple, items_of}
use Rattle.resp_value.specs.View.{value_of}
use Rattle.driver_model.specs.declared.action.Action.{Action}
use Rattle.driver_model.specs.declared.action.Action.TheVariants as action
use Rattle.driver_model.specs.declared.action.Owner.TheVariants as owner
use Rattle.driver_model.specs.declared.config.Config.{Config}
use Rattle.driver_model.specs.declared.event.EventKind.TheVariants as event
use Rattle.driver_model.specs.declared.event.Submission.{Submission}
use Rattle.driver_model.specs.declared.event.Submission.TheVariants as submission
use Rattle.driver_model.specs.declared.outcome.Outcome.{Outcome}
use Rattle.driver_model.specs.declared.outcome.Outcome.TheVariants as outcome
use Rattle.driver_model.specs.declared.push_info.PushInfo.{PushInfo}
use Rattle.driver_model.specs.Request.{packed_bytes}
use Rattle.trace_examples.specs.Parts.{single_to, patient, turn, reply}
use Rattle.trace_examples.specs.Setups.{setup_sent}
use Rattle.trace_examples.specs.Calls.{of_third, hello_line, hello_well, confirmation}

-- the third protocol, and somebody hears the pushes that come, or nothing is said of that
abbrev pub heard : Config
heard = single_to (codes "redis://h:6379/?protocol=3") (Some false) (record patient { push = Some true })

abbrev pub unheard : Config
unheard = of_third

-- GET of a key of one letter, of 20 bytes, and SUBSCRIBE of the channel c, of 26
abbrev pub get : ℕ → Submission
get key = submission.Cmd (codes "GET" ∷ (key ∷ []) ∷ [])

abbrev pub subscribe : Submission
subscribe = submission.Cmd (codes "SUBSCRIBE" ∷ codes "c" ∷ [])

-- the key k is no longer valid: a push without reply, alone and between two replies
abbrev pub invalid_line : List ℕ
invalid_line = codes ">2\r\n+invalidate\r\n+k\r\n"

abbrev pub invalid_between : List ℕ
invalid_between = codes "+x\r\n>2\r\n+invalidate\r\n+k\r\n+y\r\n"

abbrev pub invalidation : PushInfo
invalidation = record { kind = Invalidate; parts = simple (codes "k") ∷ [] }

-- c is subscribed, the first channel that is: a push with reply
abbrev pub subscription_parts : List Data
subscription_parts = bulk (codes "c") ∷ int (pos 1) ∷ []

abbrev pub subscription : PushInfo
subscription = record { kind = Subscribe; parts = subscription_parts }

-- the same as an outcome
abbrev pub subscribed : Outcome
subscribed = outcome.One (value_of (push Subscribe (items_of subscription_parts)))

-- a link has ended
abbrev pub disconnection : PushInfo
disconnection = record { kind = Disconnection; parts = [] }

-- the setup is under way
abbrev pub greeting : Config → ℕ → List Action
greeting config word = setup_sent config word 1 22 hello_line

-- a push comes before it is answered
abbrev pub pushed_early : Config → ℕ → List Action
pushed_early config word = greeting config word ++ turn 2 (event.Bytes 0 invalid_line) ∷ []

-- or a read fails, and the link is closed
abbrev pub cut_off_early : Config → ℕ → List Action
cut_off_early config word = greeting config word ++ turn 2 (event.ReadFault 0 Reset) ∷ action.Close 0 ∷ []

-- it is answered well
abbrev pub greeted : Config → ℕ → List Action
greeted config word = greeting config word ++ turn 2 (event.Wrote 0 22) ∷ turn 3 (event.Bytes 0 hello_well) ∷ action.Created None ∷ []

-- a key is asked for
abbrev pub asked_one : Config → ℕ → List Action
asked_one config word = greeted config word ++ turn 4 (event.Submit (get 97)) ∷ action.Start 0 1 (owner.Try 0 0) 1 20 ∷ action.Write 0 (packed_bytes (get 97)) ∷ []

-- and a second one, and then a key is no longer valid between the two replies
abbrev pub invalid_while_asked : Config → ℕ → List Action
invalid_while_asked config word =
    asked_one config word ++
    turn 5 (event.Submit (get 98)) ∷ action.Start 0 2 (owner.Try 1 0) 1 20 ∷
    turn 6 (event.Bytes 0 invalid_between) ∷ []

-- the first was answered
abbrev pub first_told : Config → ℕ → List Action
first_told config word = invalid_while_asked config word ++ action.Outcome 0 (reply 120) ∷ []

-- and the push told
abbrev pub invalid_told : Config → ℕ → List Action
invalid_told config word = first_told config word ++ action.Push 0 invalidation ∷ []

-- or nothing is asked for, and a key is no longer valid
abbrev pub pushed_alone : Config → ℕ → List Action
pushed_alone config word = greeted config word ++ turn 4 (event.Bytes 0 invalid_line) ∷ []

-- a channel is subscribed, and that is confirmed
abbrev pub confirmed : Config → ℕ → List Action
confirmed config word =
    greeted config word ++
    turn 4 (event.Submit subscribe) ∷ action.Start 0 1 (owner.Try 0 0) 1 26 ∷ action.Write 0 (packed_bytes subscribe) ∷
    turn 5 (event.Bytes 0 confirmation) ∷ []

-- a key is asked for, a read fails, and the link is closed
abbrev pub cut_off_asked : Config → ℕ → List Action
cut_off_asked config word = asked_one config word ++ turn 5 (event.ReadFault 0 Reset) ∷ action.Close 0 ∷ []

-- and this is told
abbrev pub end_told : Config → ℕ → List Action
end_told config word = cut_off_asked config word ++ action.Push 0 disconnection ∷ []

-- the fronts of the traces that are refused for what comes next
abbrev pub push_fronts : ℕ → List (List Action)
push_fronts word =
    pushed_early heard word ∷ cut_off_early heard word ∷ invalid_while_asked heard word ∷ first_told heard word ∷
    invalid_told heard word ∷ pushed_alone heard word ∷ confirmed heard word ∷ confirmed unheard word ∷ cut_off_asked heard word ∷ end_told heard word ∷ []
