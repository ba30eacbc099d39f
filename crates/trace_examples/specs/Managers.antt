-- Traces of sessions that come back: of managers, of which a lazy one asks for its first link with its first submission.
use Rattle.std.specs.Prelude.{ℕ, Bool, true, false, List, [], ◌∷◌, ◌++◌, Some, None, codes}
use Rattle.redis_error.specs.declared.fault_kind.FaultKind.TheVariants.{Refused}
use Rattle.redis_error.specs.declared.redis_error.RedisError.TheVariants as error
use Rattle.resp_write.specs.declared.subscription.SubscriptionAction.{SubscriptionAction}
use Rattle.resp_write.specs.declared.subscription.SubscriptionAction.TheVariants.{Subscribe, Unsubscribe}
use Rattle.driver_model.specs.declared.action.Action.{Action}
use Rattle.driver_model.specs.declared.action.Action.TheVariants as action
use Rattle.driver_model.specs.declared.action.Cause.TheVariants as cause
use Rattle.driver_model.specs.declared.action.Owner.TheVariants as owner
use Rattle.driver_model.specs.declared.action.Purpose.TheVariants as purpose
use Rattle.driver_model.specs.declared.action.WaitKind.TheVariants as wait
use Rattle.driver_model.specs.declared.config.Config.{Config}
use Rattle.driver_model.specs.declared.config.Config.TheVariants as variant
use Rattle.driver_model.specs.declared.config_words.ConnectionWords.{ConnectionWords}
use Rattle.driver_model.specs.declared.config_words.ManagerWords.{ManagerWords}
use Rattle.driver_model.specs.Config.{no_manager_words}
use Rattle.driver_model.specs.declared.event.Event.{Event}
use Rattle.driver_model.specs.declared.event.EventKind.{EventKind}
use Rattle.driver_model.specs.declared.event.EventKind.TheVariants as event
use Rattle.driver_model.specs.declared.event.Submission.{Submission}
use Rattle.driver_model.specs.declared.event.Submission.TheVariants as submission
use Rattle.driver_model.specs.declared.outcome.Outcome.TheVariants as outcome
use Rattle.driver_model.specs.Request.{packed_bytes}
use Rattle.legal_trace.specs.Legal.{Legal}
use Rattle.trace_examples.specs.Parts.{patient, turn, history}
use Rattle.trace_examples.specs.Calls.{call_of_c, hello_line, confirmation}
use Rattle.trace_examples.specs.Pushes.{get, subscription, disconnection}

-- a manager of the server of this URL, a lazy one or not, whose connections behave so, and which comes back so
abbrev pub manager_to : Bool → List ℕ → ConnectionWords → ManagerWords → Config
manager_to lazy url words manager = variant.Manager lazy (record { url = url; lib = Some false }) words manager

-- one of the server at h:6379, to which nothing is to be said, with so many attempts of a generation after its first
abbrev pub trying : Bool → ℕ → Config
trying lazy retries = manager_to lazy (codes "redis://h:6379") patient (record no_manager_words { retries = Some retries })

-- a lazy one, which tries once, and others, which try twice and three times
abbrev pub lazy_once : Config
lazy_once = trying true 0

abbrev pub trying_twice : Config
trying_twice = trying false 1

abbrev pub trying_thrice : Config
trying_thrice = trying false 2

-- one that speaks the third protocol, whose pushes somebody hears, and which subscribes again what is subscribed
abbrev pub resubscribing : Config
resubscribing = manager_to false (codes "redis://h:6379/?protocol=3") (record patient { push = Some true }) (record no_manager_words { resub = Some true })

-- the same, where what the driver says itself, as a request, is to be answered within 100 milliseconds
abbrev pub resubscribing_in_time : Config
resubscribing_in_time = manager_to false (codes "redis://h:6379/?protocol=3") (record patient { push = Some true; response = Some (Some 100) }) (record no_manager_words { resub = Some true })

-- an event, and its turn, with this word
abbrev pub drawn : ℕ → EventKind → Event
drawn draws kind = record { word = draws; kind = kind }

abbrev pub turn_drawn : ℕ → ℕ → EventKind → Action
turn_drawn k draws kind = action.Turn k (cause.Event (drawn draws kind))

-- a link is asked for at h:6379
abbrev pub connect : ℕ → Action
connect l = action.Connect l (codes "h") 6379

-- a lazy one is created as it opens
abbrev pub opened_lazily : Config → ℕ → List Action
opened_lazily config word = action.Turn 0 (cause.Opening config word) ∷ action.Created None ∷ []

-- its first submission comes
abbrev pub used : Config → ℕ → List Action
used config word = opened_lazily config word ++ turn 1 (event.Submit (get 97)) ∷ []

-- with which its first generation begins
abbrev pub begun_by_use : Config → ℕ → List Action
begun_by_use config word = used config word ++ action.Generation 1 ∷ connect 0 ∷ action.Wait (owner.Try 0 0) wait.Connect ∷ []

-- its only attempt fails
abbrev pub refused_once : Config → ℕ → List Action
refused_once config word = begun_by_use config word ++ turn 2 (event.Refused 0 Refused) ∷ []

-- and so the submission does
abbrev pub failed_so : Config → ℕ → List Action
failed_so config word = refused_once config word ++ action.Outcome 0 (outcome.Fault (error.Io Refused)) ∷ []

-- the next generation begins
abbrev pub begun_next : Config → ℕ → List Action
begun_next config word = failed_so config word ++ action.Generation 2 ∷ []

-- and asks for its link
abbrev pub replaced : Config → ℕ → List Action
replaced config word = begun_next config word ++ connect 1 ∷ []

-- any other one asks for its first link as it opens
abbrev pub opened : Config → ℕ → List Action
opened config word = action.Turn 0 (cause.Opening config word) ∷ action.Generation 1 ∷ connect 0 ∷ []

-- its first attempt fails, in a turn of this word
abbrev pub attempt_failed : ℕ → Config → ℕ → List Action
attempt_failed draws config word = opened config word ++ turn_drawn 1 draws (event.Refused 0 Refused) ∷ []

-- it waits so long
abbrev pub resting : ℕ → ℕ → Config → ℕ → List Action
resting draws ms config word = attempt_failed draws config word ++ action.Timer 0 ms (purpose.Backoff 1) ∷ []

-- and then asks for the next link
abbrev pub tried_again : ℕ → ℕ → Config → ℕ → List Action
tried_again draws ms config word = resting draws ms config word ++ turn 2 (event.Fired 0) ∷ connect 1 ∷ []

-- where that is the last attempt, and it fails, the creation does
abbrev pub last_failed : Config → ℕ → List Action
last_failed config word = tried_again 250 50 config word ++ turn 3 (event.Refused 1 Refused) ∷ action.Created (Some (error.Io Refused)) ∷ []

-- a submission that comes then is answered with its error
abbrev pub asked_in_vain : Config → ℕ → List Action
asked_in_vain config word = last_failed config word ++ turn 4 (event.Submit (get 97)) ∷ action.Outcome 0 (outcome.Fault (error.Io Refused)) ∷ []

-- the events of it
abbrev pub tried_twice : List Event
tried_twice = drawn 250 (event.Refused 0 Refused) ∷ history (event.Fired 0 ∷ event.Refused 1 Refused ∷ event.Submit (get 97) ∷ [])

-- where it isn't, and fails in a turn of the same word
abbrev pub failed_again : Config → ℕ → List Action
failed_again config word = tried_again 150 50 config word ++ turn_drawn 3 150 (event.Refused 1 Refused) ∷ []

abbrev pub tried_thrice : List Event
tried_thrice = drawn 150 (event.Refused 0 Refused) ∷ drawn 0 (event.Fired 0) ∷ drawn 150 (event.Refused 1 Refused) ∷ []

-- what a server says to the third protocol where it says no more
abbrev pub hello_bare : List ℕ
hello_bare = codes "%0\r\n"

-- link l is up, and speaks it, in the turns from k on
abbrev pub greeted_on : ℕ → ℕ → List Action
greeted_on l k = turn k (event.Connected l) ∷ action.Start l 0 owner.Setup 1 22 ∷ action.Write l hello_line ∷ []

-- the first link is ready
abbrev pub ready : Config → ℕ → List Action
ready config word = opened config word ++ greeted_on 0 1 ++ turn 2 (event.Wrote 0 22) ∷ turn 3 (event.Bytes 0 hello_bare) ∷ action.Created None ∷ []

-- what is handed in as submission n then starts as message k on link l, of so many bytes, and is offered
abbrev pub started : ℕ → ℕ → ℕ → ℕ → Submission → List Action
started l k n len what = action.Round (owner.Try n 0) (Some l) ∷ action.Start l k (owner.Try n 0) 1 len ∷ action.Write l (packed_bytes what) ∷ []

-- a channel is subscribed
abbrev pub subscribed_c : Config → ℕ → List Action
subscribed_c config word =
    ready config word ++ turn 4 (event.Submit call_of_c) ∷ started 0 1 0 26 call_of_c ++
    turn 5 (event.Wrote 0 26) ∷ turn 6 (event.Bytes 0 confirmation) ∷ action.Push 0 subscription ∷ action.Outcome 0 outcome.Done ∷ []

-- two keys are asked for
abbrev pub asked_both : Config → ℕ → List Action
asked_both config word =
    subscribed_c config word ++ turn 7 (event.Submit (get 97)) ∷ started 0 2 1 20 (get 97) ++
    turn 8 (event.Submit (get 98)) ∷ action.Round (owner.Try 2 0) (Some 0) ∷ action.Start 0 3 (owner.Try 2 0) 1 20 ∷ []

-- the link ends
abbrev pub lost : Config → ℕ → List Action
lost config word = asked_both config word ++ turn 9 (event.Ended 0) ∷ action.Close 0 ∷ action.Push 0 disconnection ∷ []

-- both are answered so
abbrev pub both_closed : Config → ℕ → List Action
both_closed config word = lost config word ++ action.Outcome 1 (outcome.Fault error.Closed) ∷ action.Outcome 2 (outcome.Fault error.Closed) ∷ []

-- the next generation begins, a further key is asked for meanwhile, and the new link is up
abbrev pub up_again : Config → ℕ → List Action
up_again config word =
    both_closed config word ++ action.Generation 2 ∷ connect 1 ∷
    turn 10 (event.Submit (get 100)) ∷ action.Wait (owner.Try 3 0) wait.Connect ∷ greeted_on 1 11 ++ action.Wait (owner.Try 3 0) wait.Setup ∷ []

-- and set up
abbrev pub set_up_again : Config → ℕ → List Action
set_up_again config word = up_again config word ++ turn 12 (event.Bytes 1 hello_bare) ∷ []

-- what is subscribed is subscribed again
abbrev pub repeated : Config → ℕ → List Action
repeated config word = set_up_again config word ++ action.Start 1 1 owner.Resub 1 26 ∷ []

-- and that is answered
abbrev pub repeated_well : Config → ℕ → List Action
repeated_well config word =
    repeated config word ++ action.Wait (owner.Try 3 0) wait.Resubscribe ∷
    turn 13 (event.Bytes 1 confirmation) ∷ action.Push 1 subscription ∷ []

-- the key that was asked for meanwhile goes to the new link
abbrev pub came_back : Config → ℕ → List Action
came_back config word = repeated_well config word ++ action.Round (owner.Try 3 0) (Some 1) ∷ action.Start 1 2 (owner.Try 3 0) 1 20 ∷ []

-- a value comes there
abbrev pub replied_there : Config → ℕ → List Action
replied_there config word = came_back config word ++ turn 14 (event.Bytes 1 (codes "+x\r\n")) ∷ []

-- the events of it
abbrev pub coming_back : List EventKind
coming_back =
    event.Connected 0 ∷ event.Wrote 0 22 ∷ event.Bytes 0 hello_bare ∷ event.Submit call_of_c ∷ event.Wrote 0 26 ∷ event.Bytes 0 confirmation ∷
    event.Submit (get 97) ∷ event.Submit (get 98) ∷ event.Ended 0 ∷ event.Submit (get 100) ∷
    event.Connected 1 ∷ event.Bytes 1 hello_bare ∷ event.Bytes 1 confirmation ∷ []

-- a call about the channel d: of 26 bytes where it subscribes to it, and of 29 where it leaves it
abbrev pub call_of_d : SubscriptionAction → Submission
call_of_d what = submission.Subscription what (codes "d" ∷ [])

-- another channel was subscribed, and no longer is, each call confirmed by whatever is answered, when the link ends and the next
-- one is set up
abbrev pub left_d : Config → ℕ → List Action
left_d config word =
    subscribed_c config word ++
    turn 7 (event.Submit (call_of_d Subscribe)) ∷ started 0 2 1 26 (call_of_d Subscribe) ++
    turn 8 (event.Wrote 0 26) ∷ turn 9 (event.Bytes 0 confirmation) ∷ action.Push 0 subscription ∷ action.Outcome 1 outcome.Done ∷
    turn 10 (event.Submit (call_of_d Unsubscribe)) ∷ started 0 3 2 29 (call_of_d Unsubscribe) ++
    turn 11 (event.Wrote 0 29) ∷ turn 12 (event.Bytes 0 confirmation) ∷ action.Push 0 subscription ∷ action.Outcome 2 outcome.Done ∷
    turn 13 (event.Ended 0) ∷ action.Close 0 ∷ action.Push 0 disconnection ∷ action.Generation 2 ∷ connect 1 ∷
    greeted_on 1 14 ++ turn 15 (event.Bytes 1 hello_bare) ∷ []

-- the events of it
abbrev pub leaving_d : List EventKind
leaving_d =
    event.Connected 0 ∷ event.Wrote 0 22 ∷ event.Bytes 0 hello_bare ∷ event.Submit call_of_c ∷ event.Wrote 0 26 ∷ event.Bytes 0 confirmation ∷
    event.Submit (call_of_d Subscribe) ∷ event.Wrote 0 26 ∷ event.Bytes 0 confirmation ∷
    event.Submit (call_of_d Unsubscribe) ∷ event.Wrote 0 29 ∷ event.Bytes 0 confirmation ∷
    event.Ended 0 ∷ event.Connected 1 ∷ event.Bytes 1 hello_bare ∷ []

-- in time, a channel is subscribed, the link ends, and the next one is set up
abbrev pub up_in_time : Config → ℕ → List Action
up_in_time config word =
    ready config word ++
    turn 4 (event.Submit call_of_c) ∷ action.Round (owner.Try 0 0) (Some 0) ∷ action.Timer 0 100 (purpose.Response (owner.Try 0 0)) ∷
    action.Start 0 1 (owner.Try 0 0) 1 26 ∷ action.Write 0 (packed_bytes call_of_c) ∷
    turn 5 (event.Wrote 0 26) ∷ turn 6 (event.Bytes 0 confirmation) ∷ action.Push 0 subscription ∷ action.Outcome 0 outcome.Done ∷
    turn 7 (event.Ended 0) ∷ action.Close 0 ∷ action.Push 0 disconnection ∷ action.Generation 2 ∷ connect 1 ∷
    greeted_on 1 8 ++ turn 9 (event.Bytes 1 hello_bare) ∷ []

-- that is subscribed again, a key is asked for meanwhile, and the time is over
abbrev pub over_in_time : Config → ℕ → List Action
over_in_time config word =
    up_in_time config word ++ action.Timer 1 100 (purpose.Resubscription 1) ∷ action.Start 1 1 owner.Resub 1 26 ∷
    turn 10 (event.Submit (get 97)) ∷ action.Wait (owner.Try 1 0) wait.Resubscribe ∷ turn 11 (event.Fired 1) ∷ []

-- the events of it
abbrev pub running_over : List EventKind
running_over =
    event.Connected 0 ∷ event.Wrote 0 22 ∷ event.Bytes 0 hello_bare ∷ event.Submit call_of_c ∷ event.Wrote 0 26 ∷ event.Bytes 0 confirmation ∷
    event.Ended 0 ∷ event.Connected 1 ∷ event.Bytes 1 hello_bare ∷ event.Submit (get 97) ∷ event.Fired 1 ∷ []

-- with this configuration, these actions are a legal trace for these events, whatever the word of the opening
abbrev pub AreLegal : Config → List Event → (Config → ℕ → List Action) → List Action → Type 0
AreLegal config events front last = (word : ℕ) → Legal config word events (front config word ++ last)

-- the fronts of the traces that are refused for what comes next
abbrev pub manager_fronts : ℕ → List (List Action)
manager_fronts word =
    opened_lazily lazy_once word ∷ failed_so lazy_once word ∷ begun_next lazy_once word ∷ replaced lazy_once word ∷
    attempt_failed 250 trying_twice word ∷ resting 250 50 trying_twice word ∷ asked_in_vain trying_twice word ∷ failed_again trying_thrice word ∷
    subscribed_c resubscribing word ∷ lost resubscribing word ∷ set_up_again resubscribing word ∷ repeated resubscribing word ∷
    repeated_well resubscribing word ∷ replied_there resubscribing word ∷ left_d resubscribing word ∷ up_in_time resubscribing_in_time word ∷ []
