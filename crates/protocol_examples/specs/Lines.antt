-- Lines of traces, and lines of scripts.
use Rattle.std.specs.Prelude.{ℕ, pos, true, List, [], ◌∷◌, Option, Some, None, codes, option_and_then}
use Rattle.credentials.specs.Credentials.{Credentials}
use Rattle.redis_error.specs.declared.fault_kind.FaultKind.TheVariants.{BrokenPipe, Refused, Reset}
use Rattle.redis_error.specs.declared.redis_error.RedisError.TheVariants as error
use Rattle.resp_value.specs.declared.push_kind.PushKind.TheVariants.{Disconnection, Invalidate}
use Rattle.resp_value.specs.declared.value.Value.TheVariants.{Okay}
use Rattle.resp_value.specs.Data.{bulk, int, okay}
use Rattle.resp_value.specs.View.{value_of}
use Rattle.resp_write.specs.declared.subscription.SubscriptionAction.TheVariants.{Subscribe, PUnsubscribe}
use Rattle.driver_model.specs.declared.action.Action.{Action}
use Rattle.driver_model.specs.declared.action.Action.TheVariants as action
use Rattle.driver_model.specs.declared.action.Owner.TheVariants as owner
use Rattle.driver_model.specs.declared.action.Purpose.TheVariants as purpose
use Rattle.driver_model.specs.declared.action.WaitKind.TheVariants as wait
use Rattle.driver_model.specs.declared.event.Event.{Event}
use Rattle.driver_model.specs.declared.event.EventKind.{EventKind}
use Rattle.driver_model.specs.declared.event.EventKind.TheVariants as event
use Rattle.driver_model.specs.declared.event.Submission.{Submission}
use Rattle.driver_model.specs.declared.event.Submission.TheVariants as submission
use Rattle.driver_model.specs.declared.kind.SessionKind.{SessionKind}
use Rattle.driver_model.specs.declared.kind.SessionKind.TheVariants as kind
use Rattle.driver_model.specs.declared.outcome.Outcome.TheVariants as outcome
use Rattle.script_text.specs.EventLine.{event_of}
use Rattle.script_text.specs.Words.{words_of_line}

-- what the driver asks for, starts and ends, and the lines in which a trace tells it
abbrev pub lines_of_links : List (Action × List ℕ)
lines_of_links =
    (action.Connect 1 (codes "h") 6_379, codes "connect 1 h:6379\n")
    ∷ (action.Timer 3 1_000 (purpose.Connect 1), codes "timer 3 1000 connect 1\n")
    ∷ (action.Timer 3 500 (purpose.Response (owner.Try 2 0)), codes "timer 3 500 response s2.0\n")
    ∷ (action.Timer 3 500 (purpose.Renewal 1 4), codes "timer 3 500 response auth\n")
    ∷ (action.Timer 3 500 (purpose.Resubscription 1), codes "timer 3 500 response resub\n")
    ∷ (action.Timer 3 50 (purpose.Backoff 2), codes "timer 3 50 backoff 2\n")
    ∷ (action.Generation 2, codes "generation 2\n")
    ∷ (action.Round (owner.Try 2 0) (Some 1), codes "round s2.0 1\n")
    ∷ (action.Took (owner.Try 2 0) 1 3, codes "took s2.0 1 3\n")
    ∷ (action.NeedCreds 0 1, codes "need-creds 0 1\n")
    ∷ (action.Start 1 4 (owner.Try 2 0) 3 40, codes "start 1 4 s2.0 3 40\n")
    ∷ (action.Start 1 0 owner.Setup 2 110, codes "start 1 0 setup 2 110\n")
    ∷ (action.Start 1 0 owner.Auth 1 28, codes "start 1 0 auth 1 28\n")
    ∷ (action.Start 1 0 owner.Resub 1 26, codes "start 1 0 resub 1 26\n")
    ∷ (action.Start 1 0 owner.Monitor 1 17, codes "start 1 0 monitor 1 17\n")
    ∷ (action.Write 1 (codes "+x\r\n"), codes "write 1 +x%0D%0A\n")
    ∷ (action.Close 1, codes "close 1\n")
    ∷ []

-- what requests wait for
abbrev pub lines_of_waits : List (Action × List ℕ)
lines_of_waits =
    (action.Wait (owner.Try 2 0) wait.Connect, codes "wait s2.0 connect\n")
    ∷ (action.Wait (owner.Try 2 0) wait.Creds, codes "wait s2.0 creds\n")
    ∷ (action.Wait (owner.Try 2 0) wait.Setup, codes "wait s2.0 setup\n")
    ∷ (action.Wait (owner.Try 2 0) wait.Resubscribe, codes "wait s2.0 resubscribe\n")
    ∷ (action.Wait (owner.Try 2 0) wait.Backoff, codes "wait s2.0 backoff\n")
    ∷ (action.Wait (owner.Try 2 0) wait.Permit, codes "wait s2.0 permit\n")
    ∷ (action.Wait (owner.Try 2 0) wait.Place, codes "wait s2.0 place\n")
    ∷ (action.Wait (owner.Try 2 0) wait.Room, codes "wait s2.0 room\n")
    ∷ []

-- what is told, and what submissions are answered with
abbrev pub lines_of_answers : List (Action × List ℕ)
lines_of_answers =
    (action.Created None, codes "created ok\n")
    ∷ (action.Created (Some (error.Io Refused)), codes "created err io refused\n")
    ∷ (action.Push 1 (record { kind = Invalidate; parts = int (pos 1) ∷ [] }), codes "push 1 >2%0D%0A$10%0D%0Ainvalidate%0D%0A:1%0D%0A\n")
    ∷ (action.Push 1 (record { kind = Disconnection; parts = [] }), codes "push 1 disconnect\n")
    ∷ (action.Message (record { pattern = None; channel = value_of (bulk (codes "c")); payload = value_of (bulk (codes "hi")) }), codes "message - $1%0D%0Ac%0D%0A $2%0D%0Ahi%0D%0A\n")
    ∷ (
      action.Message (record { pattern = Some (value_of (bulk (codes "c*"))); channel = value_of (bulk (codes "c")); payload = value_of (int (pos 1)) }),
      codes "message $2%0D%0Ac*%0D%0A $1%0D%0Ac%0D%0A :1%0D%0A\n",
    )
    ∷ (action.Monitor (value_of okay), codes "monitor +OK%0D%0A\n")
    ∷ (action.Outcome 2 (outcome.One Okay), codes "outcome s2 ok +OK%0D%0A\n")
    ∷ (action.Outcome 2 (outcome.Many (okay ∷ int (pos 1) ∷ [])), codes "outcome s2 many *2%0D%0A+OK%0D%0A:1%0D%0A\n")
    ∷ (action.Outcome 2 outcome.Done, codes "outcome s2 done\n")
    ∷ (action.Outcome 2 (outcome.Fault error.Closed), codes "outcome s2 err closed\n")
    ∷ []

-- what a line tells in a session of this kind, if it tells an event
abbrev pub event_told : SessionKind × List ℕ → Option Event
event_told asked = option_and_then (event_of asked.0) (words_of_line asked.1)

abbrev happens : EventKind → Option Event
happens what = Some (record { word = 0; kind = what })

abbrev submits : Submission → Option Event
submits what = happens (event.Submit what)

-- lines that hand something in: words are escaped, `;` stands between commands, and `%-` is an empty word
abbrev pub lines_of_submissions : List ((SessionKind × List ℕ) × Option Event)
lines_of_submissions =
    ((kind.Single, codes "submit cmd GET a"), submits (submission.Cmd (codes "GET" ∷ codes "a" ∷ [])))
    ∷ ((kind.Single, codes "submit cmd"), submits (submission.Cmd []))
    ∷ ((kind.Single, codes "submit cmd %-"), submits (submission.Cmd ([] ∷ [])))
    ∷ ((kind.Single, codes "submit cmd %41 %3b"), submits (submission.Cmd (codes "A" ∷ codes ";" ∷ [])))
    ∷ ((kind.Single, codes "submit cmd GET ; a"), None)
    ∷ ((kind.Single, codes "submit cmd %4"), None)
    ∷ ((kind.Single, codes "submit cmd  a"), None)
    ∷ ((kind.Manager true, codes "submit noreply GET a"), submits (submission.NoReply (codes "GET" ∷ codes "a" ∷ [])))
    ∷ ((kind.Single, codes "submit pipe GET a ; PING"), submits (submission.Pipe ((codes "GET" ∷ codes "a" ∷ []) ∷ (codes "PING" ∷ []) ∷ [])))
    ∷ ((kind.Single, codes "submit pipe"), submits (submission.Pipe []))
    ∷ ((kind.Single, codes "submit multi PING"), submits (submission.Multi ((codes "PING" ∷ []) ∷ [])))
    ∷ ((kind.Single, codes "submit packed 1 2 PING ; GET a"), submits (submission.Packed 1 2 ((codes "PING" ∷ []) ∷ (codes "GET" ∷ codes "a" ∷ []) ∷ [])))
    ∷ ((kind.Single, codes "submit subscribe c d"), submits (submission.Subscription Subscribe (codes "c" ∷ codes "d" ∷ [])))
    ∷ ((kind.PubSub, codes "submit punsubscribe"), submits (submission.Subscription PUnsubscribe []))
    ∷ ((kind.Single, codes "submit ssubscribe c"), None)
    ∷ ((kind.PubSub, codes "submit ping hi"), submits (submission.Ping (Some (codes "hi"))))
    ∷ ((kind.PubSub, codes "submit cmd GET a"), None)
    ∷ ((kind.Single, codes "submit ping"), None)
    ∷ ((kind.Monitor, codes "submit subscribe c"), None)
    ∷ []

abbrev of_user : Credentials
of_user = record { username = codes "u"; password = codes "p" }

-- lines of all else: a number has no sign and no leading zero, and its most; and a line may begin with the word of its draws
abbrev pub lines_of_events : List ((SessionKind × List ℕ) × Option Event)
lines_of_events =
    ((kind.Single, codes "cancel 3"), happens (event.Cancel 3))
    ∷ ((kind.Single, codes "connected 0"), happens (event.Connected 0))
    ∷ ((kind.Single, codes "refused 1 reset"), happens (event.Refused 1 Reset))
    ∷ ((kind.Single, codes "wrote 1 20"), happens (event.Wrote 1 20))
    ∷ ((kind.Single, codes "bytes 1 +x%0D%0A"), happens (event.Bytes 1 (codes "+x\r\n")))
    ∷ ((kind.Single, codes "ended 1"), happens (event.Ended 1))
    ∷ ((kind.Single, codes "read-fault 1 reset"), happens (event.ReadFault 1 Reset))
    ∷ ((kind.Single, codes "write-fault 1 broken-pipe"), happens (event.WriteFault 1 BrokenPipe))
    ∷ ((kind.Single, codes "fired 2"), happens (event.Fired 2))
    ∷ ((kind.Single, codes "creds 0 u p"), happens (event.Creds 0 of_user))
    ∷ ((kind.Single, codes "creds-err 0 no"), happens (event.CredsError 0 (codes "no")))
    ∷ ((kind.Single, codes "creds-end 0"), happens (event.CredsEnd 0))
    ∷ ((kind.Single, codes "timeout 7"), happens (event.Timeout (Some 7)))
    ∷ ((kind.Single, codes "timeout none"), happens (event.Timeout None))
    ∷ ((kind.PubSub, codes "drop-stream"), happens event.DropStream)
    ∷ ((kind.Monitor, codes "shutdown"), happens event.Shutdown)
    ∷ ((kind.Single, codes "@250 ended 1"), Some (record { word = 250; kind = event.Ended 1 }))
    ∷ ((kind.Single, codes "fired 4294967295"), happens (event.Fired 4_294_967_295))
    ∷ ((kind.Single, codes "fired 4294967296"), None)
    ∷ ((kind.Single, codes "wrote 0 4294967296"), happens (event.Wrote 0 4_294_967_296))
    ∷ ((kind.Single, codes "wrote 0 007"), None)
    ∷ ((kind.Single, codes "wrote 0 +7"), None)
    ∷ ((kind.Single, codes "wrote 0"), None)
    ∷ ((kind.Single, codes "ended 1 2"), None)
    ∷ ((kind.Single, codes "Ended 1"), None)
    ∷ ((kind.Single, codes "ended 1 @250"), None)
    ∷ ((kind.Single, codes "read-fault 1 lost"), None)
    ∷ ((kind.Single, codes "timeout"), None)
    ∷ []
