-- What messages take, and what their items come to.
use Rattle.std.specs.Prelude.{ℕ, Bool, true, false, List, [], ◌∷◌, map, Option, Some, None, codes}
use Rattle.resp_value.specs.declared.server_error.ServerError.{ServerError}
use Rattle.resp_value.specs.Data.{Data, array, error, items_of, nil, okay, simple}
use Rattle.resp_write.specs.declared.subscription.SubscriptionAction.TheVariants.{Subscribe}
use Rattle.redis_error.specs.declared.fault_kind.FaultKind.TheVariants.{Refused, Reset, TimedOut}
use Rattle.redis_error.specs.declared.redis_error.RedisError.{RedisError}
use Rattle.redis_error.specs.declared.redis_error.RedisError.TheVariants as reason
use Rattle.driver_model.specs.declared.news.LinkFault.TheVariants as fault
use Rattle.driver_model.specs.declared.event.Submission.{Submission}
use Rattle.driver_model.specs.declared.event.Submission.TheVariants as submission
use Rattle.driver_model.specs.declared.outcome.Shape.{Shape}
use Rattle.driver_model.specs.declared.outcome.Shape.TheVariants.{Single, Pipeline, Confirmation}
use Rattle.driver_model.specs.declared.outcome.Verdict.{Verdict}
use Rattle.driver_model.specs.Request.{shape_of}
use Rattle.driver_model.specs.Shape.{need_of, permits_for, verdict_of}
use Rattle.legal_trace.specs.Ledger.{End, Ending, by_fault, by_opening}
use Rattle.legal_trace.specs.Owed.{cut_off}

-- GET of the key k
abbrev pub get : List (List ℕ)
get = codes "GET" ∷ codes "k" ∷ []

-- a command, one without a reply, pipelines of none, of two and of five, transactions of one and of two, a pipeline of four of which
-- the replies to the first two are skipped, and a subscription call
abbrev pub requests : List Submission
requests =
    submission.Cmd get
    ∷ submission.NoReply get
    ∷ submission.Pipe []
    ∷ submission.Pipe (get ∷ get ∷ [])
    ∷ submission.Pipe (get ∷ get ∷ get ∷ get ∷ get ∷ [])
    ∷ submission.Multi (get ∷ [])
    ∷ submission.Multi (get ∷ get ∷ [])
    ∷ submission.Packed 2 2 (get ∷ get ∷ get ∷ get ∷ [])
    ∷ submission.Subscription Subscribe (codes "c" ∷ [])
    ∷ []

-- how many items each takes, and how many permits of three
abbrev pub items_of_each : List Submission → List ℕ
items_of_each whats = map (λ what. need_of (shape_of what)) whats

abbrev pub permits_of_each : List Submission → List ℕ
permits_of_each whats = map (λ what. permits_for (shape_of what) 3) whats

-- the items that come for a transaction of two commands come to this
abbrev pub of_transaction : List Data → Verdict
of_transaction items = verdict_of (shape_of (submission.Multi (get ∷ get ∷ []))) items

-- an error of a server by its code alone
abbrev pub by_code : List ℕ → ServerError
by_code code = record { code = code; detail = None }

-- what is answered where a command is queued, and to EXEC behind one that wasn't
abbrev pub queued : Data
queued = simple (codes "QUEUED")

abbrev pub aborted : Data
aborted = error (by_code (codes "EXECABORT"))

-- a link has ended so, and its message 2 was the oldest with an open need
abbrev pub cut_by : Ending → End
cut_by why = record { turn = 5; why = why; oldest = 2; served = true }

-- a single command, a subscription call, and pipelines
abbrev pub shapes : List Shape
shapes = Single ∷ Confirmation ∷ Pipeline 0 1 false ∷ Pipeline 2 1 true ∷ []

-- what each is answered with as the oldest message, and as the one behind it
abbrev pub oldest_by : Ending → List RedisError
oldest_by why = map (cut_off (cut_by why) 2) shapes

abbrev pub next_by : Ending → List RedisError
next_by why = map (cut_off (cut_by why) 3) shapes

-- the opening of a link failed, or it ended once it served
abbrev pub failed_by : Option End
failed_by = Some (cut_by (by_opening (reason.Io TimedOut)))

abbrev pub served_by : Option End
served_by = Some (cut_by (by_fault fault.Ended))

-- errors of requests
abbrev pub causes : List RedisError
causes =
    reason.Io TimedOut
    ∷ reason.Io Refused
    ∷ reason.Io Reset
    ∷ reason.AuthFailed (codes "WRONGPASS")
    ∷ reason.Closed
    ∷ reason.Server (by_code (codes "ERR"))
    ∷ reason.EmptyCommand
    ∷ []
