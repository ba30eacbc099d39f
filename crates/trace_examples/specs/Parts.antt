-- What the traces are made of: configurations, turns, submissions, the bytes of replies, and outcomes. The commands have one word, G or H, of 11 bytes when packed.
use Rattle.std.specs.Prelude.{ℕ, Bool, false, List, [], ◌∷◌, Option, Some, None, codes}
use Rattle.resp_value.specs.declared.server_error.ServerError.{ServerError}
use Rattle.resp_value.specs.Data.{simple}
use Rattle.resp_value.specs.View.{value_of}
use Rattle.driver_model.specs.declared.action.Action.{Action}
use Rattle.driver_model.specs.declared.action.Action.TheVariants as action
use Rattle.driver_model.specs.declared.action.Cause.TheVariants as cause
use Rattle.driver_model.specs.declared.config.Config.{Config}
use Rattle.driver_model.specs.declared.config.Config.TheVariants as variant
use Rattle.driver_model.specs.declared.config_words.ConnectionWords.{ConnectionWords}
use Rattle.driver_model.specs.Config.{no_words}
use Rattle.driver_model.specs.declared.event.Event.{Event}
use Rattle.driver_model.specs.declared.event.EventKind.{EventKind}
use Rattle.driver_model.specs.declared.event.Submission.{Submission}
use Rattle.driver_model.specs.declared.event.Submission.TheVariants as submission
use Rattle.driver_model.specs.declared.outcome.Outcome.{Outcome}
use Rattle.driver_model.specs.declared.outcome.Outcome.TheVariants as outcome

-- a multiplexed connection to the server of this URL: whether the library is named to it, if that is said, and how it behaves
abbrev pub single_to : List ℕ → Option Bool → ConnectionWords → Config
single_to url lib words = variant.Single (record { url = url; lib = lib }) words

-- one to the server at h:6379, to which nothing is to be said, that behaves so
abbrev pub behaving : ConnectionWords → Config
behaving words = single_to (codes "redis://h:6379") (Some false) words

-- a connect and a request may take any time
abbrev pub patient : ConnectionWords
patient = record no_words { connect = Some None; response = Some None }

-- the server at h:6379, to which nothing is to be said, and what is said of the time of a connect; a request may take any time,
-- and permits aren't counted
abbrev pub at_server : Option (Option ℕ) → Config
at_server connect = behaving (record patient { connect = connect })

-- a connect that may take any time, and one that may take what it may where nothing is said: 1,000 milliseconds
abbrev pub unbounded : Config
unbounded = at_server (Some None)

abbrev pub bounded : Config
bounded = at_server None

-- a connect that may take any time, and a link whose queue holds that many messages, and on which none starts while bytes are
-- unwritten and as many as that bound
abbrev pub held_at : ℕ → ℕ → Config
held_at bound size = behaving (record patient { buffer = Some size; boundary = Some bound })

-- a connect that may take any time, so many permits, and so many milliseconds within which a request is to be answered, if
-- within any
abbrev pub limited_to : ℕ → Option ℕ → Config
limited_to limit ms = behaving (record patient { response = Some ms; limit = Some limit })

-- nothing said but the address, and that the library isn't named: a connect may take 1,000 milliseconds, and a request 500
abbrev pub plain : Config
plain = behaving no_words

-- a link whose queue holds one message, and on which none starts while bytes are unwritten, and so many milliseconds for a
-- request
abbrev pub held_for : ℕ → Config
held_for ms = behaving (record patient { response = Some (Some ms); buffer = Some 1; boundary = Some 0 })

-- these events, one after another
abbrev pub history : List EventKind → List Event
history [] = []
history (kind ∷ more) = record { word = 0; kind = kind } ∷ history more

-- a turn of this event
abbrev pub turn : ℕ → EventKind → Action
turn k kind = action.Turn k (cause.Event (record { word = 0; kind = kind }))

-- a command of one word, and the same where nobody awaits its reply
abbrev pub command : ℕ → Submission
command letter = submission.Cmd ((letter ∷ []) ∷ [])

abbrev pub unawaited : ℕ → Submission
unawaited letter = submission.NoReply ((letter ∷ []) ∷ [])

-- G and H, sent together
abbrev pub two_together : Submission
two_together = submission.Pipe (((71 ∷ []) ∷ []) ∷ ((72 ∷ []) ∷ []) ∷ [])

-- G as a transaction: 40 bytes with MULTI and EXEC
abbrev pub one_atomic : Submission
one_atomic = submission.Multi (((71 ∷ []) ∷ []) ∷ [])

-- G, where one reply is skipped and no further one is kept
abbrev pub one_skipped : Submission
one_skipped = submission.Packed 1 0 (((71 ∷ []) ∷ []) ∷ [])

-- one command without words in a list, in each of the three ways
abbrev pub one_nameless : Submission
one_nameless = submission.Pipe ([] ∷ [])

abbrev pub nameless_atomic : Submission
nameless_atomic = submission.Multi ([] ∷ [])

abbrev pub nameless_skipped : ℕ → ℕ → Submission
nameless_skipped offset count = submission.Packed offset count ([] ∷ [])

-- the reply of one letter as an outcome
abbrev pub reply : ℕ → Outcome
reply letter = outcome.One (value_of (simple (letter ∷ [])))

-- the error ERR, with nothing behind it
abbrev pub an_error : ServerError
an_error = record { code = codes "ERR"; detail = None }

-- a first reply, or it and then +y, or it twice
abbrev pub one_reply : List ℕ
one_reply = codes "+x\r\n"

abbrev pub replies : List ℕ
replies = codes "+x\r\n+y\r\n"

abbrev pub replies_alike : List ℕ
replies_alike = codes "+x\r\n+x\r\n"

-- the first reply, and the front of another
abbrev pub a_reply_and_more : List ℕ
a_reply_and_more = codes "+x\r\n+"

-- the first reply, and then a byte that begins no value
abbrev pub spoiled_behind : List ℕ
spoiled_behind = codes "+x\r\n?"

-- what a server says where all is well
abbrev pub okay_line : List ℕ
okay_line = codes "+OK\r\n"

-- a push without reply
abbrev pub a_push : List ℕ
a_push = codes ">1\r\n+x\r\n"

-- +OK to MULTI, an error to the command of a transaction, and another to EXEC
abbrev pub refusals : List ℕ
refusals = codes "+OK\r\n-ERR\r\n-EXECABORT\r\n"

-- an error to MULTI, and +OK to the command behind it, which was executed by itself
abbrev pub multi_refused : List ℕ
multi_refused = codes "-ERR\r\n+OK\r\n"

-- an error to EXEC
abbrev pub exec_refused : List ℕ
exec_refused = codes "-EXECABORT\r\n"

-- +OK to MULTI, +QUEUED to the command of a transaction, and an array of :1 to EXEC
abbrev pub executed : List ℕ
executed = codes "+OK\r\n+QUEUED\r\n*1\r\n:1\r\n"
