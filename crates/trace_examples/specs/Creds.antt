-- Traces of links whose credentials come of a source.
use Rattle.std.specs.Prelude.{ℕ, true, List, [], ◌∷◌, ◌++◌, Some, None, codes}
use Rattle.credentials.specs.Credentials.{Credentials}
use Rattle.redis_error.specs.declared.redis_error.RedisError.{RedisError}
use Rattle.redis_error.specs.declared.redis_error.RedisError.TheVariants as error
use Rattle.driver_model.specs.declared.action.Action.{Action}
use Rattle.driver_model.specs.declared.action.Action.TheVariants as action
use Rattle.driver_model.specs.declared.action.Owner.TheVariants as owner
use Rattle.driver_model.specs.declared.action.WaitKind.TheVariants as wait
use Rattle.driver_model.specs.declared.config.Config.{Config}
use Rattle.driver_model.specs.declared.config_words.ConnectionWords.{ConnectionWords}
use Rattle.driver_model.specs.declared.event.EventKind.TheVariants as event
use Rattle.driver_model.specs.Request.{packed_bytes}
use Rattle.trace_examples.specs.Parts.{behaving, patient, turn, command, okay_line, spoiled_behind}
use Rattle.trace_examples.specs.Setups.{unsaid}
use Rattle.trace_examples.specs.Traces.{opening}

-- credentials come of a source, and a request may take any time
abbrev pub of_sources : ConnectionWords
of_sources = record patient { creds = Some true }

-- and the library isn't named
abbrev pub sourced : Config
sourced = behaving of_sources

-- the user u and the password p, and the same said to a server, in 28 bytes
abbrev pub user_and_password : Credentials
user_and_password = record { username = codes "u"; password = codes "p" }

abbrev pub credentials_line : List ℕ
credentials_line = codes "*3\r\n$4\r\nAUTH\r\n$1\r\nu\r\n$1\r\np\r\n"

-- what a source says that can give none, and the error of an opening that it fails
abbrev pub no_credentials : List ℕ
no_credentials = codes "no"

abbrev pub source_error : RedisError
source_error = error.Credentials no_credentials

-- the link came up, and a source is asked for
abbrev pub needed : Config → ℕ → List Action
needed config word = unsaid config word ++ action.NeedCreds 0 0 ∷ []

-- a command came
abbrev pub came_meanwhile : Config → ℕ → List Action
came_meanwhile config word = needed config word ++ turn 2 (event.Submit (command 71)) ∷ []

-- and waits for the credentials
abbrev pub waits_for_credentials : Config → ℕ → List Action
waits_for_credentials config word = came_meanwhile config word ++ action.Wait (owner.Try 0 0) wait.Creds ∷ []

-- they came, and are said in the setup, for which the command waits now
abbrev pub credentials_said : Config → ℕ → List Action
credentials_said config word =
    waits_for_credentials config word ++
    turn 3 (event.Creds 0 user_and_password) ∷ action.Start 0 0 owner.Setup 1 28 ∷ action.Write 0 credentials_line ∷
    action.Wait (owner.Try 0 0) wait.Setup ∷ []

-- the server takes them, the creation is shown, and a second source is asked for
abbrev pub credentials_taken : Config → ℕ → List Action
credentials_taken config word =
    credentials_said config word ++
    turn 4 (event.Wrote 0 28) ∷ turn 5 (event.Bytes 0 okay_line) ∷ action.Created None ∷ action.NeedCreds 1 0 ∷ []

-- the command started behind it
abbrev pub started_behind : Config → ℕ → List Action
started_behind config word = credentials_taken config word ++ action.Start 0 1 (owner.Try 0 0) 1 11 ∷ action.Write 0 (packed_bytes (command 71)) ∷ []

-- or the source ended before it gave any
abbrev pub deserted_first : Config → ℕ → List Action
deserted_first config word = needed config word ++ turn 2 (event.CredsEnd 0) ∷ []

-- or it could give none, and says why, while a command waits
abbrev pub denied_first : Config → ℕ → List Action
denied_first config word = waits_for_credentials config word ++ turn 3 (event.CredsError 0 no_credentials) ∷ []

-- and the link was closed
abbrev pub closed_by_denial : Config → ℕ → List Action
closed_by_denial config word = denied_first config word ++ action.Close 0 ∷ []

-- or a reply came that nothing asked for, and then a byte that begins no value
abbrev pub spoiled_meanwhile : Config → ℕ → List Action
spoiled_meanwhile config word = needed config word ++ turn 2 (event.Bytes 0 okay_line) ∷ turn 3 (event.Bytes 0 spoiled_behind) ∷ []

-- the fronts of the traces that are refused for what comes next
abbrev pub source_fronts : ℕ → List (List Action)
source_fronts word =
    opening sourced word ∷ unsaid sourced word ∷ needed sourced word ∷ came_meanwhile sourced word ∷ deserted_first sourced word ∷
    closed_by_denial sourced word ∷ credentials_taken sourced word ∷ []
