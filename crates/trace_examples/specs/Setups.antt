-- Traces of links that are set up before the first request.
use Rattle.std.specs.Prelude.{ℕ, Bool, false, List, [], ◌∷◌, ◌++◌, Option, Some, None, codes}
use Rattle.redis_error.specs.declared.fault_kind.FaultKind.TheVariants.{Reset}
use Rattle.redis_error.specs.declared.redis_error.RedisError.{RedisError}
use Rattle.redis_error.specs.declared.redis_error.RedisError.TheVariants as error
use Rattle.driver_model.specs.declared.action.Action.{Action}
use Rattle.driver_model.specs.declared.action.Action.TheVariants as action
use Rattle.driver_model.specs.declared.action.Owner.TheVariants as owner
use Rattle.driver_model.specs.declared.action.Purpose.TheVariants as purpose
use Rattle.driver_model.specs.declared.action.WaitKind.TheVariants as wait
use Rattle.driver_model.specs.declared.config.Config.{Config}
use Rattle.driver_model.specs.Config.{no_words}
use Rattle.driver_model.specs.declared.event.EventKind.TheVariants as event
use Rattle.trace_examples.specs.Parts.{single_to, patient, turn, command, okay_line}
use Rattle.trace_examples.specs.Traces.{opening, in_wait}

-- a server of this URL, how long a connect may take, and whether the library is named to it, if that is said
abbrev pub told_at : List ℕ → Option (Option ℕ) → Option Bool → Config
told_at url connect lib = single_to url lib (record patient { connect = connect })

-- the password pw, and nothing else; and the same where a connect may take 1,000 milliseconds
abbrev pub secured : Config
secured = told_at (codes "redis://:pw@h:6379") (Some None) (Some false)

abbrev pub secured_in_time : Config
secured_in_time = told_at (codes "redis://:pw@h:6379") None (Some false)

-- the user u and the password pw
abbrev pub of_a_user : Config
of_a_user = told_at (codes "redis://u:pw@h:6379") (Some None) (Some false)

-- nothing said but the address: the library is named
abbrev pub of_a_library : Config
of_a_library = told_at (codes "redis://h:6379") (Some None) None

-- the same, and nothing is said of times either: a connect may take 1,000 milliseconds, and a request 500
abbrev pub by_default : Config
by_default = single_to (codes "redis://h:6379") None no_words

-- the user u and the password pw, on a link on which nothing starts while bytes are unwritten
abbrev pub of_a_held_user : Config
of_a_held_user = single_to (codes "redis://u:pw@h:6379") (Some false) (record patient { boundary = Some 0 })

-- a password, a database, the third protocol, and the library's name
abbrev pub of_all : Config
of_all = told_at (codes "redis://:p@h:6379/2?protocol=3") (Some None) None

-- the setup with the password alone, of 22 bytes, and with the user name, of 29
abbrev pub password_line : List ℕ
password_line = codes "*2\r\n$4\r\nAUTH\r\n$2\r\npw\r\n"

abbrev pub user_line : List ℕ
user_line = codes "*3\r\n$4\r\nAUTH\r\n$1\r\nu\r\n$2\r\npw\r\n"

-- the library's name and version, of 110 bytes
abbrev pub library_lines : List ℕ
library_lines = codes "*4\r\n$6\r\nCLIENT\r\n$7\r\nSETINFO\r\n$8\r\nLIB-NAME\r\n$8\r\nredis-rs\r\n*4\r\n$6\r\nCLIENT\r\n$7\r\nSETINFO\r\n$7\r\nLIB-VER\r\n$5\r\n1.7.0\r\n"

-- the password with the third protocol, and the database, of 75 bytes, and then the library
abbrev pub all_lines : List ℕ
all_lines = codes "*5\r\n$5\r\nHELLO\r\n$1\r\n3\r\n$4\r\nAUTH\r\n$7\r\ndefault\r\n$1\r\np\r\n*2\r\n$6\r\nSELECT\r\n$1\r\n2\r\n" ++ library_lines

-- the replies to these
abbrev pub all_well : List ℕ
all_well = codes "%1\r\n$5\r\nproto\r\n:3\r\n+OK\r\n+OK\r\n+OK\r\n"

-- the server refuses the password, and what that is
abbrev pub wrong_password : List ℕ
wrong_password = codes "-WRONGPASS no\r\n"

abbrev pub refusal : RedisError
refusal = error.AuthFailed (codes "WRONGPASS no")

-- it counts other arguments
abbrev pub other_arguments : List ℕ
other_arguments = codes "-ERR wrong number of arguments for 'auth' command\r\n"

-- it knows no such command
abbrev pub unknown_command : List ℕ
unknown_command = codes "-ERR unknown command\r\n"

-- the link came up, and nothing was said
abbrev pub unsaid : Config → ℕ → List Action
unsaid config word = opening config word ++ turn 1 (event.Connected 0) ∷ []

-- its setup started, of that need and length
abbrev pub setup_begun : Config → ℕ → ℕ → ℕ → List Action
setup_begun config word need len = unsaid config word ++ action.Start 0 0 owner.Setup need len ∷ []

-- and its bytes were offered
abbrev pub setup_sent : Config → ℕ → ℕ → ℕ → List ℕ → List Action
setup_sent config word need len bytes = setup_begun config word need len ++ action.Write 0 bytes ∷ []

-- the setup with the password
abbrev pub secret_sent : Config → ℕ → List Action
secret_sent config word = setup_sent config word 1 22 password_line

-- a command came
abbrev pub came_during : Config → ℕ → List Action
came_during config word = secret_sent config word ++ turn 2 (event.Submit (command 71)) ∷ []

-- and waits for the setup
abbrev pub waits_during : Config → ℕ → List Action
waits_during config word = came_during config word ++ action.Wait (owner.Try 0 0) wait.Setup ∷ []

-- the setup was taken
abbrev pub taken_during : Config → ℕ → List Action
taken_during config word = waits_during config word ++ turn 3 (event.Wrote 0 22) ∷ []

-- and its reply came, which is well
abbrev pub answered_well : Config → ℕ → List Action
answered_well config word = taken_during config word ++ turn 4 (event.Bytes 0 okay_line) ∷ []

-- and the creation was shown
abbrev pub set_up : Config → ℕ → List Action
set_up config word = answered_well config word ++ action.Created None ∷ []

-- or the password is refused
abbrev pub password_refused : Config → ℕ → List Action
password_refused config word = waits_during config word ++ turn 3 (event.Bytes 0 wrong_password) ∷ []

-- and the link was closed
abbrev pub closed_by_refusal : Config → ℕ → List Action
closed_by_refusal config word = password_refused config word ++ action.Close 0 ∷ []

-- and this was shown
abbrev pub refusal_told : Config → ℕ → List Action
refusal_told config word = closed_by_refusal config word ++ action.Created (Some refusal) ∷ []

-- the setup with the user name was taken, and the server counts other arguments
abbrev pub counted_otherwise : Config → ℕ → List Action
counted_otherwise config word =
    setup_sent config word 1 29 user_line ++
    turn 2 (event.Wrote 0 29) ∷ turn 3 (event.Bytes 0 other_arguments) ∷ []

-- it started again, without the user name
abbrev pub said_again : Config → ℕ → List Action
said_again config word = counted_otherwise config word ++ action.Start 0 1 owner.Setup 1 22 ∷ action.Write 0 password_line ∷ []

-- the server counts other arguments before the setup was taken
abbrev pub counted_early : Config → ℕ → List Action
counted_early config word = setup_sent config word 1 29 user_line ++ turn 2 (event.Bytes 0 other_arguments) ∷ []

-- it was taken, and started again
abbrev pub said_later : Config → ℕ → List Action
said_later config word =
    counted_early config word ++
    turn 3 (event.Wrote 0 29) ∷ action.Start 0 1 owner.Setup 1 22 ∷ action.Write 0 password_line ∷ []

-- the library's name and version were said while the time of the connect runs, and both are well
abbrev pub named_in_time : Config → ℕ → List Action
named_in_time config word =
    opening config word ++
    action.Timer 0 1000 (purpose.Connect 0) ∷ turn 1 (event.Connected 0) ∷
    action.Start 0 0 owner.Setup 2 110 ∷ action.Write 0 library_lines ∷
    turn 2 (event.Bytes 0 okay_line) ∷ turn 3 (event.Bytes 0 okay_line) ∷ action.Created None ∷ []

-- the replies to the library's name and version came, one after another, the first of them an error
abbrev pub library_said : Config → ℕ → List Action
library_said config word =
    setup_sent config word 2 110 library_lines ++
    turn 2 (event.Bytes 0 unknown_command) ∷ turn 3 (event.Bytes 0 okay_line) ∷ []

-- all is said, and all replies came
abbrev pub all_said : Config → ℕ → List Action
all_said config word = setup_sent config word 4 185 all_lines ++ turn 2 (event.Bytes 0 all_well) ∷ []

-- a read from the link failed while a command waits
abbrev pub cut_off_during : Config → ℕ → List Action
cut_off_during config word = waits_during config word ++ turn 3 (event.ReadFault 0 Reset) ∷ []

-- or everything is shut down
abbrev pub shut_during : Config → ℕ → List Action
shut_during config word = waits_during config word ++ turn 3 event.Shutdown ∷ []

-- the time of the connect is over while the setup isn't answered
abbrev pub overdue_during : Config → ℕ → List Action
overdue_during config word =
    opening config word ++
    action.Timer 0 1000 (purpose.Connect 0) ∷ turn 1 (event.Connected 0) ∷
    action.Start 0 0 owner.Setup 1 22 ∷ action.Write 0 password_line ∷ turn 2 (event.Fired 0) ∷ []

-- a command waited for the connect, and then for the setup
abbrev pub waited_for_both : Config → ℕ → List Action
waited_for_both config word =
    in_wait config word (command 71) ++
    turn 2 (event.Connected 0) ∷ action.Start 0 0 owner.Setup 1 22 ∷ action.Write 0 password_line ∷ []

-- the fronts of the traces that are refused for what comes next
abbrev pub setup_fronts : ℕ → List (List Action)
setup_fronts word =
    unsaid secured word ∷ setup_begun secured word 1 22 ∷ secret_sent secured word ∷ came_during secured word ∷
    answered_well secured word ∷ set_up secured word ∷ password_refused secured word ∷ closed_by_refusal secured word ∷
    refusal_told secured word ∷ counted_otherwise of_a_user word ∷ said_again of_a_user word ∷ waited_for_both secured word ∷
    counted_early of_a_held_user word ∷ []
