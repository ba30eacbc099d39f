-- Traces of links to whose servers new credentials are told.
use Rattle.std.specs.Prelude.{ℕ, List, [], ◌∷◌, ◌++◌, Some, None, codes}
use Rattle.credentials.specs.Credentials.{Credentials}
use Rattle.resp_value.specs.declared.value.Value.TheVariants.{Nil}
use Rattle.driver_model.specs.declared.action.Action.{Action}
use Rattle.driver_model.specs.declared.action.Action.TheVariants as action
use Rattle.driver_model.specs.declared.action.Owner.TheVariants as owner
use Rattle.driver_model.specs.declared.action.Purpose.TheVariants as purpose
use Rattle.driver_model.specs.declared.action.WaitKind.TheVariants as wait
use Rattle.driver_model.specs.declared.config.Config.{Config}
use Rattle.driver_model.specs.declared.event.EventKind.{EventKind}
use Rattle.driver_model.specs.declared.event.EventKind.TheVariants as event
use Rattle.driver_model.specs.declared.outcome.Outcome.TheVariants as outcome
use Rattle.driver_model.specs.Request.{packed_bytes}
use Rattle.trace_examples.specs.Parts.{behaving, turn, command, unawaited, okay_line}
use Rattle.trace_examples.specs.Setups.{wrong_password}
use Rattle.trace_examples.specs.Creds.{of_sources, sourced, user_and_password, credentials_line, needed}

-- credentials come of sources, and what the driver says itself, as a request, is to be answered within 100 milliseconds
abbrev pub sourced_in_time : Config
sourced_in_time = behaving (record of_sources { response = Some (Some 100) })

-- they come on a link that any unwritten byte holds back, and whose queue holds one message
abbrev pub sourced_at_a_time : Config
sourced_at_a_time = behaving (record of_sources { buffer = Some 1; boundary = Some 0 })

-- they come on a link that any unwritten byte holds back
abbrev pub sourced_one_by_one : Config
sourced_one_by_one = behaving (record of_sources { boundary = Some 0 })

-- the user u with a password of one letter, q or r, and the same told to a server, in 28 bytes
abbrev pub of_letter : ℕ → Credentials
of_letter letter = record { username = codes "u"; password = letter ∷ [] }

abbrev pub line_of : ℕ → List ℕ
line_of letter = codes "*3\r\n$4\r\nAUTH\r\n$1\r\nu\r\n$1\r\n" ++ letter ∷ codes "\r\n"

-- the link was set up with its first credentials, and the creation was shown
abbrev pub first_taken : Config → ℕ → List Action
first_taken config word =
    needed config word ++
    turn 2 (event.Creds 0 user_and_password) ∷ action.Start 0 0 owner.Setup 1 28 ∷ action.Write 0 credentials_line ∷
    turn 3 (event.Wrote 0 28) ∷ turn 4 (event.Bytes 0 okay_line) ∷ []

-- and a second source is asked for
abbrev pub needed_again : Config → ℕ → List Action
needed_again config word = first_taken config word ++ action.Created None ∷ action.NeedCreds 1 0 ∷ []

-- new credentials came
abbrev pub renewal_came : Config → ℕ → List Action
renewal_came config word = needed_again config word ++ turn 5 (event.Creds 1 (of_letter 113)) ∷ []

-- and are told
abbrev pub renewal_told : Config → ℕ → List Action
renewal_told config word = renewal_came config word ++ action.Start 0 1 owner.Auth 1 28 ∷ action.Write 0 (line_of 113) ∷ []

-- others came before these were answered
abbrev pub second_came : Config → ℕ → List Action
second_came config word = renewal_told config word ++ turn 6 (event.Creds 1 (of_letter 114)) ∷ []

-- the server takes the first of them
abbrev pub renewal_taken : Config → ℕ → List Action
renewal_taken config word = second_came config word ++ turn 7 (event.Wrote 0 28) ∷ turn 8 (event.Bytes 0 okay_line) ∷ []

-- or refuses them
abbrev pub renewal_refused : Config → ℕ → List Action
renewal_refused config word = second_came config word ++ turn 7 (event.Wrote 0 28) ∷ turn 8 (event.Bytes 0 wrong_password) ∷ []

-- a command came while they were refused
abbrev pub asked_behind : Config → ℕ → List Action
asked_behind config word =
    renewal_refused config word ++
    turn 9 (event.Submit (command 71)) ∷ action.Start 0 2 (owner.Try 0 0) 1 11 ∷ action.Write 0 (packed_bytes (command 71)) ∷
    turn 10 (event.Wrote 0 11) ∷ turn 11 (event.Bytes 0 okay_line) ∷ []

-- a command started behind new credentials, and one reply came
abbrev pub one_answered : Config → ℕ → List Action
one_answered config word =
    renewal_told config word ++
    turn 6 (event.Submit (command 71)) ∷ action.Start 0 2 (owner.Try 0 0) 1 11 ∷
    turn 7 (event.Wrote 0 28) ∷ action.Write 0 (packed_bytes (command 71)) ∷ turn 8 (event.Bytes 0 okay_line) ∷ []

-- new credentials are told within a time, which is over before they are answered; they are, and others came
abbrev pub answered_late : Config → ℕ → List Action
answered_late config word =
    renewal_came config word ++
    action.Timer 0 100 (purpose.Renewal 0 0) ∷ action.Start 0 1 owner.Auth 1 28 ∷ action.Write 0 (line_of 113) ∷
    turn 6 (event.Wrote 0 28) ∷ turn 7 (event.Fired 0) ∷ turn 8 (event.Bytes 0 okay_line) ∷ turn 9 (event.Creds 1 (of_letter 114)) ∷ []

-- the timer is asked for, and they are answered before it fires
abbrev pub answered_in_time : Config → ℕ → List Action
answered_in_time config word =
    renewal_came config word ++
    action.Timer 0 100 (purpose.Renewal 0 0) ∷ action.Start 0 1 owner.Auth 1 28 ∷ action.Write 0 (line_of 113) ∷
    turn 6 (event.Wrote 0 28) ∷ turn 7 (event.Bytes 0 okay_line) ∷ turn 8 (event.Fired 0) ∷ turn 9 (event.Creds 1 (of_letter 114)) ∷ []

-- a command holds its link back
abbrev pub held_by_one : Config → ℕ → List Action
held_by_one config word =
    needed_again config word ++
    turn 5 (event.Submit (command 71)) ∷ action.Start 0 1 (owner.Try 0 0) 1 11 ∷ action.Write 0 (packed_bytes (command 71)) ∷ []

-- a second one has its place, and then new credentials came; a third one has one behind them; the link takes bytes again
abbrev pub came_between : Config → ℕ → List Action
came_between config word =
    held_by_one config word ++
    turn 6 (event.Submit (command 72)) ∷ action.Wait (owner.Try 1 0) wait.Room ∷
    turn 7 (event.Creds 1 (of_letter 113)) ∷
    turn 8 (event.Submit (command 73)) ∷ action.Wait (owner.Try 2 0) wait.Room ∷ turn 9 (event.Wrote 0 11) ∷ []

-- the second one starts, and the link takes it
abbrev pub second_gone : Config → ℕ → List Action
second_gone config word =
    came_between config word ++
    action.Start 0 2 (owner.Try 1 0) 1 11 ∷ action.Write 0 (packed_bytes (command 72)) ∷ turn 10 (event.Wrote 0 11) ∷ []

-- or the reply of the second one isn't awaited, so that it is answered at its place
abbrev pub told_between : Config → ℕ → List Action
told_between config word =
    held_by_one config word ++
    turn 6 (event.Submit (unawaited 72)) ∷ action.Outcome 1 (outcome.One Nil) ∷
    turn 7 (event.Creds 1 (of_letter 113)) ∷ turn 8 (event.Wrote 0 11) ∷ []

-- a second one has the one place of the queue, and then new credentials came; a third one waits for a place
abbrev pub behind_a_full_queue : Config → ℕ → List Action
behind_a_full_queue config word =
    held_by_one config word ++
    turn 6 (event.Submit (command 72)) ∷ action.Wait (owner.Try 1 0) wait.Room ∷
    turn 7 (event.Creds 1 (of_letter 113)) ∷
    turn 8 (event.Submit (command 73)) ∷ action.Wait (owner.Try 2 0) wait.Place ∷ []

-- the link takes bytes again
abbrev pub let_go : Config → ℕ → List Action
let_go config word = behind_a_full_queue config word ++ turn 9 (event.Wrote 0 11) ∷ []

-- or new credentials came first, and then a second command
abbrev pub came_behind : Config → ℕ → List Action
came_behind config word = held_by_one config word ++ turn 6 (event.Creds 1 (of_letter 113)) ∷ turn 7 (event.Submit (command 72)) ∷ []

-- it waits for the place that they have, and the link takes bytes again
abbrev pub place_is_taken : Config → ℕ → List Action
place_is_taken config word = came_behind config word ++ action.Wait (owner.Try 1 0) wait.Place ∷ turn 8 (event.Wrote 0 11) ∷ []

-- the events by which a link is set up with its first credentials, and then these
abbrev pub once_set_up : List EventKind → List EventKind
once_set_up more = event.Connected 0 ∷ event.Creds 0 user_and_password ∷ event.Wrote 0 28 ∷ event.Bytes 0 okay_line ∷ more

-- the fronts of the traces that are refused for what comes next
abbrev pub renewal_fronts : ℕ → List (List Action)
renewal_fronts word =
    first_taken sourced word ∷ needed_again sourced word ∷ renewal_came sourced word ∷ renewal_came sourced_in_time word ∷
    second_came sourced word ∷ renewal_refused sourced word ∷ one_answered sourced word ∷ answered_late sourced_in_time word ∷
    came_between sourced_one_by_one word ∷ second_gone sourced_one_by_one word ∷ came_behind sourced_at_a_time word ∷ []
