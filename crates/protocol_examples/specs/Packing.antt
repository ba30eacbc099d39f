-- The bytes of commands, pipelines and transactions.
use Rattle.std.specs.Prelude.{ℕ, Bool, true, false, List, [], ◌∷◌, Some, None, codes}
use Rattle.resp_write.specs.Command.{CommandList}
use Rattle.resp_write.specs.Pack.{commands_of}
use Rattle.resp_write.specs.declared.subscription.SubscriptionAction.TheVariants.{Subscribe, Unsubscribe, PSubscribe, PUnsubscribe, SSubscribe, Sunsubscribe}
use Rattle.driver_model.specs.declared.event.Submission.{Submission}
use Rattle.driver_model.specs.declared.event.Submission.TheVariants as submission

-- the arguments of a command, and its bytes
abbrev pub packed_commands : List (List (List ℕ) × List ℕ)
packed_commands =
    (codes "LLEN" ∷ codes "mylist" ∷ [], codes "*2\r\n$4\r\nLLEN\r\n$6\r\nmylist\r\n")
    ∷ (codes "PING" ∷ [], codes "*1\r\n$4\r\nPING\r\n")
    ∷ (codes "SET" ∷ codes "a\r\nb" ∷ [] ∷ [], codes "*3\r\n$3\r\nSET\r\n$4\r\na\r\nb\r\n$0\r\n\r\n")
    ∷ (codes "ECHO" ∷ codes "a text of 21 bytes..." ∷ [], codes "*2\r\n$4\r\nECHO\r\n$21\r\na text of 21 bytes...\r\n")
    ∷ ([], [])
    ∷ []

-- these commands, as a transaction or not
abbrev pub pipeline : Bool → List (List (List ℕ)) → CommandList
pipeline atomic commands = record { commands = commands_of commands; ignored = []; atomic = atomic }

-- SET key 5 and INCR key
abbrev pub set_then_count : List (List (List ℕ))
set_then_count = (codes "SET" ∷ codes "key" ∷ codes "5" ∷ []) ∷ (codes "INCR" ∷ codes "key" ∷ []) ∷ []

-- a pipeline, and its bytes
abbrev pub packed_pipelines : List (CommandList × List ℕ)
packed_pipelines =
    (pipeline false set_then_count, codes "*3\r\n$3\r\nSET\r\n$3\r\nkey\r\n$1\r\n5\r\n*2\r\n$4\r\nINCR\r\n$3\r\nkey\r\n")
    ∷ (pipeline true set_then_count, codes "*1\r\n$5\r\nMULTI\r\n*3\r\n$3\r\nSET\r\n$3\r\nkey\r\n$1\r\n5\r\n*2\r\n$4\r\nINCR\r\n$3\r\nkey\r\n*1\r\n$4\r\nEXEC\r\n")
    ∷ (pipeline false [], [])
    ∷ (pipeline true [], [])
    ∷ []

-- what is submitted, and its bytes: a list of commands is no transaction but where it is one, also where some replies are skipped; a
-- subscription call is one command with all its names
abbrev pub packed_submissions : List (Submission × List ℕ)
packed_submissions =
    (submission.Cmd (codes "GET" ∷ codes "k" ∷ []), codes "*2\r\n$3\r\nGET\r\n$1\r\nk\r\n")
    ∷ (submission.NoReply (codes "GET" ∷ codes "k" ∷ []), codes "*2\r\n$3\r\nGET\r\n$1\r\nk\r\n")
    ∷ (submission.Pipe set_then_count, codes "*3\r\n$3\r\nSET\r\n$3\r\nkey\r\n$1\r\n5\r\n*2\r\n$4\r\nINCR\r\n$3\r\nkey\r\n")
    ∷ (submission.Multi set_then_count, codes "*1\r\n$5\r\nMULTI\r\n*3\r\n$3\r\nSET\r\n$3\r\nkey\r\n$1\r\n5\r\n*2\r\n$4\r\nINCR\r\n$3\r\nkey\r\n*1\r\n$4\r\nEXEC\r\n")
    ∷ (submission.Packed 1 1 set_then_count, codes "*3\r\n$3\r\nSET\r\n$3\r\nkey\r\n$1\r\n5\r\n*2\r\n$4\r\nINCR\r\n$3\r\nkey\r\n")
    ∷ (submission.Subscription Subscribe (codes "c" ∷ codes "d" ∷ []), codes "*3\r\n$9\r\nSUBSCRIBE\r\n$1\r\nc\r\n$1\r\nd\r\n")
    ∷ (submission.Subscription Unsubscribe [], codes "*1\r\n$11\r\nUNSUBSCRIBE\r\n")
    ∷ (submission.Subscription PSubscribe (codes "c*" ∷ []), codes "*2\r\n$10\r\nPSUBSCRIBE\r\n$2\r\nc*\r\n")
    ∷ (submission.Subscription PUnsubscribe (codes "c*" ∷ []), codes "*2\r\n$12\r\nPUNSUBSCRIBE\r\n$2\r\nc*\r\n")
    ∷ (submission.Subscription SSubscribe (codes "s" ∷ []), codes "*2\r\n$10\r\nSSUBSCRIBE\r\n$1\r\ns\r\n")
    ∷ (submission.Subscription Sunsubscribe (codes "s" ∷ []), codes "*2\r\n$12\r\nSUNSUBSCRIBE\r\n$1\r\ns\r\n")
    ∷ (submission.Ping None, codes "*1\r\n$4\r\nPING\r\n")
    ∷ (submission.Ping (Some (codes "hi")), codes "*2\r\n$4\r\nPING\r\n$2\r\nhi\r\n")
    ∷ []
