-- How requests are tried again: waits, what follows the ends of rounds, and what is repaired.
use Rattle.std.specs.Prelude.{ℕ, ◌-◌, ◌^◌, pos, Bool, true, false, List, [], ◌∷◌, Some, codes}
use Rattle.slot_hash.specs.declared.address.NodeAddress.{NodeAddress}
use Rattle.resp_value.specs.declared.server_error.ServerError.{ServerError}
use Rattle.resp_value.specs.declared.value.Value.TheVariants as value
use Rattle.resp_value.specs.Data.{Data, int, error}
use Rattle.redis_error.specs.declared.fault_kind.FaultKind.TheVariants as link
use Rattle.redis_error.specs.declared.redis_error.RedisError.TheVariants as fault
use Rattle.cluster_retries.specs.declared.round_end.OperationTarget.{OperationTarget}
use Rattle.cluster_retries.specs.declared.round_end.OperationTarget.TheVariants.{Node, NotFound, FanOut}
use Rattle.cluster_retries.specs.declared.round_end.RoundEnd.{RoundEnd}
use Rattle.cluster_retries.specs.declared.round_end.RoundEnd.TheVariants as ended
use Rattle.cluster_retries.specs.declared.choosing.Next.TheVariants.{Answered, Pending, AtOnce, Sleep}
use Rattle.cluster_retries.specs.declared.choosing.RecoveryAction.{RecoveryAction}
use Rattle.cluster_retries.specs.declared.choosing.RecoveryAction.TheVariants as action
use Rattle.cluster_retries.specs.declared.choosing.Row.{Row}
use Rattle.cluster_retries.specs.declared.poll_flush_action.PollFlushAction.{PollFlushAction}
use Rattle.cluster_retries.specs.declared.poll_flush_action.PollFlushAction.TheVariants as done
use Rattle.cluster_retries.specs.Waits.{default_params, wait_of, wait_upper}
use Rattle.cluster_retries.specs.Table.{are_left, following}
use Rattle.cluster_retries.specs.Actions.{joined}

-- of a base wait, the least and the greatest wait
abbrev pub upper_by : ℕ × ℕ × ℕ → ℕ
upper_by case = wait_upper case.0 case.1 case.2

-- what is at or below the least wait is one more than that; then the base wait counts, up to the greatest
abbrev pub uppers : List ((ℕ × ℕ × ℕ) × ℕ)
uppers =
    ((10, 100, 50), 101)
    ∷ ((10, 100, 100), 101)
    ∷ ((10, 100, 1_000), 101)
    ∷ ((120, 100, 1_000), 120)
    ∷ ((2_000, 100, 1_000), 1_000)
    ∷ ((0, 0, 0), 1)
    ∷ ((5, 2 ^ 64 - 2, 2 ^ 64 - 1), 2 ^ 64 - 1)
    ∷ ((5, 2 ^ 64 - 1, 2 ^ 64 - 1), 2 ^ 64 - 1)
    ∷ []

-- of the number of a retry and a draw, as the defaults have it but for the factor and the exponent base
pub record Drawn : Type 0 where
  pub factor : ℕ
  pub base : ℕ
  pub least : ℕ
  pub retry : ℕ
  pub draw : ℕ

abbrev pub wait_by : Drawn → ℕ
wait_by case = wait_of (record default_params { factor = case.factor; exponent_base = case.base; min_wait = case.least }) case.retry case.draw

abbrev pub by_default : ℕ → ℕ → Drawn
by_default retry draw = record { factor = 10; base = 2; least = 1_280; retry = retry; draw = draw }

abbrev pub waits : List (Drawn × ℕ)
waits =
    (by_default 1 5_000, 1_280)
    ∷ (by_default 8 5_000, 2_440)
    ∷ (by_default 8 1_279, 2_559)
    ∷ (by_default 8 1_280, 1_280)
    ∷ (by_default 16 654_079, 655_359)
    ∷ (by_default 64 654_080, 1_280)
    ∷ (record { factor = 2 ^ 64 - 1; base = 2 ^ 64 - 1; least = 0; retry = 9; draw = 655_359 }, 655_359)
    ∷ (record { factor = 0; base = 2; least = 0; retry = 9; draw = 7 }, 0)
    ∷ (record { factor = 3_000; base = 0; least = 1_280; retry = 0; draw = 1_719 }, 2_999)
    ∷ (record { factor = 3_000; base = 0; least = 1_280; retry = 1; draw = 1_719 }, 1_280)
    ∷ (record { factor = 10; base = 2; least = 2 ^ 64 - 1; retry = 1; draw = 5_000 }, 2 ^ 64 - 1)
    ∷ []

-- whether retries are left behind a round of this number, as the defaults have it
abbrev pub left_behind : ℕ → Bool
left_behind round = are_left round default_params

-- sixteen rounds may be tried again
abbrev pub rounds : List (ℕ × Bool)
rounds = (0, true) ∷ (15, true) ∷ (16, false) ∷ (17, false) ∷ []

-- what follows the end of a round, with retries left and without
abbrev pub follows : OperationTarget × RoundEnd → Row × Row
follows case = (following case.0 case.1 true, following case.0 case.1 false)

-- a target, by a node at `foo:1234`
abbrev pub a_node : OperationTarget
a_node = Node (record { host = codes "foo"; port = 1234 })

-- an error of a server by its code, with what stands behind it
abbrev pub server : List ℕ → List ℕ → ServerError
server code detail = record { code = code; detail = Some detail }

-- it came as the value of a command, or among those of a pipeline
abbrev pub as_value : List ℕ → List ℕ → RoundEnd
as_value code detail = ended.Value (value.ServerError (server code detail))

abbrev pub among : Data → List ℕ → List ℕ → RoundEnd
among before code detail = ended.Many (before ∷ error (server code detail) ∷ [])

abbrev pub ask_value : RoundEnd
ask_value = as_value (codes "ASK") (codes "123 foo:1234")

abbrev pub moved_value : RoundEnd
moved_value = as_value (codes "MOVED") (codes "123 foo:1234")

abbrev pub read_only_value : RoundEnd
read_only_value = as_value (codes "READONLY") (codes "x")

-- the parts of a row
abbrev pub answered : RecoveryAction → Row
answered a = record { next = Answered; reset = false; redirected = false; action = a }

abbrev pub again : RecoveryAction → Row
again a = record { next = Pending; reset = true; redirected = false; action = a }

abbrev pub redirected : RecoveryAction → Row
redirected a = record { next = AtOnce; reset = false; redirected = true; action = a }

abbrev pub asleep : Bool → RecoveryAction → Row
asleep reset a = record { next = Sleep; reset = reset; redirected = false; action = a }

abbrev pub kept_pending : Row
kept_pending = record { next = Pending; reset = false; redirected = false; action = action.None }

-- rounds of a node: a link that is gone is repaired, a redirect followed, the slots rebuilt, a busy server waited for, a slow one
-- asked again, and what nobody retries answered
abbrev pub node_rows : List ((OperationTarget × RoundEnd) × (Row × Row))
node_rows =
    ((a_node, ended.Error fault.NotFound), (again action.ReconnectInitial, answered action.ReconnectInitial))
    ∷ ((a_node, ended.Error fault.Closed), (again action.RepairTarget, answered action.RepairTarget))
    ∷ ((a_node, ended.Error fault.Parse), (again action.RepairTarget, answered action.RepairTarget))
    ∷ ((a_node, ended.Error (fault.Io link.Eof)), (again action.RepairTarget, answered action.RepairTarget))
    ∷ ((a_node, ended.Error (fault.AuthFailed (codes "WRONGPASS"))), (again action.RepairTarget, answered action.RepairTarget))
    ∷ ((a_node, ask_value), (redirected action.None, answered action.None))
    ∷ ((a_node, moved_value), (redirected action.RebuildSlots, answered action.RebuildSlots))
    ∷ ((a_node, ended.Error (fault.Server (server (codes "MOVED") (codes "x")))), (redirected action.RebuildSlots, answered action.RebuildSlots))
    ∷ ((a_node, read_only_value), (again action.RebuildSlots, answered action.RebuildSlots))
    ∷ ((a_node, as_value (codes "TRYAGAIN") (codes "x")), (asleep false action.None, answered action.None))
    ∷ ((a_node, as_value (codes "CLUSTERDOWN") (codes "x")), (asleep false action.None, answered action.None))
    ∷ ((a_node, as_value (codes "LOADING") (codes "x")), (asleep false action.None, answered action.None))
    ∷ ((a_node, as_value (codes "MASTERDOWN") (codes "x")), (asleep false action.None, answered action.None))
    ∷ ((a_node, ended.Error (fault.Io link.Denied)), (answered action.None, answered action.None))
    ∷ ((a_node, ended.Error (fault.CrossSlot 1 2)), (answered action.None, answered action.None))
    ∷ ((a_node, ended.Error (fault.Io link.TimedOut)), (kept_pending, answered action.None))
    ∷ ((a_node, among (error (server (codes "ERR") (codes "x"))) (codes "ASK") (codes "1 a:2")), (redirected action.None, answered action.None))
    ∷ ((a_node, among (error (server (codes "TRYAGAIN") (codes "x"))) (codes "ASK") (codes "1 a:2")), (asleep false action.None, answered action.None))
    ∷ []

-- rounds that found no link, and rounds of several nodes
abbrev pub other_rows : List ((OperationTarget × RoundEnd) × (Row × Row))
other_rows =
    ((NotFound, ended.Error fault.NotFound), (again action.ReconnectInitial, answered action.ReconnectInitial))
    ∷ ((NotFound, ended.Error (fault.Io link.Refused)), (asleep true action.RebuildSlots, answered action.RebuildSlots))
    ∷ ((NotFound, ended.Error (fault.Io link.Denied)), (asleep true action.RebuildSlots, answered action.RebuildSlots))
    ∷ ((FanOut, ended.Error fault.NotFound), (again action.ReconnectInitial, answered action.ReconnectInitial))
    ∷ ((FanOut, ended.Error fault.Closed), (answered action.None, answered action.None))
    ∷ ((FanOut, moved_value), (answered action.None, answered action.None))
    ∷ ((FanOut, ended.Error (fault.Convert value.Nil)), (answered action.None, answered action.None))
    ∷ []

-- values, and errors of servers that nobody retries
abbrev pub values : List ((OperationTarget × RoundEnd) × (Row × Row))
values =
    ((a_node, ended.Value value.Nil), (answered action.None, answered action.None))
    ∷ ((a_node, ended.Value (value.Int (pos 7))), (answered action.None, answered action.None))
    ∷ ((a_node, as_value (codes "ERR") (codes "x")), (answered action.None, answered action.None))
    ∷ ((a_node, ended.Many []), (answered action.None, answered action.None))
    ∷ ((a_node, among (int (pos 7)) (codes "WRONGTYPE") (codes "x")), (answered action.None, answered action.None))
    ∷ ((FanOut, ended.Value value.Okay), (answered action.None, answered action.None))
    ∷ []

abbrev pub joined_by : PollFlushAction × PollFlushAction → PollFlushAction
joined_by case = joined case.0 case.1

abbrev pub at : List ℕ → ℕ → NodeAddress
at host port = record { host = host; port = port }

-- actions that come one after another
abbrev pub joined_actions : List ((PollFlushAction × PollFlushAction) × PollFlushAction)
joined_actions =
    ((done.None, done.None), done.None)
    ∷ ((done.None, done.RebuildSlots), done.RebuildSlots)
    ∷ ((done.Reconnect (at (codes "a") 1 ∷ []), done.None), done.Reconnect (at (codes "a") 1 ∷ []))
    ∷ ((done.Reconnect (at (codes "a") 1 ∷ []), done.Reconnect (at (codes "b") 1 ∷ [])), done.Reconnect (at (codes "a") 1 ∷ at (codes "b") 1 ∷ []))
    ∷ ((done.Reconnect (at (codes "b") 1 ∷ []), done.Reconnect (at (codes "a") 1 ∷ [])), done.Reconnect (at (codes "a") 1 ∷ at (codes "b") 1 ∷ []))
    ∷ ((done.Reconnect (at (codes "a") 1 ∷ []), done.Reconnect (at (codes "a") 1 ∷ [])), done.Reconnect (at (codes "a") 1 ∷ []))
    ∷ (
      (done.Reconnect (at (codes "a") 9 ∷ at (codes "b") 1 ∷ []), done.Reconnect (at (codes "a") 10 ∷ at (codes "aa") 1 ∷ at (codes "b") 1 ∷ [])),
      done.Reconnect (at (codes "a") 9 ∷ at (codes "a") 10 ∷ at (codes "aa") 1 ∷ at (codes "b") 1 ∷ []),
    )
    ∷ ((done.Reconnect (at (codes "a") 1 ∷ at (codes "b") 1 ∷ []), done.RebuildSlots), done.RebuildSlots)
    ∷ ((done.RebuildSlots, done.Reconnect (at (codes "a") 1 ∷ [])), done.RebuildSlots)
    ∷ ((done.RebuildSlots, done.ReconnectFromInitialConnections), done.ReconnectFromInitialConnections)
    ∷ ((done.ReconnectFromInitialConnections, done.Reconnect (at (codes "a") 1 ∷ [])), done.ReconnectFromInitialConnections)
    ∷ []
