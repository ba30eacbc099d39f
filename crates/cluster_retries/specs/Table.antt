-- What follows the end of a round in a cluster.
use Rattle.std.specs.Prelude.{ℕ, nat_lt, Bool, true, false, List, Option, Some, None}
use Rattle.resp_value.specs.declared.retry_method.RetryMethod.{RetryMethod}
use Rattle.resp_value.specs.declared.retry_method.RetryMethod.TheVariants.{Reconnect, NoRetry, RetryImmediately, WaitAndRetry, AskRedirect, MovedRedirect, ReconnectFromInitialConnections, RefreshSlotsAndRetry}
use Rattle.redis_error.specs.declared.redis_error.RedisError.{RedisError}
use Rattle.redis_error.specs.Errors.{error_method}
use Rattle.redis_error.specs.Redirected.{IsRedirected}
use Rattle.cluster_retries.specs.declared.retry_params.RetryParams.{RetryParams}
use Rattle.cluster_retries.specs.declared.round_end.OperationTarget.{OperationTarget}
use Rattle.cluster_retries.specs.declared.round_end.OperationTarget.TheVariants.{Node, NotFound, FanOut}
use Rattle.cluster_retries.specs.declared.round_end.RoundEnd.{RoundEnd}
use Rattle.cluster_retries.specs.declared.choosing.Next.TheVariants.{Answered, Pending, AtOnce, Sleep}
use Rattle.cluster_retries.specs.declared.choosing.RecoveryAction.{RecoveryAction}
use Rattle.cluster_retries.specs.declared.choosing.RecoveryAction.TheVariants as action
use Rattle.cluster_retries.specs.declared.choosing.Row.{Row}
use Rattle.cluster_retries.specs.Ends.{error_of}

-- the end is answered, and this action is taken
abbrev pub answered : RecoveryAction → Row
answered taken = record { next = Answered; reset = false; redirected = false; action = taken }

-- the table: what follows an error while retries are left, by the target of its round and by how its request is tried again. The
-- first row that fits counts
abbrev pub row_of : OperationTarget → RetryMethod → Row
row_of target ReconnectFromInitialConnections = record { next = Pending; reset = true; redirected = false; action = action.ReconnectInitial }
row_of (Node address) Reconnect = record { next = Pending; reset = true; redirected = false; action = action.RepairTarget }
row_of FanOut method = answered action.None
row_of NotFound method = record { next = Sleep; reset = true; redirected = false; action = action.RebuildSlots }
row_of (Node address) AskRedirect = record { next = AtOnce; reset = false; redirected = true; action = action.None }
row_of (Node address) MovedRedirect = record { next = AtOnce; reset = false; redirected = true; action = action.RebuildSlots }
row_of (Node address) RefreshSlotsAndRetry = record { next = Pending; reset = true; redirected = false; action = action.RebuildSlots }
row_of (Node address) WaitAndRetry = record { next = Sleep; reset = false; redirected = false; action = action.None }
row_of (Node address) NoRetry = answered action.None
row_of (Node address) RetryImmediately = record { next = Pending; reset = false; redirected = false; action = action.None }

-- an end that counts as no error is answered; without retries left an error is answered, and the action of its row stays
abbrev pub judged : OperationTarget → Bool → Option RedisError → Row
judged target left None = answered action.None
judged target true (Some e) = row_of target (error_method e)
judged target false (Some e) = answered (row_of target (error_method e)).action

-- what follows the end of a round, by its target and whether retries are left
unfoldable pub following : OperationTarget → RoundEnd → Bool → Row
following target end left = judged target left (error_of end)

-- retries are left where the number of the round is below their number
abbrev pub are_left : ℕ → RetryParams → Bool
are_left round params = nat_lt round params.number_of_retries

-- an error is followed to this slot at this address, for the one command alone or for all: its row follows redirects, and it leads
-- there
abbrev pub IsFollowed : Bool → Option RedisError → ℕ → List ℕ → Bool → Type 0
IsFollowed true (Some e) slot address ask = IsRedirected e slot address ask
IsFollowed true None slot address ask = ⊥
IsFollowed false error slot address ask = ⊥

-- it is followed nowhere
abbrev pub IsNotFollowed : Bool → Option RedisError → Type 0
IsNotFollowed follows error = (slot : ℕ) (address : List ℕ) (ask : Bool) → IsFollowed follows error slot address ask → ⊥

-- the next round goes to this slot at this address, for the one command alone or for all
abbrev pub IsLed : OperationTarget → RoundEnd → Bool → ℕ → List ℕ → Bool → Type 0
IsLed target end left slot address ask = IsFollowed (following target end left).redirected (error_of end) slot address ask

-- it is led nowhere
abbrev pub IsNotLed : OperationTarget → RoundEnd → Bool → Type 0
IsNotLed target end left = IsNotFollowed (following target end left).redirected (error_of end)
