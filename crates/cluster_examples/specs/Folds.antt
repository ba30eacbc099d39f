-- Parts of commands to several nodes, as examples have them.
use Rattle.std.specs.Prelude.{ℕ, List, Option, Some, None, codes}
use Rattle.command_table.specs.declared.routing.MultipleNodeRoutingInfo.{MultipleNodeRoutingInfo}
use Rattle.command_table.specs.declared.routing.ResponsePolicy.{ResponsePolicy}
use Rattle.slot_hash.specs.declared.address.NodeAddress.{NodeAddress}
use Rattle.resp_value.specs.declared.server_error.ServerError.{ServerError}
use Rattle.resp_value.specs.declared.value.Value.{Value}
use Rattle.redis_error.specs.declared.redis_error.RedisError.{RedisError}
use Rattle.redis_error.specs.declared.redis_error.RedisError.TheVariants as redis
use Rattle.cluster_retries.specs.declared.round_end.RoundEnd.{RoundEnd}
use Rattle.cluster_retries.specs.declared.round_end.RoundEnd.TheVariants as ends
use Rattle.fan_out.specs.declared.parts.PartResult.{PartResult}
use Rattle.fan_out.specs.declared.parts.FoldResult.{FoldResult}
use Rattle.fan_out.specs.declared.parts.FoldResult.TheVariants as result
use Rattle.fan_out.specs.Fold.{fold}

-- a policy, where the parts went, and what came of them
abbrev pub Question : Type 0
Question = Option ResponsePolicy × MultipleNodeRoutingInfo × List PartResult

-- what they are together, if it can be told
abbrev pub Example : Type 0
Example = Question × Option FoldResult

abbrev pub folded : Question → Option FoldResult
folded q = fold q.0 q.1 q.2

-- the node of a port
abbrev pub node : ℕ → NodeAddress
node port = record { host = codes "h"; port = port }

-- a part whose end came with this number
abbrev pub came : ℕ → ℕ → RoundEnd → PartResult
came port number end = record { address = node port; ended = Some (record { arrival = number; end = end }) }

-- one that ended with this value
abbrev pub gave : ℕ → Value → PartResult
gave number v = came 7000 number (ends.Value v)

-- one that ended with this error
abbrev pub failed : ℕ → RedisError → PartResult
failed number e = came 7000 number (ends.Error e)

-- one that hasn't ended
abbrev pub waits : PartResult
waits = record { address = node 7000; ended = None }

-- the server errors `ERR x` and `NOTBUSY`
abbrev pub refused : ServerError
refused = record { code = codes "ERR"; detail = Some (codes "x") }

abbrev pub not_busy : ServerError
not_busy = record { code = codes "NOTBUSY"; detail = None }

abbrev pub with_value : Value → Option FoldResult
with_value v = Some (result.Value v)

abbrev pub with_error : RedisError → Option FoldResult
with_error e = Some (result.Error e)

-- the value is of another shape
abbrev pub no_such : Value → Option FoldResult
no_such v = with_error (redis.Convert v)
