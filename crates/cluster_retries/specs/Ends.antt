-- What the end of a round counts as: a value, or an error.
use Rattle.std.specs.Prelude.{Bool, true, false, List, [], ◌∷◌, Option, Some, None, if◌then◌else◌}
use Rattle.std.specs.Option.{option_map, option_or}
use Rattle.resp_value.specs.declared.retry_method.RetryMethod.{RetryMethod}
use Rattle.resp_value.specs.declared.retry_method.RetryMethod.TheVariants.{NoRetry}
use Rattle.resp_value.specs.declared.server_error.ServerError.{ServerError}
use Rattle.resp_value.specs.Data.{Data, error}
use Rattle.resp_value.specs.ErrorTable.{method_of}
use Rattle.resp_value.specs.View.{data_of}
use Rattle.redis_error.specs.declared.redis_error.RedisError.{RedisError}
use Rattle.redis_error.specs.declared.redis_error.RedisError.TheVariants as fault
use Rattle.cluster_retries.specs.declared.round_end.RoundEnd.{RoundEnd}
use Rattle.cluster_retries.specs.declared.round_end.RoundEnd.TheVariants as ended
use Rattle.cluster_retries.specs.declared.round_end.EndError.{EndError}
use Rattle.cluster_retries.specs.declared.round_end.EndError.TheVariants as seen

-- whether a request is tried again, in one way or another
abbrev pub is_retried : RetryMethod → Bool
is_retried NoRetry = false
is_retried _ = true

-- the error that a value counts as: a server's whose command is tried again. An error that isn't is a value
abbrev pub error_in : Data → Option ServerError
error_in (error e) = if is_retried (method_of e.code) then Some e else None
error_in _ = None

-- the first of these values that counts as an error
abbrev pub first_error_in : List Data → Option ServerError
first_error_in [] = None
first_error_in (d ∷ ds) = option_or (error_in d) (first_error_in ds)

-- the error that the end of a round counts as, if it counts as one
abbrev pub error_of : RoundEnd → Option RedisError
error_of (ended.Value v) = option_map fault.Server (error_in (data_of v))
error_of (ended.Many values) = option_map fault.Server (first_error_in values)
error_of (ended.Error e) = Some e

-- an error that is lent by the end of a round
abbrev pub error_seen : EndError → RedisError
error_seen (seen.Server e) = fault.Server e.now
error_seen (seen.Other e) = e.now
