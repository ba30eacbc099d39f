-- The error that a failure is, which the parts lend.
use Rattle.redis_error.specs.declared.redis_error.RedisError.{RedisError}
use Rattle.redis_error.specs.declared.redis_error.RedisError.TheVariants as redis
use Rattle.fan_out.specs.declared.by_part.Failure.{Failure}
use Rattle.fan_out.specs.declared.by_part.Failure.TheVariants.{Refused, Ended}

abbrev pub failure_now : Failure → RedisError
failure_now (Refused error) = redis.Server error.now
failure_now (Ended error) = error.now
