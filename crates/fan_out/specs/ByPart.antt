-- What the ends of the parts tell, by the order of the parts.
use Rattle.std.specs.Prelude.{ℕ, ◌∷◌, ◌++◌, List, [], Option, Some, None, decimal, option_to_list}
use Rattle.std.specs.Option.{option_map, option_or}
use Rattle.std.specs.List.{flat_map}
use Rattle.slot_hash.specs.declared.address.NodeAddress.{NodeAddress}
use Rattle.resp_value.specs.Data.{Data, bulk, error}
use Rattle.resp_value.specs.View.{data_of}
use Rattle.resp_value.specs.declared.server_error.ServerError.{ServerError}
use Rattle.resp_value.specs.declared.value.Value.{Value}
use Rattle.resp_value.specs.declared.value.Value.TheVariants as value
use Rattle.redis_error.specs.declared.redis_error.RedisError.{RedisError}
use Rattle.redis_error.specs.declared.redis_error.RedisError.TheVariants as redis
use Rattle.cluster_retries.specs.declared.round_end.RoundEnd.{RoundEnd}
use Rattle.cluster_retries.specs.declared.round_end.RoundEnd.TheVariants as ended
use Rattle.fan_out.specs.declared.parts.PartResult.{PartResult}
use Rattle.fan_out.specs.Came.{told}

-- what is told of a part's end
abbrev pub told_of : {A : Type 0} → (RoundEnd → Option A) → PartResult → Option A
told_of what p = option_map (λ c. c.1) (told what p.ended)

-- of the first part of which it is told
abbrev pub first_in : {A : Type 0} → (RoundEnd → Option A) → List PartResult → Option A
first_in what [] = None
first_in what (p ∷ ps) = option_or (told_of what p) (first_in what ps)

-- of the last part of which it is told
abbrev pub last_in : {A : Type 0} → (RoundEnd → Option A) → List PartResult → Option A
last_in what [] = None
last_in what (p ∷ ps) = option_or (last_in what ps) (told_of what p)

-- a value that is neither Nil nor a server error
abbrev pub found : Value → Option Value
found value.Nil = None
found (value.ServerError e) = None
found v = Some v

abbrev pub found_in : RoundEnd → Option Value
found_in (ended.Value v) = found v
found_in (ended.Many vs) = None
found_in (ended.Error e) = None

-- the error that a value is, if it is a server's
abbrev pub refusal : Value → Option RedisError
refusal (value.ServerError e) = Some (redis.Server e)
refusal v = None

-- an error, or a value that is one
abbrev pub failure_in : RoundEnd → Option RedisError
failure_in (ended.Value v) = refusal v
failure_in (ended.Many vs) = None
failure_in (ended.Error e) = Some e

-- the server's error that an error is
abbrev pub server_error : RedisError → Option ServerError
server_error (redis.Server e) = Some e
server_error e = None

-- an error that is no server's
abbrev pub fault : RedisError → Option RedisError
fault (redis.Server e) = None
fault e = Some e

abbrev pub fault_in : RoundEnd → Option RedisError
fault_in (ended.Value v) = None
fault_in (ended.Many vs) = None
fault_in (ended.Error e) = fault e

-- what a server replied, a value or an error
abbrev pub reply_in : RoundEnd → Option Data
reply_in (ended.Value v) = Some (data_of v)
reply_in (ended.Many vs) = None
reply_in (ended.Error e) = option_map error (server_error e)

-- the text of an address: host, colon, port
abbrev pub address_text : NodeAddress → List ℕ
address_text a = a.host ++ 58 ∷ decimal a.port

-- a part's reply, under the address of its node
abbrev pub addressed : PartResult → Option (Data × Data)
addressed p = option_map (λ d. (bulk (address_text p.address), d)) (told_of reply_in p)

-- the replies of all parts, in order
abbrev pub replies : List PartResult → List (Data × Data)
replies parts = flat_map (λ p. option_to_list (addressed p)) parts
