-- Policies by which one part's end is the result, and the map from addresses to replies.
use Rattle.std.specs.Prelude.{pos, List, [], ◌∷◌, Option, Some, None, codes}
use Rattle.command_table.specs.declared.routing.MultipleNodeRoutingInfo.TheVariants.{AllMasters, AllNodes}
use Rattle.command_table.specs.declared.routing.ResponsePolicy.TheVariants.{AllSucceeded, OneSucceeded, FirstSucceededNonEmptyOrAllEmpty, Special}
use Rattle.resp_value.specs.Data.{bulk, error}
use Rattle.resp_value.specs.declared.value.Value.{Value}
use Rattle.resp_value.specs.declared.value.Value.TheVariants as value
use Rattle.redis_error.specs.declared.redis_error.RedisError.TheVariants as redis
use Rattle.cluster_retries.specs.declared.round_end.RoundEnd.TheVariants as ends
use Rattle.fan_out.specs.declared.parts.PartResult.{PartResult}
use Rattle.fan_out.specs.declared.parts.FoldResult.{FoldResult}
use Rattle.cluster_examples.specs.Folds.{Example, came, failed, gave, not_busy, refused, waits, with_error, with_value}

abbrev one : Value
one = value.Int (pos 1)

abbrev two : Value
two = value.Int (pos 2)

abbrev text : Value
text = value.BulkString (codes "k")

-- all have to succeed: the error that came first, or else the value of the part that stands last; a server error that isn't tried again is a value
abbrev all : List PartResult → Option FoldResult → Example
all parts r = ((Some AllSucceeded, AllMasters, parts), r)

abbrev pub under_all : List Example
under_all =
    all (waits ∷ []) None
    ∷ all (gave 1 one ∷ waits ∷ []) None
    ∷ all (gave 5 one ∷ gave 3 two ∷ []) (with_value two)
    ∷ all (waits ∷ failed 2 redis.Closed ∷ []) (with_error redis.Closed)
    ∷ all (failed 7 redis.Closed ∷ gave 1 one ∷ failed 4 redis.NotFound ∷ []) (with_error redis.NotFound)
    ∷ all (failed 4 redis.Closed ∷ failed 4 redis.NotFound ∷ []) (with_error redis.Closed)
    ∷ all (gave 1 value.Okay ∷ gave 2 (value.ServerError refused) ∷ []) (with_value (value.ServerError refused))
    ∷ all (gave 1 (value.ServerError refused) ∷ gave 2 value.Okay ∷ []) (with_value value.Okay)
    ∷ all (came 7000 1 (ends.Many []) ∷ []) None
    ∷ []

-- one has to succeed: the value that came first, or else the error that came last
abbrev any : List PartResult → Option FoldResult → Example
any parts r = ((Some OneSucceeded, AllMasters, parts), r)

abbrev pub under_one : List Example
under_one =
    any (waits ∷ gave 1 one ∷ []) (with_value one)
    ∷ any (gave 5 one ∷ gave 3 two ∷ []) (with_value two)
    ∷ any (gave 3 one ∷ gave 3 two ∷ []) (with_value one)
    ∷ any (failed 1 redis.Closed ∷ waits ∷ []) None
    ∷ any (failed 9 redis.Closed ∷ failed 3 redis.NotFound ∷ []) (with_error redis.Closed)
    ∷ any (failed 3 redis.Closed ∷ failed 3 redis.NotFound ∷ []) (with_error redis.NotFound)
    ∷ any (failed 1 redis.Closed ∷ gave 2 (value.ServerError not_busy) ∷ []) (with_value (value.ServerError not_busy))
    ∷ []

-- the first part's value that is neither Nil nor a server error, once all came
abbrev first : List PartResult → Option FoldResult → Example
first parts r = ((Some FirstSucceededNonEmptyOrAllEmpty, AllMasters, parts), r)

abbrev pub under_first : List Example
under_first =
    first (gave 1 text ∷ waits ∷ []) None
    ∷ first (gave 9 value.Nil ∷ gave 5 text ∷ gave 3 one ∷ []) (with_value text)
    ∷ first (failed 1 redis.Closed ∷ gave 5 text ∷ []) (with_value text)
    ∷ first (gave 1 value.Nil ∷ gave 2 value.Nil ∷ []) (with_value value.Nil)
    ∷ first (gave 1 value.Nil ∷ gave 2 (value.ServerError refused) ∷ []) (with_error (redis.Server refused))
    ∷ first (gave 1 (value.ServerError refused) ∷ gave 2 value.Nil ∷ []) (with_error (redis.Server refused))
    ∷ first (gave 9 (value.ServerError refused) ∷ failed 1 redis.Closed ∷ []) (with_error redis.Closed)
    ∷ first (failed 1 redis.Closed ∷ gave 2 (value.ServerError refused) ∷ []) (with_error (redis.Server refused))
    ∷ []

-- a map from the addresses to what the servers replied, once all came; an error that is no server's is the result instead
abbrev special : List PartResult → Option FoldResult → Example
special parts r = ((Some Special, AllNodes, parts), r)

abbrev pub under_special : List Example
under_special =
    special (gave 1 text ∷ waits ∷ []) None
    ∷ special (came 7000 2 (ends.Value text) ∷ came 7001 1 (ends.Value (value.ServerError refused)) ∷ [])
    (with_value (value.Map ((bulk (codes "h:7000"), bulk (codes "k")) ∷ (bulk (codes "h:7001"), error refused) ∷ [])))
    ∷ special (came 7000 1 (ends.Error (redis.Server not_busy)) ∷ []) (with_value (value.Map ((bulk (codes "h:7000"), error not_busy) ∷ [])))
    ∷ special (gave 1 text ∷ failed 5 redis.NotFound ∷ failed 2 redis.Closed ∷ []) (with_error redis.NotFound)
    ∷ ((None, AllNodes, came 6379 1 (ends.Value text) ∷ []), with_value (value.Map ((bulk (codes "h:6379"), bulk (codes "k")) ∷ [])))
    ∷ ((None, AllNodes, failed 1 redis.Closed ∷ waits ∷ []), None)
    ∷ []
