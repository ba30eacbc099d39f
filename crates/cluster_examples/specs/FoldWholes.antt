-- Policies by which the values of all parts become one.
use Rattle.std.specs.Prelude.{ℕ, pos, negsuc, List, [], ◌∷◌, Option, Some, None, codes}
use Rattle.command_table.specs.declared.routing.MultipleNodeRoutingInfo.{MultipleNodeRoutingInfo}
use Rattle.command_table.specs.declared.routing.MultipleNodeRoutingInfo.TheVariants.{AllMasters, AllNodes, MultiSlot}
use Rattle.command_table.specs.declared.routing.ResponsePolicy.TheVariants.{Sum, Min, And, CombineArrays, CombineMaps}
use Rattle.command_table.specs.declared.routing.Route.{Route}
use Rattle.command_table.specs.declared.routing.SlotAddr.TheVariants.{ReplicaOptional}
use Rattle.resp_value.specs.Data.{Data, int, bulk, nil}
use Rattle.resp_value.specs.declared.value.Value.{Value}
use Rattle.resp_value.specs.declared.value.Value.TheVariants as value
use Rattle.redis_error.specs.declared.redis_error.RedisError.TheVariants as redis
use Rattle.fan_out.specs.declared.parts.PartResult.{PartResult}
use Rattle.fan_out.specs.declared.parts.FoldResult.{FoldResult}
use Rattle.cluster_examples.specs.Folds.{Example, failed, gave, no_such, refused, waits, with_error, with_value}

abbrev number : ℕ → Value
number n = value.Int (pos n)

-- the greatest and the least integer of 64 bits
abbrev greatest : Value
greatest = number 9_223_372_036_854_775_807

abbrev least : Value
least = value.Int (negsuc 9_223_372_036_854_775_807)

abbrev minus_one : Value
minus_one = value.Int (negsuc 0)

abbrev sum : List PartResult → Option FoldResult → Example
sum parts r = ((Some Sum, AllMasters, parts), r)

-- what has more than 64 bits is the nearest that has them; a sum that has them in the end is itself
abbrev pub under_sum : List Example
under_sum =
    sum (gave 1 (number 2) ∷ gave 2 (number 0) ∷ gave 3 (number 5) ∷ []) (with_value (number 7))
    ∷ sum (gave 1 (number 2) ∷ gave 2 minus_one ∷ []) (with_value (number 1))
    ∷ sum (gave 1 greatest ∷ gave 2 (number 1) ∷ []) (with_value greatest)
    ∷ sum (gave 1 greatest ∷ gave 2 (number 1) ∷ gave 3 minus_one ∷ []) (with_value greatest)
    ∷ sum (gave 1 least ∷ gave 2 minus_one ∷ []) (with_value least)
    ∷ sum (gave 1 (number 2) ∷ waits ∷ []) None
    ∷ sum (gave 1 value.Nil ∷ waits ∷ []) None
    ∷ sum (gave 1 value.Nil ∷ waits ∷ failed 2 redis.Closed ∷ []) (with_error redis.Closed)
    ∷ sum (gave 1 (number 2) ∷ gave 2 value.Nil ∷ gave 3 value.Okay ∷ []) (no_such value.Nil)
    ∷ sum (gave 1 (number 2) ∷ gave 2 (value.ServerError refused) ∷ []) (no_such (value.ServerError refused))
    ∷ []

abbrev min : List PartResult → Option FoldResult → Example
min parts r = ((Some Min, AllMasters, parts), r)

abbrev pub under_min : List Example
under_min =
    min (gave 1 (number 3) ∷ gave 2 (number 1) ∷ []) (with_value (number 1))
    ∷ min (gave 1 minus_one ∷ gave 2 (number 1) ∷ []) (with_value minus_one)
    ∷ min (gave 1 (number 3) ∷ gave 2 value.Okay ∷ []) (no_such value.Okay)
    ∷ min (gave 1 (number 3) ∷ waits ∷ []) None
    ∷ []

abbrev row : List ℕ → List Data
row [] = []
row (n ∷ ns) = int (pos n) ∷ row ns

abbrev numbers : List ℕ → Value
numbers ns = value.Array (row ns)

abbrev each : List PartResult → Option FoldResult → Example
each parts r = ((Some And, AllMasters, parts), r)

abbrev pub under_and : List Example
under_and =
    each (gave 1 (numbers (1 ∷ 0 ∷ 1 ∷ [])) ∷ gave 2 (numbers (1 ∷ 1 ∷ 0 ∷ [])) ∷ []) (with_value (numbers (1 ∷ 0 ∷ 0 ∷ [])))
    ∷ each (gave 1 (numbers (1 ∷ [])) ∷ gave 2 (numbers (2 ∷ [])) ∷ []) (with_value (numbers (1 ∷ [])))
    ∷ each (gave 1 (value.Array (int (negsuc 0) ∷ [])) ∷ []) (with_value (numbers (0 ∷ [])))
    ∷ each (gave 1 (numbers (1 ∷ [])) ∷ gave 2 (numbers (1 ∷ 1 ∷ [])) ∷ []) (no_such (numbers (1 ∷ 1 ∷ [])))
    ∷ each (gave 1 (value.Array (nil ∷ [])) ∷ []) (no_such (value.Array (nil ∷ [])))
    ∷ each (gave 1 (number 1) ∷ []) (no_such (number 1))
    ∷ each (waits ∷ gave 1 (numbers (1 ∷ [])) ∷ []) None
    ∷ []

abbrev a : Data
a = bulk (codes "a")

abbrev b : Data
b = bulk (codes "b")

abbrev c : Data
c = bulk (codes "c")

abbrev arrays : MultipleNodeRoutingInfo → List PartResult → Option FoldResult → Example
arrays routing parts r = ((Some CombineArrays, routing, parts), r)

-- from nodes: one after another, in the order of the parts
abbrev pub under_arrays : List Example
under_arrays =
    arrays AllMasters (gave 9 (value.Array (b ∷ [])) ∷ gave 1 (value.Array (a ∷ c ∷ [])) ∷ []) (with_value (value.Array (b ∷ a ∷ c ∷ [])))
    ∷ arrays AllNodes (gave 1 (value.Array []) ∷ []) (with_value (value.Array []))
    ∷ arrays AllNodes (gave 1 (value.Array (a ∷ [])) ∷ gave 2 (value.Set (a ∷ [])) ∷ []) (no_such (value.Set (a ∷ [])))
    ∷ arrays AllNodes (waits ∷ []) None
    ∷ []

abbrev to : ℕ → List ℕ → Route × List ℕ
to slot places = (record { slot = slot; addr = ReplicaOptional }, places)

-- the keys of places 0 and 2 are in one slot, that of place 1 in another
abbrev slots : MultipleNodeRoutingInfo
slots = MultiSlot (to 1 (0 ∷ 2 ∷ []) ∷ to 2 (1 ∷ []) ∷ [])

-- from slots: each at the place of its key
abbrev pub under_slots : List Example
under_slots =
    arrays slots (gave 1 (value.Array (a ∷ c ∷ [])) ∷ gave 2 (value.Array (b ∷ [])) ∷ []) (with_value (value.Array (a ∷ b ∷ c ∷ [])))
    ∷ arrays slots (gave 1 (value.Array (a ∷ [])) ∷ gave 2 (value.Array (b ∷ [])) ∷ []) (no_such (value.Array (a ∷ [])))
    ∷ arrays slots (gave 1 (value.Array (a ∷ c ∷ [])) ∷ gave 2 (value.Array (b ∷ b ∷ [])) ∷ []) (no_such (value.Array (b ∷ b ∷ [])))
    ∷ arrays slots (gave 1 (value.Array (a ∷ c ∷ [])) ∷ gave 2 value.Nil ∷ []) (no_such value.Nil)
    ∷ arrays slots (gave 1 (value.Array (a ∷ c ∷ [])) ∷ waits ∷ []) None
    ∷ []

abbrev n : ℕ → Data
n k = int (pos k)

abbrev maps : List PartResult → Option FoldResult → Example
maps parts r = ((Some CombineMaps, AllNodes, parts), r)

-- the numbers of each name are added; names stand in byte order
abbrev pub under_maps : List Example
under_maps =
    maps (gave 1 (value.Array (a ∷ n 1 ∷ b ∷ n 2 ∷ [])) ∷ gave 2 (value.Array (b ∷ n 3 ∷ [])) ∷ []) (with_value (value.Map ((a, n 1) ∷ (b, n 5) ∷ [])))
    ∷ maps (gave 1 (value.Map ((b, n 1) ∷ (a, n 2) ∷ [])) ∷ gave 2 (value.Array (a ∷ n 4 ∷ [])) ∷ []) (with_value (value.Map ((a, n 6) ∷ (b, n 1) ∷ [])))
    ∷ maps (gave 1 (value.Map ((a, n 9_223_372_036_854_775_807) ∷ (a, n 2) ∷ [])) ∷ []) (with_value (value.Map ((a, n 9_223_372_036_854_775_807) ∷ [])))
    ∷ maps (gave 1 (value.Map []) ∷ []) (with_value (value.Map []))
    ∷ maps (gave 1 (value.Array (a ∷ n 1 ∷ b ∷ [])) ∷ []) (no_such (value.Array (a ∷ n 1 ∷ b ∷ [])))
    ∷ maps (gave 1 (value.Map ((a, a) ∷ [])) ∷ []) (no_such (value.Map ((a, a) ∷ [])))
    ∷ maps (gave 1 (value.Map ((n 1, n 1) ∷ [])) ∷ []) (no_such (value.Map ((n 1, n 1) ∷ [])))
    ∷ maps (waits ∷ []) None
    ∷ []
