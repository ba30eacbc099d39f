-- What the results of the parts of a command are together, by its policy.
use Rattle.std.specs.Borrow.{Bor}
use Rattle.std.specs.Prelude.{◌-◌, List, length, map, Option, Some, None, unwrap_or, slice_get, if◌then◌else◌}
use Rattle.std.specs.Int.{saturate_signed, w64}
use Rattle.std.specs.List.{flat_map, zip}
use Rattle.std.specs.Option.{option_map, option_or}
use Rattle.command_table.specs.declared.routing.ResponsePolicy.{ResponsePolicy}
use Rattle.command_table.specs.declared.routing.ResponsePolicy.TheVariants.{AllSucceeded, OneSucceeded, FirstSucceededNonEmptyOrAllEmpty, Sum, Min, And, CombineArrays, CombineMaps, Special}
use Rattle.command_table.specs.declared.routing.MultipleNodeRoutingInfo.{MultipleNodeRoutingInfo}
use Rattle.command_table.specs.declared.routing.MultipleNodeRoutingInfo.TheVariants.{AllNodes, AllMasters, MultiSlot}
use Rattle.resp_value.specs.declared.value.Value.{Value}
use Rattle.resp_value.specs.declared.value.Value.TheVariants as value
use Rattle.redis_error.specs.declared.redis_error.RedisError.TheVariants as redis
use Rattle.fan_out.specs.declared.parts.PartResult.{PartResult}
use Rattle.fan_out.specs.declared.parts.FoldResult.{FoldResult}
use Rattle.fan_out.specs.declared.parts.FoldResult.TheVariants as folded
use Rattle.fan_out.specs.declared.shape.Shape.{Shape}
use Rattle.fan_out.specs.declared.shape.Shape.TheVariants as shape
use Rattle.fan_out.specs.Came.{all_came, first_error, first_value, last_error, values}
use Rattle.fan_out.specs.ByPart.{failure_in, fault_in, first_in, found_in, last_in, replies}
use Rattle.fan_out.specs.Shapes.{elements, misfit}
use Rattle.fan_out.specs.Numbers.{all_above, least, number, sum_of, width}
use Rattle.fan_out.specs.Arrays.{misfit_of_keys, of_keys}
use Rattle.fan_out.specs.Tallies.{summed}

-- the first error to come; without one, and once all parts came, what their values are together
abbrev pub when_all_succeed : (List Value → Option FoldResult) → List PartResult → Option FoldResult
when_all_succeed together parts =
    option_or (option_map folded.Error (first_error parts)) (if all_came parts then together (values parts) else None)

-- the first value to come; without one, and once all parts came, the last error to come
abbrev pub one_succeeded : List PartResult → Option FoldResult
one_succeeded parts =
    option_or (option_map folded.Value (first_value parts)) (if all_came parts then option_map folded.Error (last_error parts) else None)

-- once all parts came, the first part's value that is neither Nil nor a server error; without one the last part's error, be it a server's; without that all are Nil, and so is the result
abbrev pub first_succeeded : List PartResult → Option FoldResult
first_succeeded parts =
    if all_came parts
    then Some (unwrap_or (option_or (option_map folded.Value (first_in found_in parts)) (option_map folded.Error (last_in failure_in parts))) (folded.Value value.Nil))
    else None

-- once all parts came, the first part's error that is no server's; without one a map from the parts' addresses to what the servers replied
abbrev pub by_address : List PartResult → Option FoldResult
by_address parts =
    if all_came parts
    then Some (unwrap_or (option_map folded.Error (first_in fault_in parts)) (folded.Value (value.Map (replies parts))))
    else None

-- a value that isn't of the shape that is wanted
abbrev pub convert : Value → FoldResult
convert v = folded.Error (redis.Convert v)

-- the first value of another shape; without one the whole
abbrev pub of_shape : Shape → List Value → Option FoldResult → Option FoldResult
of_shape shape values whole = option_or (option_map convert (misfit shape values)) whole

-- the elements of all arrays: of several slots each at the place of its key, and else one array after another
abbrev pub of_arrays : MultipleNodeRoutingInfo → List Value → Option FoldResult
of_arrays AllNodes values = of_shape shape.Array values (Some (folded.Value (value.Array (flat_map elements values))))
of_arrays AllMasters values = of_shape shape.Array values (Some (folded.Value (value.Array (flat_map elements values))))
of_arrays (MultiSlot routes) values =
    option_or (option_map convert (misfit_of_keys (zip routes values))) (Some (folded.Value (value.Array (of_keys (zip routes values)))))

-- the values of all parts together, for a policy that asks that all succeed
abbrev pub together : ResponsePolicy → MultipleNodeRoutingInfo → List Value → Option FoldResult
together AllSucceeded routing values = option_map folded.Value (slice_get values (length values - 1))
together Sum routing values = of_shape shape.Integer values (Some (folded.Value (value.Int (saturate_signed w64 (sum_of (map number values))))))
together Min routing values = of_shape shape.Integer values (option_map (λ n. folded.Value (value.Int n)) (least values))
together And routing values = of_shape (shape.Integers (width values)) values (Some (folded.Value (value.Array (all_above values))))
together CombineArrays routing values = of_arrays routing values
together CombineMaps routing values = of_shape shape.Counts values (Some (folded.Value (value.Map (summed values))))
together OneSucceeded routing values = None
together FirstSucceededNonEmptyOrAllEmpty routing values = None
together Special routing values = None

-- the result of a command to several nodes, if it can be told from the parts that came
unfoldable pub fold : Option ResponsePolicy → MultipleNodeRoutingInfo → List PartResult → Option FoldResult
fold None routing parts = by_address parts
fold (Some Special) routing parts = by_address parts
fold (Some OneSucceeded) routing parts = one_succeeded parts
fold (Some FirstSucceededNonEmptyOrAllEmpty) routing parts = first_succeeded parts
fold (Some AllSucceeded) routing parts = when_all_succeed (together AllSucceeded routing) parts
fold (Some Sum) routing parts = when_all_succeed (together Sum routing) parts
fold (Some Min) routing parts = when_all_succeed (together Min routing) parts
fold (Some And) routing parts = when_all_succeed (together And routing) parts
fold (Some CombineArrays) routing parts = when_all_succeed (together CombineArrays routing) parts
fold (Some CombineMaps) routing parts = when_all_succeed (together CombineMaps routing) parts

-- values that are lent
abbrev pub values_now : List (Bor Value) → List Value
values_now values = map (λ v. v.now) values
