-- A child has fewer nodes than what holds it.
use Rattle.std.specs.Prelude.{◌≤◌, List, [], ◌∷◌}
use Rattle.std.proofs.Common.{arith}
use denote.Param.Weighed.{most}
use Rattle.resp_value.specs.Data.{weight, items_weight, members_weight, items_of, members_of}
use Rattle.resp_value.specs.View.{data_of, list_view, pairs_view}
use Rattle.resp_value.specs.declared.value.Value.{Value}
use Rattle.resp_value.specs.declared.value.Value.TheVariants.{Nil, Int, BulkString, Array, SimpleString, Okay, Map, Attribute, Set, Double, Boolean, VerbatimString, BigNumber, Push, ServerError}
use Rattle.resp_value.specs.declared.value.Inner.TheDeep.{deep-Value}

pub value_falls : (v : Value) → deep-Value v ≤ weight (data_of v)
value_falls Nil = omega arith
value_falls (Int n) = omega arith
value_falls (BulkString t) = omega arith
value_falls (Array ds) = omega arith
value_falls (SimpleString t) = omega arith
value_falls Okay = omega arith
value_falls (Map ps) = omega arith
value_falls (Attribute d ps) = omega arith
value_falls (Set ds) = omega arith
value_falls (Double t) = omega arith
value_falls (Boolean b) = omega arith
value_falls (VerbatimString s t) = omega arith
value_falls (BigNumber t) = omega arith
value_falls (Push k ds) = omega arith
value_falls (ServerError e) = omega arith

pub list_falls : (vs : List Value) → most deep-Value vs ≤ items_weight (items_of (list_view vs))
list_falls [] = omega arith
list_falls (v ∷ vs) = omega (arith, value_falls v, list_falls vs)

pub pairs_falls : (ps : List (Value × Value)) → most (λ p. Prim.Native.Nat.max (deep-Value p.0) (deep-Value p.1)) ps ≤ members_weight (members_of (pairs_view ps))
pairs_falls [] = omega arith
pairs_falls (p ∷ ps) = omega (arith, value_falls p.0, value_falls p.1, pairs_falls ps)
