-- Each child of a value has fewer nodes.
use Rattle.std.specs.Prelude.{◌≡◌, ℕ, zero, suc, ◌+◌, ◌<◌, List, [], ◌∷◌, length, get_or}
use Rattle.std.proofs.Common.{arith}
use Rattle.resp_value.specs.Data.{Data, weight, list_weight, pairs_weight}
use Rattle.resp_value.specs.View.{data_of, list_view, pairs_view}
use Rattle.resp_value.specs.declared.value.Value.{Value}

item_weighs : (vs : List Value) (i : ℕ) (d : Value) → i < length vs → weight (data_of (get_or vs i d)) < list_weight (list_view vs)
item_weighs [] i d l = absurd (omega arith)
item_weighs (v ∷ vs) zero d l = omega arith
item_weighs (v ∷ vs) (suc i) d l = omega (arith, item_weighs vs i d (omega arith))

pair_weighs : (ps : List (Value × Value)) (i : ℕ) (d : Value × Value) → i < length ps → weight (data_of (get_or ps i d).0) + weight (data_of (get_or ps i d).1) < pairs_weight (pairs_view ps)
pair_weighs [] i d l = absurd (omega arith)
pair_weighs (p ∷ ps) zero d l = omega arith
pair_weighs (p ∷ ps) (suc i) d l = omega (arith, pair_weighs ps i d (omega arith))

-- the value at a place
pub item_falls : (vs : List Value) (ds : List Data) (i : ℕ) (v : Value) → list_view vs ≡ ds → v ≡ get_or vs i v → i < length vs → weight (data_of v) < list_weight ds
item_falls vs ds i v viewed at l = rw (← viewed, at) (item_weighs vs i v l)

-- the key and the value at a place
pub pair_falls : (ps : List (Value × Value)) (ds : List (Data × Data)) (i : ℕ) (p : Value × Value) → pairs_view ps ≡ ds → p ≡ get_or ps i p → i < length ps → weight (data_of p.0) + weight (data_of p.1) < pairs_weight ds
pair_falls ps ds i p viewed at l = rw (← viewed, at) (pair_weighs ps i p l)
