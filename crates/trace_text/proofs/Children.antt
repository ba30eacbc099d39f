-- The children of a value: how many there are, and that each has fewer nodes.
use Rattle.std.specs.Prelude.{◌≡◌, ℕ, zero, suc, ◌<◌, List, [], ◌∷◌, length, get_or}
use Rattle.std.proofs.Common.{arith}
use Rattle.resp_value.specs.Data.{Data, weight, list_weight, pairs_weight, items_of, list_of, members_of, pairs_of}
use Rattle.resp_value.specs.View.{data_of, list_view, pairs_view}
use Rattle.resp_value.specs.declared.value.Value.{Value}

pub count_of_items : (vs : List Value) → length vs ≡ length (list_of (items_of (list_view vs)))
count_of_items [] = omega arith
count_of_items (v ∷ vs) = omega (arith, count_of_items vs)

pub count_of_members : (ps : List (Value × Value)) → length ps ≡ length (pairs_of (members_of (pairs_view ps)))
count_of_members [] = omega arith
count_of_members (p ∷ ps) = omega (arith, count_of_members ps)

item_weighs : (vs : List Value) (i : ℕ) (d : Value) → i < length vs → weight (data_of (get_or vs i d)) < list_weight (list_view vs)
item_weighs [] i d l = absurd (omega arith)
item_weighs (v ∷ vs) zero d l = omega arith
item_weighs (v ∷ vs) (suc i) d l = omega (arith, item_weighs vs i d (omega arith))

key_weighs : (ps : List (Value × Value)) (i : ℕ) (d : Value × Value) → i < length ps → weight (data_of (get_or ps i d).0) < pairs_weight (pairs_view ps)
key_weighs [] i d l = absurd (omega arith)
key_weighs (p ∷ ps) zero d l = omega arith
key_weighs (p ∷ ps) (suc i) d l = omega (arith, key_weighs ps i d (omega arith))

member_weighs : (ps : List (Value × Value)) (i : ℕ) (d : Value × Value) → i < length ps → weight (data_of (get_or ps i d).1) < pairs_weight (pairs_view ps)
member_weighs [] i d l = absurd (omega arith)
member_weighs (p ∷ ps) zero d l = omega arith
member_weighs (p ∷ ps) (suc i) d l = omega (arith, member_weighs ps i d (omega arith))

-- the value at a place
pub item_falls : (vs : List Value) (ds : List Data) (i : ℕ) (v : Value) → list_view vs ≡ ds → v ≡ get_or vs i v → i < length vs → weight (data_of v) < list_weight ds
item_falls vs ds i v viewed at l = rw (← viewed, at) (item_weighs vs i v l)

-- the key and the value at a place
pub key_falls : (ps : List (Value × Value)) (ds : List (Data × Data)) (i : ℕ) (p : Value × Value) → pairs_view ps ≡ ds → p ≡ get_or ps i p → i < length ps → weight (data_of p.0) < pairs_weight ds
key_falls ps ds i p viewed at l = rw (← viewed, at) (key_weighs ps i p l)

pub member_falls : (ps : List (Value × Value)) (ds : List (Data × Data)) (i : ℕ) (p : Value × Value) → pairs_view ps ≡ ds → p ≡ get_or ps i p → i < length ps → weight (data_of p.1) < pairs_weight ds
member_falls ps ds i p viewed at l = rw (← viewed, at) (member_weighs ps i p l)
