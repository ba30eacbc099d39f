-- The entries of a map of byte vectors, as names with numbers.
use Rattle.std.proofs.Common.{◌≡◌, ℕ, ℤ, pos, ◌+ℤ◌, to_z, of_z, Bool, true, false, cond, List, [], ◌∷◌, ◌++◌, append_assoc, map, Vec, Global, Ordering, Less, Equal, Greater, Option, Some, unwrap_or, refl, sym, ap, ap₂, ◌∙◌}
use Rattle.std.specs.Ordering.{match_ordering, nat_cmp}
use Rattle.std.specs.Int.{saturate_signed, w64, w128}
use Rattle.std.specs.Prelude.{FitsSigned}
use Rattle.std.specs.BTreeMap.{insert_entry, is_at}
use Rattle.std.specs.Map.{lookup}
use Rattle.std.specs.Cmp.Lexicographic.{slice_cmp}
use Rattle.std.proofs.lemmas.Int.{to_z-of_z}
use Rattle.resp_value.specs.Data.{Data, bulk, int}
use Rattle.fan_out.specs.Tallies.{Count, byte_order, number_of, shown}

abbrev Entries : Type 0
Entries = List (Vec ℕ Global × ℤ)

-- the vectors' order
abbrev vec_cmp : Vec ℕ Global → Vec ℕ Global → Ordering
vec_cmp x y = slice_cmp nat_cmp x.items y.items

abbrev pub as_counts : Entries → List Count
as_counts es = map (λ e. (e.0.items, e.1)) es

pub entered : (es : Entries) (v : Vec ℕ Global) (n : ℤ) → as_counts (insert_entry vec_cmp es v n) ≡ insert_entry byte_order (as_counts es) v.items n
entered [] v n = refl
entered (e ∷ es) v n = by (vec_cmp v e.0) (entered es v n)
  where
    by : (r : Ordering) → as_counts (insert_entry vec_cmp es v n) ≡ insert_entry byte_order (as_counts es) v.items n → as_counts (match_ordering r ((v, n) ∷ e ∷ es) ((e.0, n) ∷ es) (e ∷ insert_entry vec_cmp es v n)) ≡ match_ordering r ((v.items, n) ∷ (e.0.items, e.1) ∷ as_counts es) ((e.0.items, n) ∷ as_counts es) ((e.0.items, e.1) ∷ insert_entry byte_order (as_counts es) v.items n)
    by Less h = refl
    by Equal h = refl
    by Greater h = ap (λ cs. (e.0.items, e.1) ∷ cs) h

pub looked_up : (name : List ℕ) (es : Entries) → lookup (is_at (λ v. slice_cmp nat_cmp name v.items)) es ≡ lookup (is_at (byte_order name)) (as_counts es)
looked_up name [] = refl
looked_up name (e ∷ es) = by (is_at (byte_order name) e.0.items) (looked_up name es)
  where
    by : (b : Bool) → lookup (is_at (λ v. slice_cmp nat_cmp name v.items)) es ≡ lookup (is_at (byte_order name)) (as_counts es) → cond b (Some e.1) (lookup (is_at (λ v. slice_cmp nat_cmp name v.items)) es) ≡ cond b (Some e.1) (lookup (is_at (byte_order name)) (as_counts es))
    by true h = refl
    by false h = h

-- the number that is found under a name
pub number_found : (name : List ℕ) (es : Entries) (t : List Count) (o : Option ℤ) (had : ℤ) → as_counts es ≡ t → o ≡ lookup (is_at (λ v. slice_cmp nat_cmp name v.items)) es → had ≡ unwrap_or o (pos 0) → had ≡ number_of name t
number_found name es t o had view found is =
    is ∙ ap (λ x. unwrap_or x (pos 0)) (found ∙ looked_up name es) ∙ ap (number_of name) view

-- what the sum of two numbers is, which are written in 128 bits
pub sum_is : (had from n m : ℤ) → FitsSigned w128 had → FitsSigned w128 from → FitsSigned w64 n → had ≡ m → from ≡ to_z w64 (of_z w64 n) → to_z w128 (of_z w128 had) +ℤ to_z w128 (of_z w128 from) ≡ m +ℤ n
sum_is had from n m h f fits is of =
    ap₂ ◌+ℤ◌ (to_z-of_z w128 had h ∙ is) (to_z-of_z w128 from f ∙ of ∙ to_z-of_z w64 n fits)

-- the names with one more
pub entered_is : (es all : Entries) (t : List Count) (v : Vec ℕ Global) (name : List ℕ) (n m : ℤ) → as_counts es ≡ t → v.items ≡ name → n ≡ m → all ≡ insert_entry vec_cmp es v n → as_counts all ≡ insert_entry byte_order t name m
entered_is es all t v name n m view items value is =
    ap as_counts is ∙ entered es v n ∙ (λ i. insert_entry byte_order (view i) (items i) (value i))

-- the pairs so far with those that are left
pub shown_first : (pairs : List (Data × Data)) (left es : Entries) (t : List Count) → pairs ≡ [] → left ≡ es → as_counts es ≡ t → pairs ++ map shown (as_counts left) ≡ map shown t
shown_first pairs left es t none all view =
    ap (λ ps. ps ++ map shown (as_counts left)) none ∙ ap (λ xs. map shown (as_counts xs)) all ∙ ap (map shown) view

pub shown_next : (pairs more : List (Data × Data)) (left rest : Entries) (v : Vec ℕ Global) (n : ℤ) (name : List ℕ) (k : ℤ) (all : List (Data × Data)) → left ≡ (v, n) ∷ rest → more ≡ pairs ++ (bulk name, int k) ∷ [] → name ≡ v.items → k ≡ saturate_signed w64 n → pairs ++ map shown (as_counts left) ≡ all → more ++ map shown (as_counts rest) ≡ all
shown_next pairs more left rest v n name k all taken pushed named number so_far =
    ap (λ ps. ps ++ map shown (as_counts rest)) pushed
    ∙ append_assoc pairs ((bulk name, int k) ∷ []) (map shown (as_counts rest))
    ∙ (λ i. pairs ++ (bulk (named i), int (number i)) ∷ map shown (as_counts rest))
    ∙ ap (λ xs. pairs ++ map shown (as_counts xs)) (sym taken)
    ∙ so_far
