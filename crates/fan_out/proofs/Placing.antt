-- Rows that grow, and values that are put in their places.
use Rattle.std.proofs.Common.{◌≡◌, ℕ, zero, suc, ◌+◌, ◌≤◌, List, [], ◌∷◌, ◌++◌, length, map, replicate, slice_set, refl, ap, arith, add-one}
use Rattle.std.specs.List.{range_with_len}
use Rattle.std.proofs.lemmas.List.FromFn.{map-range_with_len_more}
use Rattle.resp_value.specs.Data.{Data}
use Rattle.resp_value.specs.View.{data_of, list_view}
use Rattle.resp_value.specs.declared.value.Value.{Value}

pub put_in : (row : List Value) (place : ℕ) (v : Value) → list_view (slice_set row place v) ≡ slice_set (list_view row) place (data_of v)
put_in [] place v = refl
put_in (x ∷ row) zero v = refl
put_in (x ∷ row) (suc place) v = ap (λ ds. data_of x ∷ ds) (put_in row place v)

pub put_past : (row : List Value) (place : ℕ) (d : Data) → length row ≤ place → list_view row ≡ slice_set (list_view row) place d
put_past [] place d h = refl
put_past (x ∷ row) zero d h = absurd (omega arith)
put_past (x ∷ row) (suc place) d h = ap (λ ds. data_of x ∷ ds) (put_past row place d (omega arith))

again : {A : Type 0} (n : ℕ) (x : A) → replicate (suc n) x ≡ replicate n x ++ x ∷ []
again zero x = refl
again (suc n) x = ap (λ xs. x ∷ xs) (again n x)

pub one_nil_more : (n : ℕ) (d : Data) → replicate (n + 1) d ≡ replicate n d ++ d ∷ []
one_nil_more n d = rw add-one (again n d)

pub one_place_more : (f : ℕ → Data) (n : ℕ) → map f (range_with_len 0 (n + 1)) ≡ map f (range_with_len 0 n) ++ f n ∷ []
one_place_more f n = map-range_with_len_more f 0 n n (omega arith)
