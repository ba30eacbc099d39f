-- The error that came first, a sum, and elements at the places of their keys.
use Rattle.std.proofs.Common.{◌≡◌, ℕ, zero, suc, ◌-◌, ◌^◌, ◌<◌, ◌≤◌, min, nat_lt, ℤ, pos, negsuc, Bool, true, false, List, [], ◌∷◌, ◌++◌, map, length, replicate, slice_get, slice_set, Option, Some, None, IfSome, refl, ap, ◌∙◌, arith, if◌then◌else◌}
use Rattle.std.proofs.lemmas.Bool.Decides.{nat_tests}
use Rattle.std.specs.Int.{saturate_signed, w64}
use Rattle.std.specs.Prelude.{FitsSigned}
use Rattle.std.specs.Option.{option_map, option_or}
use Rattle.std.proofs.Math.ListN.{length-set}
use Rattle.containers.proofs.Choices.{taken_if, left_if}
use Rattle.containers.proofs.Places.{get_set_same, get_set_other}
use Rattle.slot_hash.specs.declared.address.NodeAddress.{NodeAddress}
use Rattle.command_table.specs.declared.routing.ResponsePolicy.TheVariants.{AllSucceeded, OneSucceeded, FirstSucceededNonEmptyOrAllEmpty, Sum, Min, And, CombineArrays, CombineMaps, Special}
use Rattle.command_table.specs.declared.routing.MultipleNodeRoutingInfo.{MultipleNodeRoutingInfo}
use Rattle.resp_value.specs.Data.{Data, nil}
use Rattle.resp_value.specs.declared.value.Value.{Value}
use Rattle.resp_value.specs.declared.value.Value.TheVariants as value
use Rattle.redis_error.specs.declared.redis_error.RedisError.{RedisError}
use Rattle.fan_out.specs.declared.parts.PartResult.{PartResult}
use Rattle.fan_out.specs.declared.parts.FoldResult.{FoldResult}
use Rattle.fan_out.specs.declared.parts.FoldResult.TheVariants as folded
use Rattle.fan_out.specs.declared.shape.Shape.TheVariants as shape
use Rattle.fan_out.specs.Came.{all_came, earlier, error_came, first_come, values}
use Rattle.fan_out.specs.Shapes.{misfit}
use Rattle.fan_out.specs.Numbers.{number, sum_of}
use Rattle.fan_out.specs.Arrays.{each_put, keyed}
use Rattle.fan_out.specs.Fold.{convert, fold, together, when_all_succeed}
use Rattle.fan_out.specs.Laws.{AsManyAsKeys, ElementsStandAtTheirKeys, ErrorsBehind, ErrorsFrom, FirstErrorIsTold, HasNo, SumIsTheSum, with_failure, with_integer}

-- the error that came first
not_earlier : (a b : ℕ) → a ≤ b → nat_lt b a ≡ false
not_earlier a b h = grind (arith, nat_tests)

is_earlier : (a b : ℕ) → a < b → nat_lt a b ≡ true
is_earlier a b h = grind (arith, nat_tests)

from_earlier : {A : Type 0} (n : ℕ) (a b : Option (ℕ × A)) → IfSome a (λ c. n ≤ c.0) → IfSome b (λ c. n ≤ c.0) → IfSome (earlier a b) (λ c. n ≤ c.0)
from_earlier n None b h k = k
from_earlier n (Some x) None h k = h
from_earlier n (Some x) (Some y) h k = by (nat_lt y.0 x.0)
  where
    by : (t : Bool) → IfSome (if t then Some y else Some x) (λ c. n ≤ c.0)
    by true = k
    by false = h

errors_from : (n : ℕ) (ps : List PartResult) → ErrorsFrom n ps → IfSome (first_come (map error_came ps)) (λ c. n ≤ c.0)
errors_from n [] h = tt
errors_from n (p ∷ ps) h = from_earlier n (error_came p) (first_come (map error_came ps)) h.0 (errors_from n ps h.1)

first_of_rest : {A : Type 0} (x : ℕ × A) (o : Option (ℕ × A)) → IfSome o (λ c. x.0 ≤ c.0) → earlier (Some x) o ≡ Some x
first_of_rest x None h = refl
first_of_rest x (Some y) h = left_if (nat_lt y.0 x.0) (Some y) (Some x) (not_earlier x.0 y.0 h)

before_later : {A : Type 0} (x : ℕ × A) (o : Option (ℕ × A)) → IfSome o (λ c. x.0 < c.0) → earlier o (Some x) ≡ Some x
before_later x None h = refl
before_later x (Some y) h = taken_if (nat_lt x.0 y.0) (Some x) (Some y) (is_earlier x.0 y.0 h)

first_error_is : (before behind : List PartResult) (p : PartResult) (x : ℕ × RedisError) → error_came p ≡ Some x → ErrorsBehind x.0 before → ErrorsFrom x.0 behind → first_come (map error_came (before ++ p ∷ behind)) ≡ Some x
first_error_is [] behind p x e h k = ap (λ o. earlier o (first_come (map error_came behind))) e ∙ first_of_rest x (first_come (map error_came behind)) (errors_from x.0 behind k)
first_error_is (q ∷ before) behind p x e h k = ap (earlier (error_came q)) (first_error_is before behind p x e h.1 k) ∙ before_later x (error_came q) h.0

told_first : (together : List Value → Option FoldResult) (ps : List PartResult) (x : ℕ × RedisError) → first_come (map error_came ps) ≡ Some x → when_all_succeed together ps ≡ Some (folded.Error x.1)
told_first together ps x e = ap (λ (o : Option (ℕ × RedisError)). option_or (option_map folded.Error (option_map (λ c. c.1) o)) (if all_came ps then together (values ps) else None)) e

pub first_error_is_told : FirstErrorIsTold
unfolding fold
first_error_is_told AllSucceeded routing before behind address n e asks h k = told_first (together AllSucceeded routing) (before ++ with_failure address n e ∷ behind) (n, e) (first_error_is before behind (with_failure address n e) (n, e) refl h k)
first_error_is_told Sum routing before behind address n e asks h k = told_first (together Sum routing) (before ++ with_failure address n e ∷ behind) (n, e) (first_error_is before behind (with_failure address n e) (n, e) refl h k)
first_error_is_told Min routing before behind address n e asks h k = told_first (together Min routing) (before ++ with_failure address n e ∷ behind) (n, e) (first_error_is before behind (with_failure address n e) (n, e) refl h k)
first_error_is_told And routing before behind address n e asks h k = told_first (together And routing) (before ++ with_failure address n e ∷ behind) (n, e) (first_error_is before behind (with_failure address n e) (n, e) refl h k)
first_error_is_told CombineArrays routing before behind address n e asks h k = told_first (together CombineArrays routing) (before ++ with_failure address n e ∷ behind) (n, e) (first_error_is before behind (with_failure address n e) (n, e) refl h k)
first_error_is_told CombineMaps routing before behind address n e asks h k = told_first (together CombineMaps routing) (before ++ with_failure address n e ∷ behind) (n, e) (first_error_is before behind (with_failure address n e) (n, e) refl h k)
first_error_is_told OneSucceeded routing before behind address n e asks h k = cc
first_error_is_told FirstSucceededNonEmptyOrAllEmpty routing before behind address n e asks h k = cc
first_error_is_told Special routing before behind address n e asks h k = cc

-- a sum over integers
abbrev Integers : Type 0
Integers = List (NodeAddress × ℕ × ℤ)

no_error : (rows : Integers) → first_come (map error_came (map with_integer rows)) ≡ None
no_error [] = refl
no_error (r ∷ rows) = no_error rows

all_there : (rows : Integers) → all_came (map with_integer rows) ≡ true
all_there [] = refl
all_there (r ∷ rows) = all_there rows

abbrev integers : Integers → List Value
integers rows = map (λ r. value.Int r.2) rows

values_are : (rows : Integers) → values (map with_integer rows) ≡ integers rows
values_are [] = refl
values_are (r ∷ rows) = ap (λ vs. value.Int r.2 ∷ vs) (values_are rows)

no_misfit : (rows : Integers) → misfit shape.Integer (integers rows) ≡ None
no_misfit [] = refl
no_misfit (r ∷ rows) = no_misfit rows

numbers_are : (rows : Integers) → map number (integers rows) ≡ map (λ r. r.2) rows
numbers_are [] = refl
numbers_are (r ∷ rows) = ap (λ ns. r.2 ∷ ns) (numbers_are rows)

fits_as_it_is : (z : ℤ) → FitsSigned w64 z → saturate_signed w64 z ≡ z
fits_as_it_is (pos n) h =
    let l : n < 2 ^ 63 = h.sfits in
    let e : min n (2 ^ 63 - 1) ≡ n = omega arith in
    ap pos e
fits_as_it_is (negsuc n) h =
    let l : n < 2 ^ 63 = h.sfits in
    let e : min n (2 ^ 63 - 1) ≡ n = omega arith in
    ap negsuc e

summed_up : (rows : Integers) → FitsSigned w64 (sum_of (map (λ r. r.2) rows)) → saturate_signed w64 (sum_of (map number (integers rows))) ≡ sum_of (map (λ r. r.2) rows)
summed_up rows h = ap (λ ns. saturate_signed w64 (sum_of ns)) (numbers_are rows) ∙ fits_as_it_is (sum_of (map (λ r. r.2) rows)) h

together_is : (routing : MultipleNodeRoutingInfo) (rows : Integers) → FitsSigned w64 (sum_of (map (λ r. r.2) rows)) → together Sum routing (integers rows) ≡ Some (folded.Value (value.Int (sum_of (map (λ r. r.2) rows))))
together_is routing rows h =
    ap (λ (o : Option Value). option_or (option_map convert o) (Some (folded.Value (value.Int (saturate_signed w64 (sum_of (map number (integers rows)))))))) (no_misfit rows)
    ∙ ap (λ n. Some (folded.Value (value.Int n))) (summed_up rows h)

whole_of : (t : List Value → Option FoldResult) (ps : List PartResult) (vs : List Value) → first_come (map error_came ps) ≡ None → all_came ps ≡ true → values ps ≡ vs → when_all_succeed t ps ≡ t vs
whole_of t ps vs none all are =
    ap (λ (o : Option (ℕ × RedisError)). option_or (option_map folded.Error (option_map (λ c. c.1) o)) (if all_came ps then t (values ps) else None)) none
    ∙ taken_if (all_came ps) (t (values ps)) None all
    ∙ ap t are

pub sum_is_the_sum : SumIsTheSum
unfolding fold
sum_is_the_sum routing rows h =
    whole_of (together Sum routing) (map with_integer rows) (integers rows) (no_error rows) (all_there rows) (values_are rows) ∙ together_is routing rows h

-- elements at the places of their keys
length_put : (row : List Data) (es : List (ℕ × Data)) → length (each_put row es) ≡ length row
length_put row [] = refl
length_put row (e ∷ es) = length_put (slice_set row e.0 e.1) es ∙ length-set row e.0 e.1

length_nils : (n : ℕ) → length (replicate n nil) ≡ n
length_nils zero = refl
length_nils (suc n) = ap suc (length_nils n)

pub as_many_as_keys : AsManyAsKeys
as_many_as_keys rows = length_put (replicate (length (keyed rows)) nil) (keyed rows) ∙ length_nils (length (keyed rows))

put_on : (row : List Data) (xs ys : List (ℕ × Data)) → each_put row (xs ++ ys) ≡ each_put (each_put row xs) ys
put_on row [] ys = refl
put_on row (x ∷ xs) ys = put_on (slice_set row x.0 x.1) xs ys

untouched : (row : List Data) (es : List (ℕ × Data)) (place : ℕ) → HasNo place es → slice_get (each_put row es) place ≡ slice_get row place
untouched row [] place h = refl
untouched row (e ∷ es) place h = untouched (slice_set row e.0 e.1) es place h.1 ∙ get_set_other row e.0 place e.1 h.0

pub elements_stand : ElementsStandAtTheirKeys
elements_stand rows before behind place element is within none =
    let nils : List Data = replicate (length (keyed rows)) nil in
    let long : place < length (each_put nils before) = omega (arith, length_put nils before, length_nils (length (keyed rows))) in
    ap (λ es. slice_get (each_put nils es) place) is
    ∙ ap (λ row. slice_get row place) (put_on nils before ((place, element) ∷ behind))
    ∙ untouched (slice_set (each_put nils before) place element) behind place none
    ∙ get_set_same (each_put nils before) place element long
