-- When a result is told, and that it stays.
use Rattle.std.proofs.Common.{◌≡◌, ℕ, ◌<◌, ◌≤◌, ◌-◌, suc, nat_lt, ◌⊎◌, inl, inr, Bool, true, false, ◌||◌, List, [], ◌∷◌, ◌++◌, map, length, slice_get, Option, Some, None, is_some, IsSome, IfSome, option_to_list, refl, sym, ap, ◌∙◌, subst, arith, if◌then◌else◌}
use Rattle.std.proofs.lemmas.Bool.Decides.{nat_tests}
use Rattle.std.specs.Option.{option_map, option_or}
use Rattle.std.specs.Int.{int_min, saturate_signed, w64}
use Rattle.std.specs.List.{flat_map, fold as fold_of, zip}
use Rattle.containers.proofs.Choices.{by_test, both_left, both_right, taken_if, left_if}
use Rattle.command_table.specs.declared.routing.ResponsePolicy.{ResponsePolicy}
use Rattle.command_table.specs.declared.routing.ResponsePolicy.TheVariants.{AllSucceeded, OneSucceeded, FirstSucceededNonEmptyOrAllEmpty, Sum, Min, And, CombineArrays, CombineMaps, Special}
use Rattle.command_table.specs.declared.routing.MultipleNodeRoutingInfo.{MultipleNodeRoutingInfo}
use Rattle.command_table.specs.declared.routing.MultipleNodeRoutingInfo.TheVariants.{AllNodes, AllMasters, MultiSlot}
use Rattle.resp_value.specs.declared.value.Value.{Value}
use Rattle.resp_value.specs.declared.value.Value.TheVariants as value
use Rattle.cluster_retries.specs.declared.round_end.RoundEnd.{RoundEnd}
use Rattle.fan_out.specs.declared.parts.PartEnd.{PartEnd}
use Rattle.fan_out.specs.declared.parts.PartResult.{PartResult}
use Rattle.fan_out.specs.declared.parts.FoldResult.{FoldResult}
use Rattle.fan_out.specs.declared.parts.FoldResult.TheVariants as folded
use Rattle.fan_out.specs.declared.shape.Shape.{Shape}
use Rattle.fan_out.specs.declared.shape.Shape.TheVariants as shape
use Rattle.fan_out.specs.Came.{all_came, earlier, error_came, error_in, first_come, first_error, first_value, has_come, last_come, last_error, later, told, value_came, value_in, values}
use Rattle.fan_out.specs.Arrays.{misfit_of_keys, of_keys}
use Rattle.fan_out.specs.Fold.{convert, fold, of_arrays, of_shape, one_succeeded, together, when_all_succeed}
use Rattle.fan_out.specs.Numbers.{all_above, number, sum_of, width}
use Rattle.fan_out.specs.Shapes.{elements, misfit}
use Rattle.fan_out.specs.Tallies.{summed}
use Rattle.fan_out.specs.Laws.{AllEndedBy, AreLater, DecidedStays, EndedBy, IsLater, WholeIsDecided}

-- what came, and what came of it later: the same, where something came by the number; else nothing, or something behind it
abbrev Grows : {A : Type 0} → ℕ → Option (ℕ × A) → Option (ℕ × A) → Type 0
Grows last None p = IfSome p (λ y. last < y.0)
Grows last (Some x) p = (p ≡ Some x) × (x.0 ≤ last)

not_earlier : (a b : ℕ) → a ≤ b → nat_lt b a ≡ false
not_earlier a b h = grind (arith, nat_tests)

is_earlier : (a b : ℕ) → a < b → nat_lt a b ≡ true
is_earlier a b h = grind (arith, nat_tests)

-- of two that came behind the number the earlier did too
behind_earlier : {A : Type 0} (last : ℕ) (a b : Option (ℕ × A)) → IfSome a (λ y. last < y.0) → IfSome b (λ y. last < y.0) → IfSome (earlier a b) (λ y. last < y.0)
behind_earlier last None b h k = k
behind_earlier last (Some x) None h k = h
behind_earlier last (Some x) (Some y) h k = by (nat_lt y.0 x.0)
  where
    by : (t : Bool) → IfSome (if t then Some y else Some x) (λ z. last < z.0)
    by true = k
    by false = h

second_kept : {A : Type 0} (last : ℕ) (z : ℕ × A) (p q : Option (ℕ × A)) → IfSome p (λ y. last < y.0) → (q ≡ Some z) × (z.0 ≤ last) → (earlier p q ≡ Some z) × (z.0 ≤ last)
second_kept last z None q h k = k
second_kept last z (Some y) q h k =
    (ap (earlier (Some y)) k.0 ∙ taken_if (nat_lt z.0 y.0) (Some z) (Some y) (is_earlier z.0 y.0 (omega (arith, k.1, h))), k.1)

first_kept : {A : Type 0} (last : ℕ) (x : ℕ × A) (q : Option (ℕ × A)) → x.0 ≤ last → IfSome q (λ y. last < y.0) → earlier (Some x) q ≡ Some x
first_kept last x None h k = refl
first_kept last x (Some y) h k = left_if (nat_lt y.0 x.0) (Some y) (Some x) (not_earlier x.0 y.0 (omega (arith, h, k)))

grows_earlier : {A : Type 0} (last : ℕ) (a b p q : Option (ℕ × A)) → Grows last a p → Grows last b q → Grows last (earlier a b) (earlier p q)
grows_earlier last None None p q h k = behind_earlier last p q h k
grows_earlier last None (Some z) p q h k = second_kept last z p q h k
grows_earlier last (Some x) None p q h k = (ap (λ o. earlier o q) h.0 ∙ first_kept last x q h.1 k, h.1)
grows_earlier last (Some x) (Some z) p q h k = by (nat_lt z.0 x.0) (λ i. earlier (h.0 i) (k.0 i))
  where
    by : (t : Bool) → earlier p q ≡ (if t then Some z else Some x) → Grows last (if t then Some z else Some x) (earlier p q)
    by true e = (e, k.1)
    by false e = (e, h.1)

-- what is told of an end that stays
stays_told : {A : Type 0} (last number : ℕ) (w : Option A) → number ≤ last → Grows last (option_map (λ x. (number, x)) w) (option_map (λ x. (number, x)) w)
stays_told last number None h = tt
stays_told last number (Some x) h = (refl, h)

same_grows : {A : Type 0} (what : RoundEnd → Option A) (last : ℕ) (o : Option PartEnd) → IfSome o (λ e. e.arrival ≤ last) → Grows last (told what o) (told what o)
same_grows what last None h = tt
same_grows what last (Some e) h = stays_told last e.arrival (what e.end) h

behind_told : {A : Type 0} (last number : ℕ) (w : Option A) → last < number → IfSome {T = ℕ × A} (option_map (λ x. (number, x)) w) (λ y. last < y.0)
behind_told last number None h = tt
behind_told last number (Some x) h = h

new_told : {A : Type 0} (what : RoundEnd → Option A) (last : ℕ) (o : Option PartEnd) → IfSome o (λ e. last < e.arrival) → IfSome (told what o) (λ y. last < y.0)
new_told what last None h = tt
new_told what last (Some e) h = behind_told last e.arrival (what e.end) h

part_grows : {A : Type 0} (what : RoundEnd → Option A) (last : ℕ) (p q : PartResult) → EndedBy last p → IsLater last p q → Grows last (told what p.ended) (told what q.ended)
part_grows what last p q by_then (inl e) = subst (λ o. Grows last (told what p.ended) (told what o.ended)) (sym e) (same_grows what last p.ended by_then)
part_grows what last p q by_then (inr new) = subst (λ o. Grows last (told what o) (told what q.ended)) (sym new.0) (new_told what last q.ended new.1)

first_grows : {A : Type 0} (what : RoundEnd → Option A) (last : ℕ) (ps qs : List PartResult) → AllEndedBy last ps → AreLater last ps qs → Grows last (first_come (map (λ p. told what p.ended) ps)) (first_come (map (λ p. told what p.ended) qs))
first_grows what last [] [] h k = tt
first_grows what last [] (q ∷ qs) h k = absurd k
first_grows what last (p ∷ ps) [] h k = absurd k
first_grows what last (p ∷ ps) (q ∷ qs) h k =
    grows_earlier last (told what p.ended) (first_come (map (λ r. told what r.ended) ps)) (told what q.ended) (first_come (map (λ r. told what r.ended) qs))
    (part_grows what last p q h.0 k.0) (first_grows what last ps qs h.1 k.1)

kept : {A B : Type 0} (last : ℕ) (f : ℕ × A → B) (o p : Option (ℕ × A)) (r : B) → Grows last o p → option_map f o ≡ Some r → option_map f p ≡ Some r
kept last f None p r g h = cc
kept last f (Some x) p r g h = ap (option_map f) g.0 ∙ h

twice_mapped : {A B C : Type 0} (f : A → B) (g : B → C) (o : Option A) → option_map g (option_map f o) ≡ option_map (λ x. g (f x)) o
twice_mapped f g None = refl
twice_mapped f g (Some x) = refl

-- what is told by the first that came is told later too
told_by_first : {A : Type 0} (what : RoundEnd → Option A) (g : A → FoldResult) (last : ℕ) (ps qs : List PartResult) (r : FoldResult) → AllEndedBy last ps → AreLater last ps qs
    → option_map g (option_map (λ c. c.1) (first_come (map (λ p. told what p.ended) ps))) ≡ Some r → option_map g (option_map (λ c. c.1) (first_come (map (λ p. told what p.ended) qs))) ≡ Some r
told_by_first {A} what g last ps qs r h k e =
    let second : ℕ × A → A = λ c. c.1 in
    let both : ℕ × A → FoldResult = λ c. g c.1 in
    let before : Option (ℕ × A) = first_come (map (λ p. told what p.ended) ps) in
    let after : Option (ℕ × A) = first_come (map (λ p. told what p.ended) qs) in
    let told_before : option_map both before ≡ Some r = sym (twice_mapped second g before) ∙ e in
    let told_after : option_map both after ≡ Some r = kept last both before after r (first_grows what last ps qs h k) told_before in
    twice_mapped second g after ∙ told_after

-- where each part has come, nothing is new
has_not_come : (p : PartResult) → p.ended ≡ None → has_come p ≡ false
has_not_come p e = ap (λ o. is_some (told value_in o) || is_some (told error_in o)) e

same_part : (last : ℕ) (p q : PartResult) → IsLater last p q → has_come p ≡ true → q ≡ p
same_part last p q (inl e) h = e
same_part last p q (inr new) h = let no = has_not_come p new.0 in cc

same_parts : (last : ℕ) (ps qs : List PartResult) → AreLater last ps qs → all_came ps ≡ true → qs ≡ ps
same_parts last [] [] k h = refl
same_parts last [] (q ∷ qs) k h = absurd k
same_parts last (p ∷ ps) [] k h = absurd k
same_parts last (p ∷ ps) (q ∷ qs) k h =
    let first = same_part last p q k.0 (both_left (has_come p) (all_came ps) h) in
    let others = same_parts last ps qs k.1 (both_right (has_come p) (all_came ps) h) in
    λ i. first i ∷ others i

-- where not all came, the result is told by the first
by_first : {A : Type 0} (o : Option A) (b : Bool) (t : Option A) (r : A) → b ≡ false → option_or o (if b then t else None) ≡ Some r → o ≡ Some r
by_first None true t r f h = cc
by_first None false t r f h = h
by_first (Some x) b t r f h = h

not_told : {A : Type 0} (b : Bool) (t : Option A) (r : A) → b ≡ false → (if b then t else None) ≡ Some r → ⊥
not_told true t r f h = cc
not_told false t r f h = cc

-- while not all have come, an error decides where all have to succeed
all_still : (together : List Value → Option FoldResult) (last : ℕ) (ps qs : List PartResult) (r : FoldResult) → AllEndedBy last ps → AreLater last ps qs → all_came ps ≡ false → when_all_succeed together ps ≡ Some r → when_all_succeed together qs ≡ Some r
all_still together last ps qs r h k f e =
    ap (λ o. option_or o (if all_came qs then together (values qs) else None))
    (told_by_first error_in folded.Error last ps qs r h k (by_first (option_map folded.Error (first_error ps)) (all_came ps) (together (values ps)) r f e))

one_still : (last : ℕ) (ps qs : List PartResult) (r : FoldResult) → AllEndedBy last ps → AreLater last ps qs → all_came ps ≡ false → one_succeeded ps ≡ Some r → one_succeeded qs ≡ Some r
one_still last ps qs r h k f e =
    ap (λ o. option_or o (if all_came qs then option_map folded.Error (last_error qs) else None))
    (told_by_first value_in folded.Value last ps qs r h k (by_first (option_map folded.Value (first_value ps)) (all_came ps) (option_map folded.Error (last_error ps)) r f e))

still : (policy : Option ResponsePolicy) (routing : MultipleNodeRoutingInfo) (last : ℕ) (ps qs : List PartResult) (r : FoldResult) → AllEndedBy last ps → AreLater last ps qs → all_came ps ≡ false → fold policy routing ps ≡ Some r → fold policy routing qs ≡ Some r
unfolding fold
still None routing last ps qs r h k f e = absurd (not_told (all_came ps) _ r f e)
still (Some Special) routing last ps qs r h k f e = absurd (not_told (all_came ps) _ r f e)
still (Some FirstSucceededNonEmptyOrAllEmpty) routing last ps qs r h k f e = absurd (not_told (all_came ps) _ r f e)
still (Some OneSucceeded) routing last ps qs r h k f e = one_still last ps qs r h k f e
still (Some AllSucceeded) routing last ps qs r h k f e = all_still (together AllSucceeded routing) last ps qs r h k f e
still (Some Sum) routing last ps qs r h k f e = all_still (together Sum routing) last ps qs r h k f e
still (Some Min) routing last ps qs r h k f e = all_still (together Min routing) last ps qs r h k f e
still (Some And) routing last ps qs r h k f e = all_still (together And routing) last ps qs r h k f e
still (Some CombineArrays) routing last ps qs r h k f e = all_still (together CombineArrays routing) last ps qs r h k f e
still (Some CombineMaps) routing last ps qs r h k f e = all_still (together CombineMaps routing) last ps qs r h k f e

pub decided_stays : DecidedStays
decided_stays policy routing last ps qs r h k e =
    by_test (all_came ps) (fold policy routing qs ≡ Some r)
    (λ whole. ap (fold policy routing) (same_parts last ps qs k whole) ∙ e)
    (λ f. still policy routing last ps qs r h k f e)

-- once all came
some_or : {A : Type 0} (a b : Option A) → IsSome b → IsSome (option_or a b)
some_or None b h = h
some_or (Some x) b h = refl

some_first : {A : Type 0} (a b : Option A) → IsSome a → IsSome (option_or a b)
some_first None b h = cc
some_first (Some x) b h = refl

last_is_there : {A : Type 0} (x : A) (xs : List A) → IsSome (slice_get (x ∷ xs) (length (x ∷ xs) - 1))
last_is_there x [] = refl
last_is_there x (y ∷ ys) =
    let e : suc (length (y ∷ ys) - 1) ≡ length (x ∷ y ∷ ys) - 1 = omega arith in
    subst (λ n. IsSome (slice_get (x ∷ y ∷ ys) n)) e (last_is_there y ys)

map_some : {A B : Type 0} (f : A → B) (o : Option A) → IsSome o → IsSome (option_map f o)
map_some f None h = cc
map_some f (Some x) h = refl

some_behind : {A : Type 0} (o : Option A) (x : A) → IsSome (option_or o (Some x))
some_behind None x = refl
some_behind (Some y) x = refl

-- the values of some parts together are something, for a policy that asks that all succeed
shape_is_told : (shape : Shape) (vs : List Value) (x : FoldResult) → IsSome (of_shape shape vs (Some x))
shape_is_told shape vs x = some_behind (option_map convert (misfit shape vs)) x

arrays_are_told : (routing : MultipleNodeRoutingInfo) (vs : List Value) → IsSome (of_arrays routing vs)
arrays_are_told AllNodes vs = shape_is_told shape.Array vs (folded.Value (value.Array (flat_map elements vs)))
arrays_are_told AllMasters vs = shape_is_told shape.Array vs (folded.Value (value.Array (flat_map elements vs)))
arrays_are_told (MultiSlot routes) vs = some_behind (option_map convert (misfit_of_keys (zip routes vs))) (folded.Value (value.Array (of_keys (zip routes vs))))

-- the first part's value stands first
value_first : (p : PartResult) (ps : List PartResult) (x : ℕ × Value) → value_came p ≡ Some x → values (p ∷ ps) ≡ x.1 ∷ values ps
value_first p ps x e = ap (λ (o : Option (ℕ × Value)). option_to_list (option_map (λ c. c.1) o) ++ values ps) e

-- one of the two came
either_came : (p : PartResult) → has_come p ≡ true → IsSome (value_came p) ⊎ IsSome (error_came p)
either_came p h = by (is_some (value_came p)) refl
  where
    by : (b : Bool) → is_some (value_came p) ≡ b → IsSome (value_came p) ⊎ IsSome (error_came p)
    by true e = inl e
    by false e = inr (sym (ap (λ b. b || is_some (error_came p)) e) ∙ h)

earlier_is_there : {A : Type 0} (a b : Option (ℕ × A)) → IsSome a → IsSome (earlier a b)
earlier_is_there None b h = cc
earlier_is_there (Some x) None h = refl
earlier_is_there (Some x) (Some y) h = by (nat_lt y.0 x.0)
  where
    by : (t : Bool) → IsSome (if t then Some y else Some x)
    by true = refl
    by false = refl

later_is_there : {A : Type 0} (a b : Option (ℕ × A)) → IsSome a → IsSome (later a b)
later_is_there None b h = cc
later_is_there (Some x) None h = refl
later_is_there (Some x) (Some y) h = by (nat_lt y.0 x.0)
  where
    by : (t : Bool) → IsSome (if t then Some x else Some y)
    by true = refl
    by false = refl

first_is_told : {A : Type 0} (g : A → FoldResult) (a b : Option (ℕ × A)) → IsSome a → IsSome (option_map g (option_map (λ c. c.1) (earlier a b)))
first_is_told {A} g a b h =
    let second : ℕ × A → A = λ c. c.1 in
    map_some g (option_map second (earlier a b)) (map_some second (earlier a b) (earlier_is_there a b h))

last_is_told : {A : Type 0} (g : A → FoldResult) (a b : Option (ℕ × A)) → IsSome a → IsSome (option_map g (option_map (λ c. c.1) (later a b)))
last_is_told {A} g a b h =
    let second : ℕ × A → A = λ c. c.1 in
    map_some g (option_map second (later a b)) (map_some second (later a b) (later_is_there a b h))

-- with a first value
told_together : (together : List Value → Option FoldResult) (p : PartResult) (ps : List PartResult) → ((v : Value) (vs : List Value) → IsSome (together (v ∷ vs))) → has_come p ≡ true → IsSome (option_or (option_map folded.Error (first_error (p ∷ ps))) (together (values (p ∷ ps))))
told_together together p ps some h = by (either_came p h)
  where
    with_value : (o : Option (ℕ × Value)) → value_came p ≡ o → IsSome o → IsSome (together (values (p ∷ ps)))
    with_value None e k = cc
    with_value (Some x) e k = subst (λ vs. IsSome (together vs)) (sym (value_first p ps x e)) (some x.1 (values ps))

    by : IsSome (value_came p) ⊎ IsSome (error_came p) → IsSome (option_or (option_map folded.Error (first_error (p ∷ ps))) (together (values (p ∷ ps))))
    by (inl v) = some_or (option_map folded.Error (first_error (p ∷ ps))) (together (values (p ∷ ps))) (with_value (value_came p) refl v)
    by (inr e) =
        some_first (option_map folded.Error (first_error (p ∷ ps))) (together (values (p ∷ ps)))
        (first_is_told folded.Error (error_came p) (first_come (map error_came ps)) e)

is_told : {A : Type 0} (o : Option A) (b : Bool) (t : Option A) → b ≡ true → IsSome (option_or o t) → IsSome (option_or o (if b then t else None))
is_told o true t e h = h
is_told o false t e h = cc

all_told : (together : List Value → Option FoldResult) (p : PartResult) (ps : List PartResult) → ((v : Value) (vs : List Value) → IsSome (together (v ∷ vs))) → all_came (p ∷ ps) ≡ true → IsSome (when_all_succeed together (p ∷ ps))
all_told together p ps some h =
    is_told (option_map folded.Error (first_error (p ∷ ps))) (all_came (p ∷ ps)) (together (values (p ∷ ps))) h
    (told_together together p ps some (both_left (has_come p) (all_came ps) h))

one_told : (p : PartResult) (ps : List PartResult) → all_came (p ∷ ps) ≡ true → IsSome (one_succeeded (p ∷ ps))
one_told p ps h =
    is_told (option_map folded.Value (first_value (p ∷ ps))) (all_came (p ∷ ps)) (option_map folded.Error (last_error (p ∷ ps))) h
    (by (either_came p (both_left (has_come p) (all_came ps) h)))
  where
    by : IsSome (value_came p) ⊎ IsSome (error_came p) → IsSome (option_or (option_map folded.Value (first_value (p ∷ ps))) (option_map folded.Error (last_error (p ∷ ps))))
    by (inl v) =
        some_first (option_map folded.Value (first_value (p ∷ ps))) (option_map folded.Error (last_error (p ∷ ps)))
        (first_is_told folded.Value (value_came p) (first_come (map value_came ps)) v)
    by (inr e) =
        some_or (option_map folded.Value (first_value (p ∷ ps))) (option_map folded.Error (last_error (p ∷ ps)))
        (last_is_told folded.Error (error_came p) (last_come (map error_came ps)) e)

told_if : {A : Type 0} (b : Bool) (x : A) → b ≡ true → IsSome (if b then Some x else None)
told_if true x e = refl
told_if false x e = cc

pub whole_is_decided : WholeIsDecided
unfolding fold
whole_is_decided None routing p ps h = told_if (all_came (p ∷ ps)) _ h
whole_is_decided (Some Special) routing p ps h = told_if (all_came (p ∷ ps)) _ h
whole_is_decided (Some FirstSucceededNonEmptyOrAllEmpty) routing p ps h = told_if (all_came (p ∷ ps)) _ h
whole_is_decided (Some OneSucceeded) routing p ps h = one_told p ps h
whole_is_decided (Some AllSucceeded) routing p ps h = all_told (together AllSucceeded routing) p ps (λ v vs. map_some folded.Value (slice_get (v ∷ vs) (length (v ∷ vs) - 1)) (last_is_there v vs)) h
whole_is_decided (Some Sum) routing p ps h = all_told (together Sum routing) p ps (λ v vs. shape_is_told shape.Integer (v ∷ vs) (folded.Value (value.Int (saturate_signed w64 (sum_of (map number (v ∷ vs))))))) h
whole_is_decided (Some Min) routing p ps h = all_told (together Min routing) p ps (λ v vs. shape_is_told shape.Integer (v ∷ vs) (folded.Value (value.Int (fold_of int_min (number v) (map number vs))))) h
whole_is_decided (Some And) routing p ps h = all_told (together And routing) p ps (λ v vs. shape_is_told (shape.Integers (width (v ∷ vs))) (v ∷ vs) (folded.Value (value.Array (all_above (v ∷ vs))))) h
whole_is_decided (Some CombineArrays) routing p ps h = all_told (together CombineArrays routing) p ps (λ v vs. arrays_are_told routing (v ∷ vs)) h
whole_is_decided (Some CombineMaps) routing p ps h = all_told (together CombineMaps routing) p ps (λ v vs. shape_is_told shape.Counts (v ∷ vs) (folded.Value (value.Map (summed (v ∷ vs))))) h
