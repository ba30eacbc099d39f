-- Keys and values that are read of a list by twos.
use Rattle.std.proofs.Common.{rules, ◌≡◌, ◌==◌, true, false, ◌-◌, ◌<◌, ◌≤◌, List, [], ◌∷◌, ◌++◌, length, map, get_or, take, drop, Option, Some, None, option_map, refl, sym, ap, subst, arith}
use Rattle.std.proofs.lemmas.List.{take_rest}
use Rattle.std.specs.List.{AllByRecursion}
use Rattle.resp_value.specs.declared.value.Value.{Value}
use Rattle.resp_value.specs.Data.{Data}
use Rattle.resp_value.specs.View.{data_of, list_view}
use Rattle.resp_convert.specs.Types.{IsEachOf, paired}

append_one : {S : Type 0} (xs : List S) (y : S) (ys : List S) → xs ++ y ∷ ys ≡ (xs ++ y ∷ []) ++ ys
append_one [] y ys = refl
append_one (x ∷ xs) y ys = ap (λ zs. x ∷ zs) (append_one xs y ys)

append_none : {S : Type 0} (xs : List S) → xs ++ [] ≡ xs
append_none [] = refl
append_none (x ∷ xs) = ap (λ zs. x ∷ zs) (append_none xs)

module _ {A S : Type 0} (reads : A → S → Type 0) where
  -- whatever the rest is read as, `read` before it is what all is read as; and where all is read, the rest is
  abbrev pub IsReadSoFar : List S → Option (List A) → Option (List A) → Type 0
  IsReadSoFar read rest all =
      ((ys : List S) → IsEachOf reads rest ys → IsEachOf reads all (read ++ ys)) × ((zs : List S) → IsEachOf reads all zs → (ys : List S) × IsEachOf reads rest ys)

  pub begun : (all : Option (List A)) → IsReadSoFar [] all all
  begun all = ((λ ys each. each), λ zs each. (zs, each))

  before : (rest : Option (List A)) (a : A) (x : S) (ys : List S) → reads a x → IsEachOf reads rest ys → IsEachOf reads (option_map (λ ds. a ∷ ds) rest) (x ∷ ys)
  before None a x ys is each = each
  before (Some ds) a x ys is each = (is, each)

  behind : (rest : Option (List A)) (a : A) (ys : List S) → IsEachOf reads (option_map (λ ds. a ∷ ds) rest) ys → (zs : List S) × IsEachOf reads rest zs
  behind None a ys each = absurd each
  behind (Some ds) a [] each = absurd each
  behind (Some ds) a (y ∷ ys) each = (ys, each.1)

  none_before : (rest : Option (List A)) (a : A) (ys : List S) → ((x : S) → reads a x → ⊥) → IsEachOf reads (option_map (λ ds. a ∷ ds) rest) ys → ⊥
  none_before None a ys none each = each
  none_before (Some ds) a [] none each = each
  none_before (Some ds) a (y ∷ ys) none each = none y each.0

  pub one_more : (read : List S) (rest all : Option (List A)) (a : A) (x : S) → IsReadSoFar read (option_map (λ ds. a ∷ ds) rest) all → reads a x → IsReadSoFar (read ++ x ∷ []) rest all
  one_more read rest all a x so_far is = (
    (λ ys each. subst (IsEachOf reads all) (append_one read x ys) (so_far.0 (x ∷ ys) (before rest a x ys is each))),
    λ zs each. let left = so_far.1 zs each in behind rest a left.0 left.1,
  )

  pub not_one : (read : List S) (rest all : Option (List A)) (a : A) → IsReadSoFar read (option_map (λ ds. a ∷ ds) rest) all → ((x : S) → reads a x → ⊥) → (zs : List S) → IsEachOf reads all zs → ⊥
  not_one read rest all a so_far none zs each = let left = so_far.1 zs each in none_before rest a left.0 none left.1

  pub whole : (read : List S) (all : Option (List A)) → IsReadSoFar read (Some []) all → IsEachOf reads all read
  whole read all so_far = subst (IsEachOf reads all) (append_none read) (so_far.0 [] tt)

  pub odd : (read : List S) (all : Option (List A)) → IsReadSoFar read None all → (zs : List S) → IsEachOf reads all zs → ⊥
  odd read all so_far zs each = (so_far.1 zs each).1

-- the value at the front was taken: what was taken and what is left are the whole, and what is left fits
pub one_taken : {V A S : Type 0} (view : V → A) (fits : A → Type 0) (reads : A → S → Type 0) (taken more : List S) (rest left : List V) (v : V) (x : S) (all : Option (List A)) → rest ≡ v ∷ left → more ≡ taken ++ x ∷ [] → IsReadSoFar reads taken (Some (map view rest)) all × AllByRecursion fits (map view rest) → reads (view v) x → IsReadSoFar reads more (Some (map view left)) all × AllByRecursion fits (map view left)
one_taken view fits reads taken more rest left v x all front made so_far is =
    let now = subst (λ vs. IsReadSoFar reads taken (Some (map view vs)) all × AllByRecursion fits (map view vs)) front so_far in
    (subst (λ ys. IsReadSoFar reads ys (Some (map view left)) all) (sym made) (one_more reads taken (Some (map view left)) all (view v) x now.0 is), now.1.1)

-- the two at the front, and the pairs of what follows them
two_at_front : (vs : List Value) (k v : Value) → 2 ≤ length vs → k ≡ get_or vs 0 k → v ≡ get_or vs 1 v → paired (list_view vs) ≡ option_map (λ ds. (data_of k, data_of v) ∷ ds) (paired (list_view (take (length vs - 2) (drop 2 vs))))
two_at_front [] k v h key value = absurd (omega arith)
two_at_front (a ∷ []) k v h key value = absurd (omega arith)
two_at_front (a ∷ b ∷ vs) k v h key value =
    subst (λ us. paired (list_view (a ∷ b ∷ vs)) ≡ option_map (λ ds. (data_of k, data_of v) ∷ ds) (paired (list_view us))) (sym (take_rest (a ∷ b ∷ vs) 2)) (
    subst (λ u. paired (list_view (a ∷ b ∷ vs)) ≡ option_map (λ ds. (data_of u, data_of v) ∷ ds) (paired (list_view vs))) (sym key) (
    subst (λ u. paired (list_view (a ∷ b ∷ vs)) ≡ option_map (λ ds. (data_of a, data_of u) ∷ ds) (paired (list_view vs))) (sym value) refl))

module _ {S : Type 0} (reads : Data × Data → S → Type 0) where
  pub pair_more : (read : List S) (vs : List Value) (all : Option (List (Data × Data))) (k v : Value) (x : S) → 2 ≤ length vs → k ≡ get_or vs 0 k → v ≡ get_or vs 1 v → IsReadSoFar reads read (paired (list_view vs)) all → reads (data_of k, data_of v) x → IsReadSoFar reads (read ++ x ∷ []) (paired (list_view (take (length vs - 2) (drop 2 vs)))) all
  pair_more read vs all k v x h key value so_far =
      one_more reads read (paired (list_view (take (length vs - 2) (drop 2 vs)))) all (data_of k, data_of v) x (subst (λ o. IsReadSoFar reads read o all) (two_at_front vs k v h key value) so_far)

  pub no_pair : (read : List S) (vs : List Value) (all : Option (List (Data × Data))) (k v : Value) → 2 ≤ length vs → k ≡ get_or vs 0 k → v ≡ get_or vs 1 v → IsReadSoFar reads read (paired (list_view vs)) all → ((x : S) → reads (data_of k, data_of v) x → ⊥) → (zs : List S) → IsEachOf reads all zs → ⊥
  no_pair read vs all k v h key value so_far =
      not_one reads read (paired (list_view (take (length vs - 2) (drop 2 vs)))) all (data_of k, data_of v) (subst (λ o. IsReadSoFar reads read o all) (two_at_front vs k v h key value) so_far)

  pub all_read : (read : List S) (vs : List Value) (all : Option (List (Data × Data))) → true ≡ (length vs == 0) → IsReadSoFar reads read (paired (list_view vs)) all → IsEachOf reads all read
  all_read read [] all none so_far = whole reads read all so_far
  all_read read (v ∷ vs) all none so_far = absurd (search (rules))

  pub one_left : (read : List S) (vs : List Value) (all : Option (List (Data × Data))) → length vs < 2 → false ≡ (length vs == 0) → IsReadSoFar reads read (paired (list_view vs)) all → (zs : List S) → IsEachOf reads all zs → ⊥
  one_left read [] all few some so_far = absurd (search (rules))
  one_left read (v ∷ []) all few some so_far = odd reads read all so_far
  one_left read (v ∷ w ∷ vs) all few some so_far = absurd (omega arith)
