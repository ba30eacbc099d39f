-- What a look tells, and what is moved then.
use Rattle.std.proofs.Common.{◌≡◌, Bool, List, Option, Some, None, Result, Ok, Err, IfOk, Vec, sym, ap, subst, ◌∙◌}
use Rattle.std.specs.List.{AllByRecursion}
use Rattle.std.specs.declared.cmp.Ordering.{Ordering}
use Rattle.resp_value.specs.Data.{Data, dict, members_of}
use Rattle.resp_convert.specs.declared.aggregates.KeyValues.{KeyValues}
use Rattle.resp_convert.specs.declared.convert.Look.{Look}
use Rattle.resp_convert.specs.declared.convert.Look.TheVariants.{Fits, Unfit, Untold}
use Rattle.resp_convert.specs.Convert.{IsTold}
use Rattle.resp_convert.specs.Types.{AllFit, FitsList, FitsPair, FitsPairs, IsEach, IsEachOf, IsHashMap, IsHashSet, IsList, IsMap, IsOrderedSet, IsPair, IsPairs, bare, items_in, members_in, pairs_in}
use Rattle.resp_convert.proofs.Each.{same_pairs}

-- what is told of lists is told of what is made of them
pub told_of : {A S R : Type 0} (moves fits : A → Type 0) (reads : A → S → Type 0) (made : A → R → Type 0) (d : A) → ((x : R) → made d x → (s : S) × reads d s) → (look : Look) → IsTold moves fits reads d look → IsTold moves fits made d look
told_of moves fits reads made d of Fits told = told
told_of moves fits reads made d of Unfit none = λ x is. let s = of x is in none s.0 s.1
told_of moves fits reads made d of Untold told = told

-- the look at the value, where the key fits
pub told_pair : {K V : Type 0} (moves_key moves_value fits_key fits_value : Data → Type 0) (keys : Data → K → Type 0) (values : Data → V → Type 0) (k d : Data) → fits_key k → (look : Look) → IsTold moves_value fits_value values d look → IsTold (FitsPair moves_key moves_value) (FitsPair fits_key fits_value) (IsPair keys values) (k, d) look
told_pair moves_key moves_value fits_key fits_value keys values k d fit Fits told = (fit, told)
told_pair moves_key moves_value fits_key fits_value keys values k d fit Unfit none = λ x is. none x.1 is.1
told_pair moves_key moves_value fits_key fits_value keys values k d fit Untold told = λ both. told both.1

-- a key that is nothing of its type
pub no_key : {K V : Type 0} (keys : Data → K → Type 0) (values : Data → V → Type 0) (k d : Data) → ((x : K) → keys k x → ⊥) → (x : K × V) → IsPair keys values (k, d) x → ⊥
no_key keys values k d none x is = none x.0 is.0

-- what is told of items is told of the array or the set
pub told_list : {S : Type 0} (moves fits : Data → Type 0) (reads : Data → S → Type 0) (d : Data) (ds : List Data) → items_in (bare d) ≡ Some ds → (look : Look) → IsTold (AllByRecursion moves) (AllByRecursion fits) (IsEach reads) ds look → IsTold (FitsList moves) (FitsList fits) (IsList reads) d look
told_list moves fits reads d ds there Fits told = subst (AllFit fits) (sym there) told
told_list moves fits reads d ds there Unfit none = λ xs each. none xs (subst (λ o. IsEachOf reads o xs) there each)
told_list moves fits reads d ds there Untold told = λ moved. told (subst (AllFit moves) there moved)

pub no_list : {S : Type 0} (reads : Data → S → Type 0) (d : Data) → items_in (bare d) ≡ None → (xs : List S) → IsList reads d xs → ⊥
no_list reads d none xs each = subst (λ o. IsEachOf reads o xs) none each

none_is_none : {A : Type 0} {x : A} → None ≡ Some x → ⊥
none_is_none e = cc

-- the keys and values of a map are what it is read as
members_are_pairs : (e : Data) (ps : List (Data × Data)) → members_in e ≡ Some ps → pairs_in e ≡ Some ps
members_are_pairs (dict ms) ps there = there
members_are_pairs e ps there = absurd (none_is_none there)

module _ (d e : Data) (is : e ≡ bare d) where
  -- the items of a value that fits
  pub items_fit : (fits : Data → Type 0) (ds : List Data) → items_in e ≡ Some ds → FitsList fits d → AllByRecursion fits ds
  items_fit fits ds there fit = subst (AllFit fits) (sym (ap items_in is) ∙ there) fit

  pub no_items_fit : (fits : Data → Type 0) → items_in e ≡ None → FitsList fits d → ⊥
  no_items_fit fits none fit = subst (AllFit fits) (sym (ap items_in is) ∙ none) fit

  -- and what they were moved into
  pub list_of_items : {S Z E : Type 0} (reads : Data → S → Type 0) (ds : List Data) → items_in e ≡ Some ds → (r : Result (Vec S Z) E) → IfOk r (λ xs. IsEach reads ds xs.items) → IfOk r (λ xs. IsList reads d xs.items)
  list_of_items reads ds there (Ok xs) each = subst (λ o. IsEachOf reads o xs.items) (sym there ∙ ap items_in is) each
  list_of_items reads ds there (Err error) each = each

  pub members_fit : (keys values : Data → Type 0) (ps : List (Data × Data)) → members_in e ≡ Some ps → FitsPairs keys values d → AllByRecursion (FitsPair keys values) ps
  members_fit keys values ps there fit = subst (AllFit (FitsPair keys values)) (sym (ap members_in is) ∙ there) fit

  pub no_members_fit : (keys values : Data → Type 0) → members_in e ≡ None → FitsPairs keys values d → ⊥
  no_members_fit keys values none fit = subst (AllFit (FitsPair keys values)) (sym (ap members_in is) ∙ none) fit

  pub pairs_of_members : {K V Z E : Type 0} (keys : Data → K → Type 0) (values : Data → V → Type 0) (ps : List (Data × Data)) → members_in e ≡ Some ps → (r : Result (Vec (K × V) Z) E) → IfOk r (λ xs. IsEach (IsPair keys values) ps xs.items) → IfOk r (λ xs. IsPairs keys values d xs.items)
  pairs_of_members keys values ps there (Ok xs) each = subst (λ o. IsEachOf (IsPair keys values) o xs.items) (sym (members_are_pairs e ps there) ∙ ap pairs_in is) each
  pairs_of_members keys values ps there (Err error) each = each

-- what is told of the members is told of the map
pub told_map : {K V : Type 0} (moves_key moves_value fits_key fits_value : Data → Type 0) (keys : Data → K → Type 0) (values : Data → V → Type 0) (d : Data) (ps : List (Data × Data)) → dict (members_of ps) ≡ bare d → (look : Look) → IsTold (AllByRecursion (FitsPair moves_key moves_value)) (AllByRecursion (FitsPair fits_key fits_value)) (IsEach (IsPair keys values)) ps look → IsTold (FitsPairs moves_key moves_value) (FitsPairs fits_key fits_value) (IsPairs keys values) d look
told_map moves_key moves_value fits_key fits_value keys values d ps is Fits told =
    subst (λ e. AllFit (FitsPair fits_key fits_value) (members_in e)) is (subst (AllByRecursion (FitsPair fits_key fits_value)) (sym (same_pairs ps)) told)
told_map moves_key moves_value fits_key fits_value keys values d ps is Unfit none = λ xs each.
    none xs (subst (λ qs. IsEach (IsPair keys values) qs xs) (same_pairs ps) (subst (λ e. IsEachOf (IsPair keys values) (pairs_in e) xs) (sym is) each))
told_map moves_key moves_value fits_key fits_value keys values d ps is Untold told = λ moved.
    told (subst (AllByRecursion (FitsPair moves_key moves_value)) (same_pairs ps) (subst (λ e. AllFit (FitsPair moves_key moves_value) (members_in e)) (sym is) moved))

-- What is told of the items or pairs is told of what is made of them.
pub told_vec : {S : Type 0} (Z : Type 0) (moves fits : Data → Type 0) (reads : Data → S → Type 0) (d : Data) (look : Look) → IsTold (FitsList moves) (FitsList fits) (IsList reads) d look → IsTold (FitsList moves) (FitsList fits) (λ d (xs : Vec S Z). IsList reads d xs.items) d look
told_vec {S} Z moves fits reads d look told = told_of (FitsList moves) (FitsList fits) (IsList reads) (λ d (xs : Vec S Z). IsList reads d xs.items) d (λ xs is. (xs.items, is)) look told

pub told_ordered_set : {K : Type 0} (cmp : K → K → Ordering) (moves fits : Data → Type 0) (reads : Data → K → Type 0) (d : Data) (look : Look) → IsTold (FitsList moves) (FitsList fits) (IsList reads) d look → IsTold (FitsList moves) (FitsList fits) (IsOrderedSet cmp reads) d look
told_ordered_set cmp moves fits reads d look told = told_of (FitsList moves) (FitsList fits) (IsList reads) (IsOrderedSet cmp reads) d (λ s is. (is.0, is.1)) look told

pub told_hash_set : {K : Type 0} (S : Type 0) (eq : K → K → Bool) (moves fits : Data → Type 0) (reads : Data → K → Type 0) (d : Data) (look : Look) → IsTold (FitsList moves) (FitsList fits) (IsList reads) d look → IsTold (FitsList moves) (FitsList fits) (IsHashSet {S = S} eq reads) d look
told_hash_set {K} S eq moves fits reads d look told = told_of (FitsList moves) (FitsList fits) (IsList reads) (IsHashSet {S = S} eq reads) d (λ s is. (is.0, is.1)) look told

module _ {K V : Type 0} (moves_key moves_value fits_key fits_value : Data → Type 0) (keys : Data → K → Type 0) (values : Data → V → Type 0) (d : Data) (look : Look) (told : IsTold (FitsPairs moves_key moves_value) (FitsPairs fits_key fits_value) (IsPairs keys values) d look) where
  pub told_key_values : IsTold (FitsPairs moves_key moves_value) (FitsPairs fits_key fits_value) (λ d (xs : KeyValues K V). IsPairs keys values d xs.pairs.items) d look
  told_key_values = told_of (FitsPairs moves_key moves_value) (FitsPairs fits_key fits_value) (IsPairs keys values) (λ d (xs : KeyValues K V). IsPairs keys values d xs.pairs.items) d (λ xs is. (xs.pairs.items, is)) look told

  pub told_map_of : (cmp : K → K → Ordering) → IsTold (FitsPairs moves_key moves_value) (FitsPairs fits_key fits_value) (IsMap cmp keys values) d look
  told_map_of cmp = told_of (FitsPairs moves_key moves_value) (FitsPairs fits_key fits_value) (IsPairs keys values) (IsMap cmp keys values) d (λ m is. (is.0, is.1)) look told

  pub told_hash_map_of : (S : Type 0) (eq : K → K → Bool) → IsTold (FitsPairs moves_key moves_value) (FitsPairs fits_key fits_value) (IsHashMap {S = S} eq keys values) d look
  told_hash_map_of S eq = told_of (FitsPairs moves_key moves_value) (FitsPairs fits_key fits_value) (IsPairs keys values) (IsHashMap {S = S} eq keys values) d (λ m is. (is.0, is.1)) look told
