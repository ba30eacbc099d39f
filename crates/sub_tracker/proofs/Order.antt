-- Ascending lists as sets: one more key, and one less.
use Rattle.std.proofs.Common.{◌≡◌, Ordering, Less, Equal, Greater, Bool, true, false, ◌||◌, if◌then◌else◌, List, [], ◌∷◌, refl, sym, ap, ap₂, ◌∙◌, true≢false}
use Rattle.std.specs.Ordering.{ordering_reverse, is_eq, eq_by_cmp, match_ordering}
use Rattle.std.specs.Cmp.{IsTotalOrder, alike_right, eq_by_cmp_equiv}
use Rattle.std.specs.List.{AllByRecursion, list_any}
use Rattle.std.specs.List.Sorted.{IsStrictlySortedBy}
use Rattle.std.specs.BTreeSet.{insert_key}
use Rattle.std.specs.Set.{remove_key}

twice : (a b : Bool) → (a || b) ≡ (a || (a || b))
twice true b = refl
twice false b = refl

swapped : (a b c : Bool) → (a || (b || c)) ≡ (b || (a || c))
swapped true true c = refl
swapped true false c = refl
swapped false b c = refl

none_left : (b : Bool) → false ≡ (if b then false else false)
none_left true = refl
none_left false = refl

gone : (t h : Bool) → (t ≡ true → h ≡ false) → h ≡ (if t then false else (t || h))
gone true h f = f refl
gone false h f = refl

kept : (t k h : Bool) → (k ≡ true → t ≡ false) → (t || (if k then false else h)) ≡ (if k then false else (t || h))
kept t true h f = ap (λ b. b || false) (f refl)
kept t false h f = refl

drop_first : (t u a b : Bool) → t ≡ u → (t ≡ true → a ≡ false) → (u ≡ true → b ≡ false) → (t || a) ≡ (u || b) → a ≡ b
drop_first true true a b e f g h = f refl ∙ sym (g refl)
drop_first true false a b e f g h = absurd (true≢false e)
drop_first false true a b e f g h = absurd (true≢false (sym e))
drop_first false false a b e f g h = h

module _ {K : Type 0} {R : K → K → Ordering} (o : IsTotalOrder R) where
  abbrev Below : K → List K → Type 0
  Below x ys = AllByRecursion (λ y. R x y ≡ Less) ys

  abbrev pub has : K → List K → Bool
  has q ks = list_any (eq_by_cmp R q) ks

  below_rest : (k x : K) (xs : List K) → R k x ≡ Less → Below x xs → Below k xs
  below_rest k x [] l a = tt
  below_rest k x (y ∷ ys) l a = (o.trans k x y l a.0, below_rest k x ys l a.1)

  below_inserted : (x k : K) (ks : List K) → R x k ≡ Less → Below x ks → Below x (insert_key R ks k)
  below_inserted x k [] l a = (l, tt)
  below_inserted x k (y ∷ ys) l a = by (R k y) (below_inserted x k ys l a.1)
    where
      by : (r : Ordering) → Below x (insert_key R ys k) → Below x (match_ordering r (k ∷ y ∷ ys) (y ∷ ys) (y ∷ insert_key R ys k))
      by Less h = (l, a)
      by Equal h = a
      by Greater h = (a.0, h)

  below_removed : (x : K) (test : K → Bool) (ks : List K) → Below x ks → Below x (remove_key test ks)
  below_removed x test [] a = a
  below_removed x test (y ∷ ys) a = by (test y) (below_removed x test ys a.1)
    where
      by : (b : Bool) → Below x (remove_key test ys) → Below x (if b then ys else (y ∷ remove_key test ys))
      by true h = a.1
      by false h = (a.0, h)

  -- an ascending list stays so with one more key
  pub sorted_inserted : (k : K) (ks : List K) → IsStrictlySortedBy R ks → IsStrictlySortedBy R (insert_key R ks k)
  unfolding IsStrictlySortedBy
  sorted_inserted k [] s = (tt, tt)
  sorted_inserted k (x ∷ xs) s = by (R k x) refl (sorted_inserted k xs s.1)
    where
      by : (r : Ordering) → R k x ≡ r → IsStrictlySortedBy R (insert_key R xs k) → IsStrictlySortedBy R (match_ordering r (k ∷ x ∷ xs) (x ∷ xs) (x ∷ insert_key R xs k))
      by Less e h = ((e, below_rest k x xs e s.0), s)
      by Equal e h = s
      by Greater e h = (below_inserted x k xs (o.antisymm x k ∙ ap ordering_reverse e) s.0, h)

  -- and with one less
  pub sorted_removed : (test : K → Bool) (ks : List K) → IsStrictlySortedBy R ks → IsStrictlySortedBy R (remove_key test ks)
  unfolding IsStrictlySortedBy
  sorted_removed test [] s = s
  sorted_removed test (x ∷ xs) s = by (test x) (sorted_removed test xs s.1)
    where
      by : (b : Bool) → IsStrictlySortedBy R (remove_key test xs) → IsStrictlySortedBy R (if b then xs else (x ∷ remove_key test xs))
      by true h = s.1
      by false h = (below_removed x test xs s.0, h)

  -- what is in a list with one more key
  pub has_inserted : (q k : K) (ks : List K) → has q (insert_key R ks k) ≡ (eq_by_cmp R q k || has q ks)
  has_inserted q k [] = refl
  has_inserted q k (x ∷ xs) = by (R k x) refl (has_inserted q k xs)
    where
      by : (r : Ordering) → R k x ≡ r → has q (insert_key R xs k) ≡ (eq_by_cmp R q k || has q xs) → has q (match_ordering r (k ∷ x ∷ xs) (x ∷ xs) (x ∷ insert_key R xs k)) ≡ (eq_by_cmp R q k || has q (x ∷ xs))
      by Less e h = refl
      by Equal e h = twice (eq_by_cmp R q x) (has q xs) ∙ ap (λ t. is_eq t || has q (x ∷ xs)) (sym (alike_right o k x q e))
      by Greater e h = ap (λ b. eq_by_cmp R q x || b) h ∙ swapped (eq_by_cmp R q x) (eq_by_cmp R q k) (has q xs)

  -- a key that is equal to x is equal to nothing above x
  not_above : (q x : K) (ys : List K) → Below x ys → eq_by_cmp R q x ≡ true → has q ys ≡ false
  not_above q x [] a t = refl
  not_above q x (y ∷ ys) a t = ap (λ b. b || has q ys) ((eq_by_cmp_equiv o).congr q x y t ∙ ap is_eq a.0) ∙ not_above q x ys a.1 t

  -- what is in an ascending list with one key less
  pub has_removed : (q k : K) (ks : List K) → IsStrictlySortedBy R ks → has q (remove_key (eq_by_cmp R k) ks) ≡ (if eq_by_cmp R q k then false else has q ks)
  unfolding IsStrictlySortedBy
  has_removed q k [] s = none_left (eq_by_cmp R q k)
  has_removed q k (x ∷ xs) s = by (R k x) refl (has_removed q k xs s.1)
    where
      by : (r : Ordering) → R k x ≡ r → has q (remove_key (eq_by_cmp R k) xs) ≡ (if eq_by_cmp R q k then false else has q xs) → has q (if is_eq r then xs else (x ∷ remove_key (eq_by_cmp R k) xs)) ≡ (if eq_by_cmp R q k then false else has q (x ∷ xs))
      by Less e h = ap (λ b. eq_by_cmp R q x || b) h ∙ kept (eq_by_cmp R q x) (eq_by_cmp R q k) (has q xs) (λ t. (eq_by_cmp_equiv o).congr q k x t ∙ ap is_eq e)
      by Equal e h = gone (eq_by_cmp R q x) (has q xs) (not_above q x xs s.0) ∙ ap (λ t. if is_eq t then false else has q (x ∷ xs)) (sym (alike_right o k x q e))
      by Greater e h = ap (λ b. eq_by_cmp R q x || b) h ∙ kept (eq_by_cmp R q x) (eq_by_cmp R q k) (has q xs) (λ t. (eq_by_cmp_equiv o).congr q k x t ∙ ap is_eq e)

  none_above : (q : K) (ys : List K) → Below q ys → has q ys ≡ false
  none_above q [] a = refl
  none_above q (y ∷ ys) a = ap (λ r. is_eq r || has q ys) a.0 ∙ none_above q ys a.1

  -- the first key of one list is not below that of the other
  not_missing : (x y : K) (xs ys : List K) → IsStrictlySortedBy R (y ∷ ys) → ((q : K) → has q (x ∷ xs) ≡ has q (y ∷ ys)) → R x y ≡ Less → true ≡ false
  unfolding IsStrictlySortedBy
  not_missing x y xs ys t m e =
      ap (λ b. b || has x xs) (sym ((eq_by_cmp_equiv o).refl x)) ∙ m x ∙ none_above x (y ∷ ys) (e, below_rest x y ys e t.0)

  -- ascending lists with the same keys are the same
  pub same_keys : ((x y : K) → eq_by_cmp R x y ≡ true → x ≡ y) → (xs ys : List K) → IsStrictlySortedBy R xs → IsStrictlySortedBy R ys → ((q : K) → has q xs ≡ has q ys) → xs ≡ ys
  unfolding IsStrictlySortedBy
  same_keys same [] [] s t m = refl
  same_keys same [] (y ∷ ys) s t m = absurd (true≢false (ap (λ b. b || has y ys) (sym ((eq_by_cmp_equiv o).refl y)) ∙ sym (m y)))
  same_keys same (x ∷ xs) [] s t m = absurd (true≢false (ap (λ b. b || has x xs) (sym ((eq_by_cmp_equiv o).refl x)) ∙ m x))
  same_keys same (x ∷ xs) (y ∷ ys) s t m = by (R x y) refl (same_keys same xs ys s.1 t.1)
    where
      by : (r : Ordering) → R x y ≡ r → (((q : K) → has q xs ≡ has q ys) → xs ≡ ys) → (x ∷ xs) ≡ (y ∷ ys)
      by Less e rest = absurd (true≢false (not_missing x y xs ys t m e))
      by Equal e rest = ap₂ (λ z zs. z ∷ zs) (same x y (ap is_eq e))
          (rest (λ q. drop_first (eq_by_cmp R q x) (eq_by_cmp R q y) (has q xs) (has q ys) (ap is_eq (alike_right o x y q e)) (not_above q x xs s.0) (not_above q y ys t.0) (m q)))
      by Greater e rest = absurd (true≢false (not_missing y x ys xs s (λ q. sym (m q)) (o.antisymm y x ∙ ap ordering_reverse e)))
