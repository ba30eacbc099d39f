-- Ascending lists of names: one more name, and what is among them.
use Rattle.std.proofs.Common.{◌≡◌, Ordering, Less, Equal, Greater, Bool, true, false, ◌||◌, List, [], ◌∷◌, refl, sym, ap, ◌∙◌}
use Rattle.std.specs.Ordering.{ordering_reverse, is_eq, eq_by_cmp, match_ordering}
use Rattle.std.specs.Cmp.{IsTotalOrder, alike_right}
use Rattle.std.specs.List.{AllByRecursion, list_any}
use Rattle.std.specs.BTreeSet.{insert_key}

twice : (a b : Bool) → (a || b) ≡ (a || (a || b))
twice true b = refl
twice false b = refl

swapped : (a b c : Bool) → (a || (b || c)) ≡ (b || (a || c))
swapped true true c = refl
swapped true false c = refl
swapped false b c = refl

module _ {K : Type 0} {R : K → K → Ordering} (o : IsTotalOrder R) where
  -- each of these stands behind x
  abbrev pub Below : K → List K → Type 0
  Below x ys = AllByRecursion (λ y. R x y ≡ Less) ys

  abbrev pub has : K → List K → Bool
  has q ks = list_any (eq_by_cmp R q) ks

  -- each stands before those behind it
  abbrev pub Ascending : List K → Type 0
  Ascending [] = Unit {0}
  Ascending (x ∷ xs) = Below x xs × Ascending xs

  pub below_rest : (k x : K) (xs : List K) → R k x ≡ Less → Below x xs → Below k xs
  below_rest k x [] l a = tt
  below_rest k x (y ∷ ys) l a = (o.trans k x y l a.0, below_rest k x ys l a.1)

  below_inserted : (x k : K) (ks : List K) → R x k ≡ Less → Below x ks → Below x (insert_key R ks k)
  below_inserted x k [] l a = (l, tt)
  below_inserted x k (y ∷ ys) l a = by (R k y) (below_inserted x k ys l a.1)
    where
      by : (r : Ordering) → Below x (insert_key R ys k) → Below x (match_ordering r (k ∷ y ∷ ys) (y ∷ ys) (y ∷ insert_key R ys k))
      by Less h = (l, a)
      by Equal h = a
      by Greater h = (a.0, h)

  -- an ascending list stays so with one more name
  pub ascending_inserted : (k : K) (ks : List K) → Ascending ks → Ascending (insert_key R ks k)
  ascending_inserted k [] s = (tt, tt)
  ascending_inserted k (x ∷ xs) s = by (R k x) refl (ascending_inserted k xs s.1)
    where
      by : (r : Ordering) → R k x ≡ r → Ascending (insert_key R xs k) → Ascending (match_ordering r (k ∷ x ∷ xs) (x ∷ xs) (x ∷ insert_key R xs k))
      by Less e h = ((e, below_rest k x xs e s.0), s)
      by Equal e h = s
      by Greater e h = (below_inserted x k xs (o.antisymm x k ∙ ap ordering_reverse e) s.0, h)

  -- what is in a list with one more name
  pub has_inserted : (q k : K) (ks : List K) → has q (insert_key R ks k) ≡ (eq_by_cmp R q k || has q ks)
  has_inserted q k [] = refl
  has_inserted q k (x ∷ xs) = by (R k x) refl (has_inserted q k xs)
    where
      by : (r : Ordering) → R k x ≡ r → has q (insert_key R xs k) ≡ (eq_by_cmp R q k || has q xs) → has q (match_ordering r (k ∷ x ∷ xs) (x ∷ xs) (x ∷ insert_key R xs k)) ≡ (eq_by_cmp R q k || has q (x ∷ xs))
      by Less e h = refl
      by Equal e h = twice (eq_by_cmp R q x) (has q xs) ∙ ap (λ t. is_eq t || has q (x ∷ xs)) (sym (alike_right o k x q e))
      by Greater e h = ap (λ b. eq_by_cmp R q x || b) h ∙ swapped (eq_by_cmp R q x) (eq_by_cmp R q k) (has q xs)
