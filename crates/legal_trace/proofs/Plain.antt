-- Lists and options.
use Rattle.std.proofs.Common.{◌≡◌, ◌⊎◌, inl, inr, ℕ, zero, suc, ◌<◌, false, List, [], ◌∷◌, ◌++◌, length, Option, Some, None, is_some, slice_get, refl, ap, arith}

-- an option that isn't some is none
pub none_from : {X : Type 0} (o : Option X) → is_some o ≡ false → o ≡ None
none_from None e = refl
none_from (Some x) e = cc

-- none is not some
pub not_none : {X : Type 0} (o : Option X) (x : X) → o ≡ None → o ≡ Some x → ⊥
not_none o x n s = cc

-- what is some in two ways is one
pub same_some : {X : Type 0} (x y : X) → Some x ≡ Some y → x ≡ y
same_some x y e = cc

-- a list with something behind isn't empty
pub not_empty : {X : Type 0} (xs : List X) (x : X) → xs ++ x ∷ [] ≡ [] → ⊥
not_empty [] x e = cc e
not_empty (y ∷ xs) x e = cc e

-- an item of a list with one more is one of the list, or that
pub item_behind : {X : Type 0} (xs : List X) (y x : X) (k : ℕ) → slice_get (xs ++ y ∷ []) k ≡ Some x → (slice_get xs k ≡ Some x) ⊎ ((k ≡ length xs) × (y ≡ x))
item_behind [] y x zero e = inr (refl, same_some y x e)
item_behind [] y x (suc k) e = cc
item_behind (z ∷ xs) y x zero e = inl e
item_behind (z ∷ xs) y x (suc k) e = elim (item_behind xs y x k e) [ inl old ↦ inl old | inr new ↦ inr (ap suc new.0, new.1) ]

-- an item stands within its list
pub item_within : {X : Type 0} (xs : List X) (k : ℕ) (x : X) → slice_get xs k ≡ Some x → k < length xs
item_within [] k x e = cc
item_within (y ∷ xs) zero x e = omega arith
item_within (y ∷ xs) (suc k) x e = omega (arith, item_within xs k x e)

-- an item of a list stays where more come
pub item_stays : {X : Type 0} (xs ys : List X) (x : X) (k : ℕ) → slice_get xs k ≡ Some x → slice_get (xs ++ ys) k ≡ Some x
item_stays [] ys x k e = cc
item_stays (z ∷ xs) ys x zero e = e
item_stays (z ∷ xs) ys x (suc k) e = item_stays xs ys x k e

-- what is put behind a list is its last item
pub last_item : {X : Type 0} (xs : List X) (x : X) → slice_get (xs ++ x ∷ []) (length xs) ≡ Some x
last_item [] x = refl
last_item (z ∷ xs) x = last_item xs x
