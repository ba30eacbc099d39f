-- How far a search for the first item of a kind has come.
use Rattle.std.proofs.Common.{◌≡◌, ℕ, zero, suc, ◌+◌, ◌<◌, ◌≤◌, Bool, false, true, List, [], ◌∷◌, ◌++◌, length, take, drop, get_or, set, sym, ap, ◌∙◌, refl, append_assoc, arith, add-one}
use Rattle.std.proofs.lemmas.List.{drop_more, take_more, append-nil, set_split, take_all, drop_all}
use Rattle.std.specs.Prelude.{remove}
use Rattle.link_core.specs.First.{first_replaced}

module _ {X : Type 0} (test : X → Bool) (items : X → List X) where
  -- the items before an index have all failed the test
  abbrev pub Passed : List X → ℕ → Type 0
  Passed xs i = first_replaced test items xs ≡ take i xs ++ first_replaced test items (drop i xs)

  at_other : (x : X) (xs : List X) → test x ≡ false → first_replaced test items (x ∷ xs) ≡ x ∷ first_replaced test items xs
  at_other x xs other = rw other refl

  at_first : (x : X) (xs : List X) → test x ≡ true → first_replaced test items (x ∷ xs) ≡ items x ++ xs
  at_first x xs same = rw same refl

  pub from_index : (xs : List X) (i : ℕ) (x : X) → i < length xs → x ≡ get_or xs i x → drop i xs ≡ x ∷ drop (i + 1) xs
  from_index xs i x l is = let m = drop_more xs i x l in m ∙ ap (λ y. y ∷ drop (i + 1) xs) (sym is)

  pub none_passed : (xs : List X) → Passed xs 0
  none_passed xs = refl

  pub one_passed : (xs : List X) (i : ℕ) (x : X) → i < length xs → x ≡ get_or xs i x → test x ≡ false → Passed xs i → Passed xs (i + 1)
  one_passed xs i x l is other h =
      h ∙ ap (λ ys. take i xs ++ first_replaced test items ys) (from_index xs i x l is) ∙ ap (λ ys. take i xs ++ ys) (at_other x (drop (i + 1) xs) other)
      ∙ sym (append_assoc (take i xs) (x ∷ []) (first_replaced test items (drop (i + 1) xs)))
      ∙ ap (λ ys. ys ++ first_replaced test items (drop (i + 1) xs)) (ap (λ y. take i xs ++ y ∷ []) is ∙ sym (take_more xs i x l))

  pub first_here : (xs : List X) (i : ℕ) (x : X) → i < length xs → x ≡ get_or xs i x → test x ≡ true → Passed xs i → first_replaced test items xs ≡ take i xs ++ (items x ++ drop (i + 1) xs)
  first_here xs i x l is same h =
      h ∙ ap (λ ys. take i xs ++ first_replaced test items ys) (from_index xs i x l is) ∙ ap (λ ys. take i xs ++ ys) (at_first x (drop (i + 1) xs) same)

  pub all_passed : (xs : List X) (i : ℕ) → length xs ≤ i → Passed xs i → xs ≡ first_replaced test items xs
  all_passed xs i l h =
      sym (append-nil xs) ∙ ap (λ ys. ys ++ []) (sym (take_all i xs l)) ∙ ap (λ ys. take i xs ++ first_replaced test items ys) (sym (drop_all i xs l)) ∙ sym h

-- one item put in the place of another
pub set_is : {X : Type 0} (xs : List X) (i : ℕ) (y : X) → i < length xs → set xs i y ≡ take i xs ++ y ∷ drop (i + 1) xs
set_is xs i y l = set_split xs i y l ∙ ap (λ k. take i xs ++ y ∷ drop k xs) (sym (add-one i))

-- one item taken out
pub remove_is : {X : Type 0} (xs : List X) (i : ℕ) → remove xs i ≡ take i xs ++ drop (i + 1) xs
remove_is xs i = ap (λ k. take i xs ++ drop k xs) (sym (add-one i))

-- an index has one item
pub one_item : {X : Type 0} (xs : List X) (i : ℕ) (a b : X) → i < length xs → a ≡ get_or xs i a → b ≡ get_or xs i b → a ≡ b
one_item [] i a b l ha hb = absurd (omega arith)
one_item (x ∷ xs) zero a b l ha hb = ha ∙ sym hb
one_item (x ∷ xs) (suc i) a b l ha hb = one_item xs i a b (omega arith) ha hb
