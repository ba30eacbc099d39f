-- Lists whose items are read one by one.
use Rattle.std.proofs.Common.{◌≡◌, ℕ, zero, suc, ◌+◌, ◌<◌, List, [], ◌∷◌, ◌++◌, length, map, get_or, take, refl, sym, ap, subst, arith}
use Rattle.std.proofs.lemmas.List.{take_more}
use Rattle.std.specs.List.{AllByRecursion}
use Rattle.resp_value.specs.declared.value.Value.{Value}
use Rattle.resp_value.specs.Data.{Data, items_of, list_of, members_of, pairs_of}
use Rattle.resp_value.specs.View.{data_of, list_view}
use Rattle.resp_convert.specs.Types.{IsEach}

-- the items of an array or a set are those that it is seen as
pub same_items : (ds : List Data) → list_of (items_of ds) ≡ ds
same_items [] = refl
same_items (d ∷ ds) = ap (λ es. d ∷ es) (same_items ds)

-- and so are the pairs of a map
pub same_pairs : (ps : List (Data × Data)) → pairs_of (members_of ps) ≡ ps
same_pairs [] = refl
same_pairs (p ∷ ps) = ap (λ qs. p ∷ qs) (same_pairs ps)

-- each value is itself
pub each_itself : (vs : List Value) → IsEach (λ d v. data_of v ≡ d) (list_view vs) vs
each_itself [] = tt
each_itself (v ∷ vs) = (refl, each_itself vs)

module _ {A V S : Type 0} (view : V → A) (reads : A → S → Type 0) where
  view_push : (vs : List V) (v : V) → map view (vs ++ v ∷ []) ≡ map view vs ++ view v ∷ []
  view_push [] v = refl
  view_push (w ∷ vs) v = ap (λ ds. view w ∷ ds) (view_push vs v)

  each_push : (ds : List A) (xs : List S) (d : A) (x : S) → IsEach reads ds xs → reads d x → IsEach reads (ds ++ d ∷ []) (xs ++ x ∷ [])
  each_push [] [] d x each is = (is, tt)
  each_push [] (y ∷ ys) d x each is = absurd each
  each_push (e ∷ es) [] d x each is = absurd each
  each_push (e ∷ es) (y ∷ ys) d x each is = (each.0, each_push es ys d x each.1 is)

  -- one value more is read
  pub each_more : (vs : List V) (i : ℕ) (v : V) (xs : List S) (x : S) → i < length vs → v ≡ get_or vs i v → IsEach reads (map view (take i vs)) xs → reads (view v) x → IsEach reads (map view (take (i + 1) vs)) (xs ++ x ∷ [])
  each_more vs i v xs x h at each is =
      let w = get_or vs i v in
      let moved : reads (view w) x = subst (λ u. reads (view u) x) at is in
      let front = each_push (map view (take i vs)) xs (view w) x each moved in
      subst (λ us. IsEach reads (map view us) (xs ++ x ∷ [])) (sym (take_more vs i v h)) (
      subst (λ ds. IsEach reads ds (xs ++ x ∷ [])) (sym (view_push (take i vs) w)) front)

  none_there : (vs : List V) (i : ℕ) (v : V) → i < length vs → ((x : S) → reads (view (get_or vs i v)) x → ⊥) → (xs : List S) → IsEach reads (map view vs) xs → ⊥
  none_there [] i v h none xs each = omega arith
  none_there (w ∷ vs) i v h none [] each = each
  none_there (w ∷ vs) zero v h none (x ∷ xs) each = none x each.0
  none_there (w ∷ vs) (suc i) v h none (x ∷ xs) each = none_there vs i v (omega arith) none xs each.1

  -- a value is nothing of the type
  pub none_at : (vs : List V) (i : ℕ) (v : V) → i < length vs → v ≡ get_or vs i v → ((x : S) → reads (view v) x → ⊥) → (xs : List S) → IsEach reads (map view vs) xs → ⊥
  none_at vs i v h at none = none_there vs i v h (subst (λ u. (x : S) → reads (view u) x → ⊥) at none)

module _ {A V : Type 0} (view : V → A) (P : A → Type 0) where
  all_push : (ds : List A) (d : A) → AllByRecursion P ds → P d → AllByRecursion P (ds ++ d ∷ [])
  all_push [] d all is = (is, tt)
  all_push (e ∷ es) d all is = (all.0, all_push es d all.1 is)

  -- it is true of one value more
  pub all_more : (vs : List V) (i : ℕ) (v : V) → i < length vs → v ≡ get_or vs i v → AllByRecursion P (map view (take i vs)) → P (view v) → AllByRecursion P (map view (take (i + 1) vs))
  all_more vs i v h at all is =
      let w = get_or vs i v in
      subst (λ us. AllByRecursion P (map view us)) (sym (take_more vs i v h)) (
      subst (AllByRecursion P) (sym (view_push view (λ d (u : A). P d) (take i vs) w)) (
      all_push (map view (take i vs)) (view w) all (subst (λ u. P (view u)) at is)))

  not_there : (vs : List V) (i : ℕ) (v : V) → i < length vs → (P (view (get_or vs i v)) → ⊥) → AllByRecursion P (map view vs) → ⊥
  not_there [] i v h none all = omega arith
  not_there (w ∷ vs) zero v h none all = none all.0
  not_there (w ∷ vs) (suc i) v h none all = not_there vs i v (omega arith) none all.1

  -- of one value it isn't true
  pub not_at : (vs : List V) (i : ℕ) (v : V) → i < length vs → v ≡ get_or vs i v → (P (view v) → ⊥) → AllByRecursion P (map view vs) → ⊥
  not_at vs i v h at none = not_there vs i v h (subst (λ u. P (view u) → ⊥) at none)
