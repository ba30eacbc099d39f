-- The keys of a set of byte vectors, as names.
use Rattle.std.proofs.Common.{◌≡◌, ℕ, Bool, true, false, cond, List, [], ◌∷◌, Vec, Global, Ordering, Less, Equal, Greater, refl, ap, ◌∙◌}
use Rattle.std.specs.Ordering.{match_ordering, nat_cmp}
use Rattle.std.specs.BTreeMap.{is_at}
use Rattle.std.specs.BTreeSet.{insert_key}
use Rattle.std.specs.Cmp.Lexicographic.{slice_cmp}
use Rattle.std.specs.Set.{remove_key}
use Rattle.sub_tracker.specs.Subscribed.{byte_order}
use Rattle.sub_tracker.specs.Texts.{texts}

-- the vectors' order
abbrev vec_cmp : Vec ℕ Global → Vec ℕ Global → Ordering
vec_cmp x y = slice_cmp nat_cmp x.items y.items

inserted : (vs : List (Vec ℕ Global)) (v : Vec ℕ Global) → texts (insert_key vec_cmp vs v) ≡ insert_key byte_order (texts vs) v.items
inserted [] v = refl
inserted (x ∷ xs) v = by (vec_cmp v x) (inserted xs v)
  where
    by : (r : Ordering) → texts (insert_key vec_cmp xs v) ≡ insert_key byte_order (texts xs) v.items → texts (match_ordering r (v ∷ x ∷ xs) (x ∷ xs) (x ∷ insert_key vec_cmp xs v)) ≡ match_ordering r (v.items ∷ x.items ∷ texts xs) (x.items ∷ texts xs) (x.items ∷ insert_key byte_order (texts xs) v.items)
    by Less h = refl
    by Equal h = refl
    by Greater h = ap (λ l. x.items ∷ l) h

pub texts_inserted : (vs ws : List (Vec ℕ Global)) (v : Vec ℕ Global) → ws ≡ insert_key vec_cmp vs v → texts ws ≡ insert_key byte_order (texts vs) v.items
texts_inserted vs ws v e = ap texts e ∙ inserted vs v

pub texts_removed : (name : List ℕ) (vs : List (Vec ℕ Global)) → texts (remove_key (is_at (λ v. slice_cmp nat_cmp name v.items)) vs) ≡ remove_key (is_at (byte_order name)) (texts vs)
texts_removed name [] = refl
texts_removed name (x ∷ xs) = by (is_at (byte_order name) x.items) (texts_removed name xs)
  where
    by : (b : Bool) → texts (remove_key (is_at (λ v. slice_cmp nat_cmp name v.items)) xs) ≡ remove_key (is_at (byte_order name)) (texts xs) → texts (cond b xs (x ∷ remove_key (is_at (λ v. slice_cmp nat_cmp name v.items)) xs)) ≡ cond b (texts xs) (x.items ∷ remove_key (is_at (byte_order name)) (texts xs))
    by true h = refl
    by false h = ap (λ l. x.items ∷ l) h
