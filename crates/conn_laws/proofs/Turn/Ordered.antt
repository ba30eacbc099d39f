-- The entries of submissions: a turn leaves them, or adds one.
use Rattle.std.proofs.Common.{◌≡◌, ◌⊎◌, inl, inr, ℕ, zero, suc, List, [], ◌∷◌, ◌++◌, length, Option, Some, None, slice_get, sym, ap, ◌∙◌}
use Rattle.mux_conn.specs.declared.request.Pending.{Pending}
use Rattle.conn_laws.proofs.Ties.Names.{get_more}

-- the number that an entry gives, and a place
abbrev number_or_none : Option Pending → ℕ
number_or_none None = 0
number_or_none (Some p) = p.number

-- the entries of submissions
--
-- a turn leaves them, or has one more: that of a submission that was answered at once, or of the next request
pub data Grows (count : ℕ) (was now : List (Option Pending)) : Type 0 where
  same : now ≡ was → Grows count was now
  refused : now ≡ was ++ None ∷ [] → Grows count was now
  asked : now ≡ was ++ Some (record { number = count }) ∷ [] → Grows count was now

-- what stands at a place of the front
get_front : {X : Type 0} (xs ys : List X) (n : ℕ) (x : X) → slice_get xs n ≡ Some x → slice_get (xs ++ ys) n ≡ Some x
get_front [] ys zero x e = cc e
get_front [] ys (suc n) x e = cc e
get_front (y ∷ xs) ys zero x e = e
get_front (y ∷ xs) ys (suc n) x e = get_front xs ys n x e

-- an entry stays
pub entry_stays : (count : ℕ) (was now : List (Option Pending)) (n : ℕ) (x : Option Pending) → Grows count was now → slice_get was n ≡ Some x → slice_get now n ≡ Some x
entry_stays count was now n x (same e) at = ap (λ (ts : List (Option Pending)). slice_get ts n) e ∙ at
entry_stays count was now n x (refused e) at = ap (λ (ts : List (Option Pending)). slice_get ts n) e ∙ get_front was (None ∷ []) n x at
entry_stays count was now n x (asked e) at = ap (λ (ts : List (Option Pending)). slice_get ts n) e ∙ get_front was (Some (record { number = count }) ∷ []) n x at

-- and each is an old one, or the last, of the next request
pub entry_was : (count : ℕ) (was now : List (Option Pending)) (n k : ℕ) → Grows count was now → slice_get now n ≡ Some (Some (record { number = k })) → (slice_get was n ≡ Some (Some (record { number = k }))) ⊎ ((n ≡ length was) × (k ≡ count))
entry_was count was now n k (same e) at = inl (sym (ap (λ (ts : List (Option Pending)). slice_get ts n) e) ∙ at)
entry_was count was now n k (refused e) at = elim (get_more was None n (Some (record { number = k })) (sym (ap (λ (ts : List (Option Pending)). slice_get ts n) e) ∙ at)) [
  | inl old ↦ inl old
  | inr new ↦ absurd (let no : ◌≡◌ {A = Option Pending} None (Some (record { number = k })) = new.1 in cc no)
]
entry_was count was now n k (asked e) at = elim (get_more was (Some (record { number = count })) n (Some (record { number = k })) (sym (ap (λ (ts : List (Option Pending)). slice_get ts n) e) ∙ at)) [
  | inl old ↦ inl old
  | inr new ↦ inr (new.0, sym (ap number_or_none new.1))
]
