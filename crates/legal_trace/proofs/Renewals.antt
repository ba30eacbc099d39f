-- New credentials of a link: what it says that some are to be told.
use Rattle.std.proofs.Common.{◌≡◌, ◌≢◌, ◌⊎◌, inl, inr, ℕ, zero, suc, ◌+◌, ◌<◌, ◌≤◌, Bool, true, ◌&&◌, not, if◌then◌else◌, List, [], ◌∷◌, ◌++◌, length, take, drop, Option, Some, None, refl, sym, ◌∙◌, ap, subst, arith, slice_get}
use Rattle.std.specs.Prelude.{nat_le}
use Rattle.containers.proofs.Choices.{by_test, left_if, taken_if, both_left, both_right}
use Rattle.resp_value.specs.Data.{Data}
use Rattle.driver_model.specs.declared.outcome.Shape.TheVariants.{Confirmation}
use Rattle.driver_model.specs.Shape.{need_of, verdict_of}
use Rattle.credentials.specs.Credentials.{Credentials}
use Rattle.legal_trace.specs.Ledger.{Ledger, Start, reached, cut, is_done, is_full, is_of_renewal, is_taken, last_renewal, renewal_count, renewal_due, renewal_message}
use Rattle.legal_trace.specs.Book.{renewal_in}
use Rattle.legal_trace.proofs.Moves.{both_hold}
use Rattle.legal_trace.proofs.Plain.{not_none, same_some}
use Rattle.legal_trace.proofs.Ledgers.{reached_more}
use Rattle.legal_trace.proofs.Setups.{full_stays}

-- what allows that new credentials are told
abbrev pub may_tell : Ledger → Bool
may_tell l = l.up && not l.creds.lost && is_taken l (last_renewal l.starts 0 None)

-- where some are to be, it is so
pub renewal_may : (l : Ledger) (c : Credentials) → renewal_due l ≡ Some c → may_tell l ≡ true
renewal_may l c due = by_test (may_tell l) (may_tell l ≡ true) (λ t. t)
    (λ f. absurd (not_none (renewal_due l) c (left_if (may_tell l) (slice_get l.creds.renewals (renewal_count l.starts)) None f) due))

-- so a link on which some are to be told is up
pub renewal_is_up : (l : Ledger) (c : Credentials) → renewal_due l ≡ Some c → l.up ≡ true
renewal_is_up l c due = both_left l.up (not l.creds.lost) (both_left (l.up && not l.creds.lost) (is_taken l (last_renewal l.starts 0 None)) (renewal_may l c due))

-- those before were taken
pub renewal_is_next : (l : Ledger) (c : Credentials) → renewal_due l ≡ Some c → is_taken l (last_renewal l.starts 0 None) ≡ true
renewal_is_next l c due = both_right (l.up && not l.creds.lost) (is_taken l (last_renewal l.starts 0 None)) (renewal_may l c due)

-- they are the next that came
pub renewal_came : (l : Ledger) (c : Credentials) → renewal_due l ≡ Some c → slice_get l.creds.renewals (renewal_count l.starts) ≡ Some c
renewal_came l c due = sym (taken_if (may_tell l) (slice_get l.creds.renewals (renewal_count l.starts)) None (renewal_may l c due)) ∙ due

-- AUTH has bytes
auth_packed : (c : Credentials) → (renewal_message c).bytes ≢ []
auth_packed c e = cc e

-- so has the message of those that are to be told
pub renewal_has_bytes : (l : Ledger) (c : Credentials) → renewal_due l ≡ Some c → (renewal_in (renewal_due l)).bytes ≢ []
renewal_has_bytes l c due = subst (λ o. (renewal_in o).bytes ≢ []) (sym due) (auth_packed c)

-- a message that starts behind one leaves it taken
pub taken_begins : (l : Ledger) (s : Start) (k : ℕ) → k < length l.starts → is_taken (record l { starts = l.starts ++ s ∷ [] }) (Some k) ≡ is_taken l (Some k)
taken_begins l s k i =
    let m : Ledger = record l { starts = l.starts ++ s ∷ [] } in
    let whole : reached m (k + 1) ≡ reached l (k + 1) = reached_more l s (k + 1) (omega (arith, i)) in
    let from : reached m k ≡ reached l k = reached_more l s k (omega (arith, i)) in
    ap (λ n. nat_le n (length l.dealt) && is_done (verdict_of Confirmation (take (need_of Confirmation) (drop (reached m k) l.dealt)))) whole
    ∙ ap (λ n. nat_le (reached l (k + 1)) (length l.dealt) && is_done (verdict_of Confirmation (take (need_of Confirmation) (drop n l.dealt)))) from

-- and so do items that come, where it takes one
pub taken_more : (l : Ledger) (rest : List ℕ) (more : List Data) (k : ℕ) (s : Start) → slice_get l.starts k ≡ Some s → s.shape ≡ Confirmation → is_taken l (Some k) ≡ true → is_taken (record l { rest = rest; dealt = l.dealt ++ more }) (Some k) ≡ true
taken_more l rest more k s stands shaped taken =
    let m : Ledger = record l { rest = rest; dealt = l.dealt ++ more } in
    let full = full_stays l rest more k s stands (both_left (is_full l k) (is_done (verdict_of Confirmation (cut l k Confirmation))) taken) in
    let cuts : take (need_of Confirmation) (drop (reached m k) (l.dealt ++ more)) ≡ take (need_of Confirmation) (drop (reached l k) l.dealt) =
    subst (λ n. take n (drop (reached m k) (l.dealt ++ more)) ≡ take n (drop (reached l k) l.dealt)) (ap need_of shaped) full.1 in
    both_hold (is_full m k) (is_done (verdict_of Confirmation (cut m k Confirmation))) full.0
    (ap (λ (ds : List Data). is_done (verdict_of Confirmation ds)) cuts ∙ both_right (is_full l k) (is_done (verdict_of Confirmation (cut l k Confirmation))) taken)

-- a start among these tells new credentials, and has that number, where the first of them has the number n
abbrev pub IsLast : List Start → ℕ → Option ℕ → Type 0
IsLast ss n o = (k : ℕ) × (s : Start) × (o ≡ Some (n + k)) × (slice_get ss k ≡ Some s) × (is_of_renewal s.owner ≡ true)

-- numbers that count from one further on
further_on : (n k : ℕ) → Some (suc n + k) ≡ Some (n + suc k)
further_on n k = ap Some (let e : suc n + k ≡ n + suc k = omega arith in e)

-- and from here
from_here : (n : ℕ) → Some n ≡ Some (n + 0)
from_here n = ap Some (let e : n ≡ n + 0 = omega arith in e)

-- the last that does is among them, or was before
pub last_or : (ss : List Start) (n : ℕ) (old : Option ℕ) → (last_renewal ss n old ≡ old) ⊎ IsLast ss n (last_renewal ss n old)
last_or [] n old = inl refl
last_or (s ∷ ss) n old = elim (last_or ss (suc n) (if is_of_renewal s.owner then Some n else old)) [
  | inl same ↦
      by_test (is_of_renewal s.owner) ((last_renewal (s ∷ ss) n old ≡ old) ⊎ IsLast (s ∷ ss) n (last_renewal (s ∷ ss) n old))
      (λ t. inr (0, s, same ∙ (taken_if (is_of_renewal s.owner) (Some n) old t ∙ from_here n), refl, t))
      (λ f. inl (same ∙ left_if (is_of_renewal s.owner) (Some n) old f))
  | inr more ↦ inr (suc more.0, more.1, more.2 ∙ further_on n more.0, more.3, more.4)
]

-- the last that does isn't before start i
abbrev pub IsLastFrom : List Start → ℕ → ℕ → Option ℕ → Type 0
IsLastFrom ss n i o = (k : ℕ) × (s : Start) × (o ≡ Some (n + k)) × (slice_get ss k ≡ Some s) × (is_of_renewal s.owner ≡ true) × (i ≤ k)

-- so it is where that does
last_from : (ss : List Start) (n : ℕ) (old : Option ℕ) (i : ℕ) (s : Start) → slice_get ss i ≡ Some s → is_of_renewal s.owner ≡ true → IsLastFrom ss n i (last_renewal ss n old)
last_from [] n old i s e r = cc
last_from (x ∷ ss) n old zero s e r =
    let mine : is_of_renewal x.owner ≡ true = ap (λ (y : Start). is_of_renewal y.owner) (same_some x s e) ∙ r in
    elim (last_or ss (suc n) (if is_of_renewal x.owner then Some n else old)) [
      | inl kept ↦ (0, x, kept ∙ (taken_if (is_of_renewal x.owner) (Some n) old mine ∙ from_here n), refl, mine, omega arith)
      | inr more ↦ (suc more.0, more.1, more.2 ∙ further_on n more.0, more.3, more.4, omega arith)
    ]
last_from (x ∷ ss) n old (suc i) s e r =
    let last = last_from ss (suc n) (if is_of_renewal x.owner then Some n else old) i s e r in
    let below : i ≤ last.0 = last.5 in
    (suc last.0, last.1, last.2 ∙ further_on n last.0, last.3, last.4, omega (arith, below))

-- so of a link the last message that told new credentials isn't before any other
pub last_told : (l : Ledger) (i : ℕ) (s : Start) → slice_get l.starts i ≡ Some s → is_of_renewal s.owner ≡ true → IsLastFrom l.starts 0 i (last_renewal l.starts 0 None)
last_told l i s e r = last_from l.starts 0 None i s e r
