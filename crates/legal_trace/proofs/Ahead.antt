-- Who is ahead of new credentials: of those that are, one makes a step.
use Rattle.std.proofs.Common.{◌≡◌, inl, inr, ℕ, zero, suc, ◌<◌, ◌==◌, Bool, true, false, ◌&&◌, ◌||◌, refl, sym, ◌∙◌, ap, arith}
use Rattle.containers.proofs.Choices.{by_test, both_left, both_right, eq_from, ne_from}
use Rattle.legal_trace.specs.Story.{is_unstarted}
use Rattle.legal_trace.specs.Book.{Book}
use Rattle.legal_trace.specs.Steps.{is_due, is_held_back, is_taken_before, is_ahead, any_below, is_renewal_held, next_step}
use Rattle.legal_trace.specs.Legal.{CanMove}
use Rattle.legal_trace.proofs.Moves.{one_holds}

-- one of so many
pub any_from : (which : ℕ → Bool) (n : ℕ) → any_below which n ≡ true → (k : ℕ) × (k < n) × (which k ≡ true)
any_from which zero e = absurd (cc e)
any_from which (suc n) e = elim (one_holds (any_below which n) (which n) e) [
  | inl before ↦ let k = any_from which n before in let i : k.0 < n = k.1 in (k.0, omega (arith, i), k.2)
  | inr last ↦ (n, omega arith, last)
]

-- and so many have one, where a number below is such a one
pub any_of : (which : ℕ → Bool) (n k : ℕ) → k < n → which k ≡ true → any_below which n ≡ true
any_of which zero k i e = absurd (omega (arith, i))
any_of which (suc n) k i e = by_test (k == n) (any_below which (suc n) ≡ true)
    (λ t. second_of (any_below which n) (which n) (ap which (sym (eq_from k n t)) ∙ e))
    (λ f. let apart = ne_from k n f in first_of (any_below which n) (which n) (any_of which n k (omega (arith, i, apart)) e))
  where
    first_of : (p q : Bool) → p ≡ true → (p || q) ≡ true
    first_of true q t = refl
    first_of false q t = absurd (cc t)

    second_of : (p q : Bool) → q ≡ true → (p || q) ≡ true
    second_of true q t = refl
    second_of false q t = t

-- of two neither holds
neither : (p q : Bool) → (p || q) ≡ false → (p ≡ false) × (q ≡ false)
neither true q e = absurd (cc e)
neither false q e = (refl, e)

-- where new credentials don't wait, the link isn't held back
pub renewal_is_free : (b : Book) (l : ℕ) → is_renewal_held b l ≡ false → is_held_back b (b.link l) ≡ false
renewal_is_free b l e = (neither (is_held_back b (b.link l)) (any_below (is_ahead b l) b.submissions) e).0

-- and nobody is ahead
pub renewal_is_first : (b : Book) (l : ℕ) → is_renewal_held b l ≡ false → any_below (is_ahead b l) b.submissions ≡ false
renewal_is_first b l e = (neither (is_held_back b (b.link l)) (any_below (is_ahead b l) b.submissions) e).1

-- who is ahead goes to the link
pub ahead_is_on : (b : Book) (l n : ℕ) → is_ahead b l n ≡ true → (b.story n).link ≡ l
ahead_is_on b l n e = eq_from (b.story n).link l (both_left ((b.story n).link == l) (is_unstarted (b.story n) && is_due (next_step b n))
    (both_right (is_taken_before (b.since l) (b.placed n)) (((b.story n).link == l) && (is_unstarted (b.story n) && is_due (next_step b n))) e))

-- makes a step
pub ahead_moves : (b : Book) (l n : ℕ) → is_ahead b l n ≡ true → CanMove b n
ahead_moves b l n e =
    let rest : (is_unstarted (b.story n) && is_due (next_step b n)) ≡ true = both_right ((b.story n).link == l) (is_unstarted (b.story n) && is_due (next_step b n))
    (both_right (is_taken_before (b.since l) (b.placed n)) (((b.story n).link == l) && (is_unstarted (b.story n) && is_due (next_step b n))) e) in
    record { unstarted = both_left (is_unstarted (b.story n)) (is_due (next_step b n)) rest; due = both_right (is_unstarted (b.story n)) (is_due (next_step b n)) rest }

-- and took its place before
pub ahead_is_placed : (b : Book) (l n : ℕ) → is_ahead b l n ≡ true → is_taken_before (b.since l) (b.placed n) ≡ true
ahead_is_placed b l n e = both_left (is_taken_before (b.since l) (b.placed n)) (((b.story n).link == l) && (is_unstarted (b.story n) && is_due (next_step b n))) e

-- so where nobody makes a step, new credentials that wait do so on a link that is held back
pub held_where_moved : (b : Book) (l : ℕ) → ((n : ℕ) → CanMove b n → ⊥) → is_renewal_held b l ≡ true → is_held_back b (b.link l) ≡ true
held_where_moved b l moved e = elim (one_holds (is_held_back b (b.link l)) (any_below (is_ahead b l) b.submissions) e) [
  | inl held ↦ held
  | inr some ↦ let k = any_from (is_ahead b l) b.submissions some in absurd (moved k.0 (ahead_moves b l k.0 k.2))
]

-- a link that is held back holds them
pub held_with_link : (b : Book) (l : ℕ) → is_held_back b (b.link l) ≡ true → is_renewal_held b l ≡ true
held_with_link b l e = ap (λ held. held || any_below (is_ahead b l) b.submissions) e
