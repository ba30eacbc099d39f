-- The bytes and the items of messages, counted anew.
use Rattle.std.proofs.Common.{◌≡◌, ◌≢◌, ◌⊎◌, inl, inr, ℕ, zero, suc, ◌+◌, ◌-◌, ◌<◌, ◌≤◌, nat_lt, nat_le, true, false, List, [], ◌∷◌, length, take, drop, Some, refl, sym, ◌∙◌, ap, arith, length-append}
use Rattle.std.specs.Prelude.{slice_get}
use Rattle.containers.proofs.Choices.{lt_from, le_from, not_le_from, both_left, both_right}
use Rattle.resp_value.specs.Data.{Data}
use Rattle.driver_model.specs.declared.action.Owner.{Owner}
use Rattle.driver_model.specs.declared.config.Config.{Config}
use Rattle.driver_model.specs.Config.{boundary}
use Rattle.driver_model.specs.Shape.{need_of}
use Rattle.legal_trace.specs.Ledger.{Ledger, Start, IsOffered, is_full, joined, reach, unwritten}
use Rattle.legal_trace.specs.Book.{Book}
use Rattle.legal_trace.specs.Steps.{configured, is_held_back}
use Rattle.legal_laws.specs.Waits.{size_of, untaken, IsHeldBack, needs, IsUnanswered}

-- messages have as many bytes as they are joined
size_is : (ss : List Start) → length (joined ss) ≡ size_of ss
size_is [] = refl
size_is (s ∷ ss) = length-append s.bytes (joined ss) ∙ ap (λ n. length s.bytes + n) (size_is ss)

-- what is left of a list behind its first items
length_left : {X : Type 0} (n : ℕ) (xs : List X) → length (drop n xs) ≡ length xs - n
length_left zero xs = omega arith
length_left (suc n) [] = omega arith
length_left (suc n) (x ∷ xs) = let rest : length (drop n xs) ≡ length xs - n = length_left n xs in omega (arith, rest)

-- so many bytes are unwritten
pub untaken_is : (l : Ledger) → length (unwritten l) ≡ untaken l
untaken_is l = length_left (length l.taken) (joined l.starts) ∙ ap (λ n. n - length l.taken) (size_is l.starts)

-- a link that is held back is so by its bytes
pub held_back_anew : (config : Config) (b : Book) (l : Ledger) → b.config ≡ Some config → is_held_back b l ≡ true → IsHeldBack config l
held_back_anew config b l c held =
    let far : length (unwritten l) ≡ untaken l = untaken_is l in
    let some : 0 < length (unwritten l) = lt_from 0 (length (unwritten l)) (both_left (nat_lt 0 (length (unwritten l))) (nat_le (configured boundary b.config) (length (unwritten l))) held) in
    let many : configured boundary b.config ≤ length (unwritten l) = le_from (configured boundary b.config) (length (unwritten l)) (both_right (nat_lt 0 (length (unwritten l))) (nat_le (configured boundary b.config) (length (unwritten l))) held) in
    let bound : configured boundary b.config ≡ boundary config = ap (configured boundary) c in
    record { some = omega (arith, far, some); many = omega (arith, far, many, bound) }

-- nothing is unwritten, or an offer is unanswered
offered_anew : (l : Ledger) → IsOffered l → (untaken l ≡ 0) ⊎ (l.offer ≢ [])
offered_anew l (inl none) = inl (sym (untaken_is l) ∙ ap length none)
offered_anew l (inr some) = inr some

-- messages take as many items as they need
needs_are : (ss : List Start) (ds : List Data) → reach ss ds ≡ needs ss
needs_are [] ds = refl
needs_are (s ∷ ss) ds = ap (λ n. need_of s.shape + n) (needs_are ss (drop (need_of s.shape) ds))

-- a message that isn't full is unanswered
pub unfull_is_unanswered : (l : Ledger) (k : ℕ) (s : Start) (who : Owner) → slice_get l.starts k ≡ Some s → s.owner ≡ who → IsOffered l → is_full l k ≡ false → IsUnanswered l who
unfull_is_unanswered l k s who stands owned offered open_yet =
    let far : reach (take (k + 1) l.starts) l.dealt ≡ needs (take (k + 1) l.starts) = needs_are (take (k + 1) l.starts) l.dealt in
    let lacks : length l.dealt < reach (take (k + 1) l.starts) l.dealt = not_le_from (reach (take (k + 1) l.starts) l.dealt) (length l.dealt) open_yet in
    record { k = k; message = s; started = stands; owned = owned; lacks = omega (arith, far, lacks); offered = offered_anew l offered }
