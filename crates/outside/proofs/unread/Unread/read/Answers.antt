use Rattle.std.proofs.Common.{arith, ◌≡◌, ◌≤◌, ◌+◌, ◌-◌, ◌++◌, ℕ, List, length, take, drop, ap, ◌∙◌, sym}
use Rattle.std.proofs.lemmas.List.{take_rest, take_at, take-append-drop, length-take-le}
use Rattle.std.proofs.Math.Seq.{drop-drop}
use Rattle.outside.proofs.unread.Unread.read.Goals as goal

-- what was copied from a place on, and what is left behind it, is what was left
copied_and_left : (bytes all piece tail : List ℕ) (at n : ℕ) → all ≡ bytes → n ≤ length (take (length all - at) (drop at all))
    → piece ≡ take n (take (length all - at) (drop at all)) → take n (piece ++ tail) ++ drop (at + n) bytes ≡ drop at bytes
copied_and_left bytes all piece tail at n same within copied =
    let w : n ≤ length (drop at bytes) = rw (same, take_rest bytes at) at within in
    let p : piece ≡ take n (drop at bytes) = rw (same, take_rest bytes at) at copied in
    let front : take n (piece ++ tail) ≡ piece = take_at piece tail n (ap length p ∙ length-take-le n (drop at bytes) w) in
    let rest : drop (at + n) bytes ≡ drop n (drop at bytes) = sym (drop-drop n at bytes) in
    rw (front, p, rest) (take-append-drop n (drop at bytes))

pub returns-clause-taken : goal.returns-clause-taken
returns-clause-taken c = copied_and_left c.self.inside.bytes _ _ _ c.self.inside.at c.min-count.result c.as_slice.ensures (omega (arith, c.min-count.ensures, c.min.ensures)) c.copy_from_slice.ensures.after ∙ c.self.view_is
