-- The size of a queue and the boundary of a link, at the number itself and beside it.
use Rattle.std.proofs.Common.{◌≡◌, ◌+◌, ◌<◌, nat_lt, nat_le, Bool, true, false, ◌&&◌, length, refl, arith}
use Rattle.containers.proofs.Choices.{le_test, not_le_test}
use Rattle.link_core.specs.Link.{LinkState, is_full, holds_back}
use Rattle.link_laws.proofs.Choices.{lt_test, not_lt_test}

-- two tests, of which the first fails
first_off : (a b : Bool) → a ≡ false → (a && b) ≡ false
first_off true b e = cc
first_off false b e = refl

-- the second fails
second_off : (a b : Bool) → b ≡ false → (a && b) ≡ false
second_off true b e = e
second_off false b e = refl

-- where both pass, a link is held back
both_on : (s : LinkState) → 0 < length s.outbox.unwritten → nat_le s.boundary (length s.outbox.unwritten) ≡ true → holds_back s ≡ true
both_on s some on = (λ i. lt_test 0 (length s.outbox.unwritten) some i && on i)

-- a boundary above the unwritten bytes never holds back
pub free_beyond : (s : LinkState) → length s.outbox.unwritten < s.boundary → holds_back s ≡ false
free_beyond s l = second_off (nat_lt 0 (length s.outbox.unwritten)) (nat_le s.boundary (length s.outbox.unwritten)) (not_le_test s.boundary (length s.outbox.unwritten) l)

-- unwritten bytes one below the boundary
pub free_below : (s : LinkState) → length s.outbox.unwritten + 1 ≡ s.boundary → holds_back s ≡ false
free_below s e = free_beyond s (omega arith)

-- as many as the boundary
pub held_at : (s : LinkState) → 0 < length s.outbox.unwritten → length s.outbox.unwritten ≡ s.boundary → holds_back s ≡ true
held_at s some e = both_on s some (le_test s.boundary (length s.outbox.unwritten) (omega arith))

-- one more
pub held_above : (s : LinkState) → length s.outbox.unwritten ≡ s.boundary + 1 → holds_back s ≡ true
held_above s e = both_on s (omega arith) (le_test s.boundary (length s.outbox.unwritten) (omega arith))

-- with nothing unwritten a link is free
pub free_empty : (s : LinkState) → length s.outbox.unwritten ≡ 0 → holds_back s ≡ false
free_empty s e = first_off (nat_lt 0 (length s.outbox.unwritten)) (nat_le s.boundary (length s.outbox.unwritten)) (not_lt_test 0 (length s.outbox.unwritten) (omega arith))

-- a queue one below its size
pub room_below : (s : LinkState) → length s.queue + 1 ≡ s.size → is_full s ≡ false
room_below s e = not_le_test s.size (length s.queue) (omega arith)

-- and at it
pub full_at : (s : LinkState) → length s.queue ≡ s.size → is_full s ≡ true
full_at s e = le_test s.size (length s.queue) (omega arith)
