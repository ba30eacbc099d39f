-- The row as it is kept, with the count of the items that were dealt.
use Rattle.std.proofs.Common.{◌≡◌, ℕ, ◌+◌, ◌<◌, ◌≤◌, Bool, true, false, List, [], ◌∷◌, ◌++◌, length, refl, sym, ap, ◌∙◌, arith}
use Rattle.std.specs.Prelude.{◌==◌, if◌then◌else◌}
use Rattle.resp_value.specs.Data.{Data}
use Rattle.resp_value.specs.View.{data_of, value_of-data_of}
use Rattle.resp_value.specs.declared.value.Value.{Value}
use Rattle.driver_model.specs.Shape.{one_at_least, need_of, verdict_of, confirmed}
use Rattle.driver_model.specs.declared.outcome.Shape.{Shape}
use Rattle.driver_model.specs.declared.outcome.Shape.TheVariants.{Single, Pipeline, Confirmation}
use Rattle.driver_model.specs.declared.outcome.Verdict.TheVariants.{One}
use Rattle.link_core.specs.declared.message.Entry.{Entry}
use Rattle.link_core.specs.declared.row.Taker.{Taker}
use Rattle.link_core.specs.First.{first_replaced}
use Rattle.link_core.specs.Row.{lack_of, lack_of_row, silent, is_entry_of, silenced}
use Rattle.link_core.specs.Ring.{entries_of, IsRing, lack_of_first}

-- all are full where as many items were dealt as they lack
pub ring_end : (dealt end : ℕ) (ts : List Taker) → IsRing dealt ts end → end ≡ dealt + lack_of_row (entries_of ts)
ring_end dealt end [] h = omega (arith, h)
ring_end dealt end (t ∷ ts) h = let rest = ring_end t.end end ts h.2 in omega (arith, rest, h.1)

-- one message more
pub one_more : (dealt end : ℕ) (ts : List Taker) (t : Taker) → IsRing dealt ts end → 0 < lack_of t.entry → t.end ≡ end + lack_of t.entry → IsRing dealt (ts ++ t ∷ []) t.end
one_more dealt end [] t h some is = (some, is ∙ ap (λ n. n + lack_of t.entry) (sym h), refl)
one_more dealt end (s ∷ ts) t h some is = (h.0, h.1, one_more s.end end ts t h.2 some is)

-- a message takes one item at least
one_by : (count : ℕ) (none : Bool) → (count == 0) ≡ none → 0 < (if none then 1 else count)
one_by count true is = omega arith
one_by count false is = grind arith

one_needed : (count : ℕ) → 0 < one_at_least count
one_needed count = one_by count (count == 0) refl

pub some_needed : (shape : Shape) → 0 < need_of shape
some_needed Single = omega arith
some_needed (Pipeline offset count transaction) = omega (arith, one_needed count)
some_needed Confirmation = omega arith

-- the count has room for an item that doesn't fill the oldest message
pub room_left : (dealt end : ℕ) (ts : List Taker) → 1 < lack_of_first (entries_of ts) → IsRing dealt ts end → dealt + 1 ≤ end
room_left dealt end [] more h = absurd (omega (arith, more))
room_left dealt end (t ∷ ts) more h = let all = ring_end dealt end (t ∷ ts) h in omega (arith, more, all)

-- the one reply of a single command
pub only_reply : (got : List Data) (v : Value) → length got < need_of Single → One v ≡ verdict_of Single (got ++ data_of v ∷ [])
only_reply [] v l = ap One (sym (value_of-data_of v))
only_reply (d ∷ ds) v l = absurd (omega (arith, l))

-- the one answer to a subscription call
pub only_answer : (got : List Data) (v : Value) → length got < need_of Confirmation → confirmed (data_of v) ≡ verdict_of Confirmation (got ++ data_of v ∷ [])
only_answer [] v l = refl
only_answer (d ∷ ds) v l = absurd (omega (arith, l))

-- a message whose verdict isn't wanted
abbrev pub silent_in : Taker → Taker
silent_in t = record t { entry = silent t.entry }

abbrev pub is_taker_of : ℕ → Taker → Bool
is_taker_of id t = is_entry_of id t.entry

abbrev pub silenced_in : List Taker → ℕ → List Taker
silenced_in ts id = first_replaced (is_taker_of id) (λ t. silent_in t ∷ []) ts

silent_here : (id : ℕ) (t : Taker) (ts : List Taker) (here : Bool) → is_taker_of id t ≡ here → entries_of (silenced_in ts id) ≡ silenced (entries_of ts) id → entries_of (silenced_in (t ∷ ts) id) ≡ silenced (entries_of (t ∷ ts)) id
silent_here id t ts true is h = rw is refl
silent_here id t ts false is h = rw is (ap (λ (es : List Entry). t.entry ∷ es) h)

pub silent_entries : (ts : List Taker) (id : ℕ) → entries_of (silenced_in ts id) ≡ silenced (entries_of ts) id
silent_entries [] id = refl
silent_entries (t ∷ ts) id = silent_here id t ts (is_taker_of id t) refl (silent_entries ts id)

ring_here : (id dealt end : ℕ) (t : Taker) (ts : List Taker) (here : Bool) → is_taker_of id t ≡ here → IsRing dealt (t ∷ ts) end → IsRing t.end (silenced_in ts id) end → IsRing dealt (silenced_in (t ∷ ts) id) end
ring_here id dealt end t ts true is h rest = rw is h
ring_here id dealt end t ts false is h rest = rw is (h.0, h.1, rest)

pub silent_ring : (ts : List Taker) (id dealt end : ℕ) → IsRing dealt ts end → IsRing dealt (silenced_in ts id) end
silent_ring [] id dealt end h = h
silent_ring (t ∷ ts) id dealt end h = ring_here id dealt end t ts (is_taker_of id t) refl h (silent_ring ts id t.end end h.2)
