use Rattle.std.proofs.Common.{◌≡◌, ◌+◌, ◌-◌, ◌/◌, ◌<◌, ◌≤◌, ℕ, nat_lt, List, Option, Some, None, length, take, drop, length-drop, sym, ap, subst, ◌∙◌, arith}
use Rattle.std.specs.Prelude.{IsSome}
use Rattle.std.proofs.Math.Seq.{take-length}
use Rattle.std.proofs.lemmas.List.{length-take-le, take-append-drop}
use Rattle.containers.proofs.Choices.{by_test, lt_from, not_lt_from}
use Rattle.mux_routing.specs.declared.rows.SlotRow.{SlotRow}
use Rattle.mux_routing.specs.Kept.{AreOwned}
use Rattle.mux_routing.specs.Ranges.{row_in}
use Rattle.mux_routing.specs.Shards.{or_else}
use Rattle.mux_routing.proofs.Owning.{front_in_range, of_halves}
use Rattle.mux_routing.proofs.row_ranges.+ranges_of.Goals as goal

not_none : {T : Type 0} (o : Option T) → IsSome o → o ≡ None → ⊥
not_none None h e = cc
not_none (Some x) h e = cc

pub ranges_of-requires : goal.ranges_of-requires
ranges_of-requires t c =
    let rows = c.args.rows.now in
    let half = length rows / 2 in
    let taken : length (take half rows) ≡ half = length-take-le half rows (omega arith) in
    let some : 1 < length rows = by_test (nat_lt 1 (length rows)) (1 < length rows) (λ y. lt_from 1 (length rows) y) (λ n. absurd (not_none c.in_ok-ranges.field-0 (c.in_ok-ranges.ensures.single (not_lt_from 1 (length rows) n)) c.in_default.is)) in
    (omega (arith, taken, some), (front_in_range half rows c.requires.range, omega (arith, taken, c.requires.numbers)))

back_whole : (rows : List SlotRow) (k : ℕ) → take (length rows - k) (drop k rows) ≡ drop k rows
back_whole rows k = ap (λ n. take n (drop k rows)) (sym (length-drop k rows)) ∙ take-length (drop k rows)

pub returns : goal.returns
returns t c =
    let rows = c.args.rows.now in
    let half = length rows / 2 in
    let taken : length (take half rows) ≡ half = length-take-le half rows (omega arith) in
    of_halves c.in_ok-earlier.earlier.items c.in_ok-later.later.items c.in_ok-ranges-2.ranges.items c.args.base (c.args.base + half) (take half rows) (drop half rows) rows (take-append-drop half rows) (omega (arith, taken)) c.in_ok-earlier.ensures (subst (AreOwned c.in_ok-later.later.items (c.args.base + half)) (back_whole rows half) c.in_ok-later.ensures) c.in_ok-ranges-2.ensures.apart c.in_ok-ranges-2.ensures.maximal (λ slot.
    c.in_ok-ranges-2.ensures.each slot
    ∙ ap (λ rs. or_else (row_in rs slot) (row_in c.as_slice.result.now slot)) c.as_slice-2.ensures.value
    ∙ ap (λ rs. or_else (row_in c.in_ok-later.later.items slot) (row_in rs slot)) c.as_slice.ensures.value)
