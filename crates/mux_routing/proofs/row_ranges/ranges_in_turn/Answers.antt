use Rattle.std.proofs.Common.{◌≡◌, ◌+◌, ◌≤◌, ◌∷◌, List, ℕ, suc, length, drop, get_or, sym, ap, ◌∙◌, arith, drop-cons}
use Rattle.mux_routing.specs.declared.rows.SlotRow.{SlotRow}
use Rattle.mux_routing.proofs.Owning.{one_row, turned}
use Rattle.mux_routing.proofs.row_ranges.ranges_in_turn.Goals as goal

next_row : (rows : List SlotRow) (i j : ℕ) (r : SlotRow) → i + 1 ≡ j → i + 1 ≤ length rows → r ≡ get_or rows i r → drop i rows ≡ r ∷ drop j rows
next_row rows i j r is within e =
    let same : suc i ≡ j = omega (arith, is) in
    drop-cons rows i r (omega (arith, within)) ∙ ap (λ q. q ∷ drop (suc i) rows) (sym e) ∙ ap (λ k. r ∷ drop k rows) same

pub loop-i-preserved : goal.loop-i-preserved
loop-i-preserved c =
    let i = c.loop-i.invariant in
    let r = c.index-rows-i.result in
    let left = next_row c.args.rows.now c.loop-i.i (c.loop-i.i + 1) r (omega arith) (omega (arith, c.loop-i-test.true)) c.index-rows-i.is in
    let t = turned c.loop-i.ranges.items c.push_range.new.ranges.items (c.args.base + c.loop-i.i) c.loop-i.next r _ _ left i.range i.apart i.maximal i.last c.if-row-next.false c.in_ok-push_range.ensures in
    record {
      apart = t.apart;
      maximal = t.maximal;
      last = t.last;
      slots = t.slots;
      first = λ e. absurd (omega (arith, e));
      range = t.range;
      each = λ slot. one_row slot (c.args.base + c.loop-i.i) (c.args.base + (c.loop-i.i + 1)) _ _ r _ _ _ left (omega arith) (t.each slot) (i.each slot);
    }
