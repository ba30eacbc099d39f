use Rattle.std.proofs.Common.{arith, ◌<◌, [], length, sym, ◌∙◌}
use Rattle.std.proofs.lemmas.Option.{get_or_from_slice_get}
use Rattle.link_core.proofs.FirstLemmas.{one_passed, first_here, remove_is}
use Rattle.mux_conn.specs.Passes.{has_number}
use Rattle.mux_conn.proofs.Entries.{one_other, entry_here, all_others}
use Rattle.mux_conn.proofs.advance.place_of.Goals as goal

pub loop-index-preserved : goal.loop-index-preserved
loop-index-preserved c =
    let inv = c.loop-index.invariant in
    let l : c.loop-index.index < length c.args.waiting.now = omega (arith, inv.len_is) in
    let q = c.at.result.now in
    let read = sym (get_or_from_slice_get c.args.waiting.now c.loop-index.index q q c.at.ensures) in
    let other = sym c.is_of.ensures ∙ c.if-is_of.false in
    record {
      len_is = inv.len_is;
      passed = one_passed (has_number c.args.number) (λ _. []) c.args.waiting.now c.loop-index.index q l read other inv.passed;
      others = one_other c.args.number c.args.waiting.now c.loop-index.index q l read other inv.others;
    }

pub returns-then-is_of : goal.returns-then-is_of
returns-then-is_of c =
    let inv = c.loop-index.invariant in
    let l : c.loop-index.index < length c.args.waiting.now = omega (arith, inv.len_is) in
    let q = c.at.result.now in
    let read = sym (get_or_from_slice_get c.args.waiting.now c.loop-index.index q q c.at.ensures) in
    let here = sym c.is_of.ensures ∙ c.if-is_of.true in
    record {
      within = l;
      entry = entry_here c.args.number c.args.waiting.now c.loop-index.index q l read here inv.others ∙ sym c.at.ensures;
      others = first_here (has_number c.args.number) (λ _. []) c.args.waiting.now c.loop-index.index q l read here inv.passed ∙ sym (remove_is c.args.waiting.now c.loop-index.index);
    }

pub returns : goal.returns
returns c =
    let inv = c.loop-index.invariant in
    all_others c.args.number c.args.waiting.now c.loop-index.index (omega (arith, inv.len_is)) inv.others
