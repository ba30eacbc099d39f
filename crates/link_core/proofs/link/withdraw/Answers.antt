use Rattle.std.proofs.Common.{arith, ◌<◌, [], length, sym, ◌∙◌}
use Rattle.std.proofs.lemmas.Option.{get_or_from_slice_get}
use Rattle.link_core.specs.Waiting.{is_wanted}
use Rattle.link_core.proofs.FirstLemmas.{one_passed, first_here, all_passed, remove_is}
use Rattle.link_core.proofs.link.withdraw.Goals as goal

pub loop-index-preserved : goal.loop-index-preserved
loop-index-preserved c =
    let inv = c.loop-index.invariant in
    let l : c.loop-index.index < length c.args.queue.now = omega (arith, inv.len_is) in
    let q = c.at.result.now in
    let read = sym (get_or_from_slice_get c.args.queue.now c.loop-index.index q q (rw inv.same at c.at.ensures)) in
    record {
      same = inv.same;
      len_is = inv.len_is;
      passed = one_passed (is_wanted c.args.id) (λ _. []) c.args.queue.now c.loop-index.index q l read (sym c.awaits.ensures ∙ c.if-awaits.false) inv.passed;
    }

pub returns-then-awaits : goal.returns-then-awaits
returns-then-awaits c =
    let inv = c.loop-index.invariant in
    let l : c.loop-index.index < length c.args.queue.now = omega (arith, inv.len_is) in
    let q = c.at.result.now in
    let read = sym (get_or_from_slice_get c.args.queue.now c.loop-index.index q q (rw inv.same at c.at.ensures)) in
    let here = first_here (is_wanted c.args.id) (λ _. []) c.args.queue.now c.loop-index.index q l read (sym c.awaits.ensures ∙ c.if-awaits.true) inv.passed in
    (rw inv.same at c.remove.ensures) ∙ remove_is c.args.queue.now c.loop-index.index ∙ sym here

pub returns : goal.returns
returns c =
    let inv = c.loop-index.invariant in
    rw inv.same (all_passed (is_wanted c.args.id) (λ _. []) c.args.queue.now c.loop-index.index (omega (arith, inv.len_is)) inv.passed)
