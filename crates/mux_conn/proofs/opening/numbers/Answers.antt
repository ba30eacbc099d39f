use Rattle.std.proofs.Common.{arith, ◌+◌, ◌<◌, List, ℕ, length, sym, subst}
use Rattle.std.proofs.lemmas.Option.{get_or_from_slice_get}
use Rattle.mux_conn.proofs.Entries.{AreNoted, one_noted, all_noted}
use Rattle.mux_conn.proofs.opening.numbers.Goals as goal

pub loop-index-preserved : goal.loop-index-preserved
loop-index-preserved c =
    let inv = c.loop-index.invariant in
    let ws = c.args.waiting.now in
    let l : c.loop-index.index < length ws = omega (arith, inv.len_is) in
    let q = c.at.result.now in
    let read = sym (get_or_from_slice_get ws c.loop-index.index q q c.at.ensures) in
    record {
      len_is = inv.len_is;
      noted = subst (λ (xs : List ℕ). AreNoted xs ws (c.loop-index.index + 1)) (sym c.in_ok-push_back.ensures.ok) (one_noted c.loop-index.numbers ws c.loop-index.index q l read inv.noted);
    }

pub returns : goal.returns
returns c =
    let inv = c.loop-index.invariant in
    all_noted c.loop-index.numbers c.args.waiting.now c.loop-index.index (omega (arith, inv.len_is)) inv.noted
