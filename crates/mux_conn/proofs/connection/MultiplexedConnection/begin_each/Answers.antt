use Rattle.std.proofs.Common.{◌≡◌, arith, ◌<◌, ℕ, List, length, sym, ap, ◌∙◌}
use Rattle.std.specs.Prelude.{slice_get, Some}
use Rattle.std.proofs.lemmas.Option.{get_or_from_slice_get}
use Rattle.mux_conn.specs.Connection.{Work}
use Rattle.mux_conn.proofs.Begun.{round_fresh, one_begun, all_begun}
use Rattle.mux_conn.proofs.connection.MultiplexedConnection.begin_each.Goals as goal

pub loop-index-preserved : goal.loop-index-preserved
loop-index-preserved c =
    let inv = c.loop-index.invariant in
    let ps = c.args.self.now.fresh in
    let w : Work = record { conn = c.loop-index.self; acts = c.loop-index.out.items } in
    let l : c.loop-index.index < length ps = omega (arith, inv.len_is) in
    let p = c.at-number.result.now in
    let here : slice_get ps c.loop-index.index ≡ Some p = ap (λ (xs : List ℕ). slice_get xs c.loop-index.index) (sym inv.same) ∙ c.at-number.ensures in
    let read = sym (get_or_from_slice_get ps c.loop-index.index p p here) in
    record {
      len_is = inv.len_is;
      same = ap (λ (x : Work). x.conn.fresh) c.in_ok-begin_round.ensures.work ∙ round_fresh w p ∙ inv.same;
      work = one_begun w _ _ ps c.loop-index.index p l read c.in_ok-begin_round.ensures.work inv.work;
      count = c.in_ok-begin_round.ensures.count ∙ inv.count;
      failure = c.in_ok-begin_round.ensures.failure ∙ inv.failure;
    }

pub returns-clause-work : goal.returns-clause-work
returns-clause-work c =
    let inv = c.loop-index.invariant in
    let w : Work = record { conn = c.loop-index.self; acts = c.loop-index.out.items } in
    all_begun w _ c.args.self.now.fresh c.loop-index.index (omega (arith, inv.len_is)) inv.work
