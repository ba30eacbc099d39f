use Rattle.std.proofs.Common.{◌≤◌, sym, ◌∙◌, arith}
use Rattle.mux_routing.proofs.Overlaying.{both_say, go_on, told_next}
use Rattle.mux_routing.proofs.overlay.overlay.Goals as goal

pub loop-at-preserved : goal.loop-at-preserved
loop-at-preserved c =
    let i = c.loop-at.invariant in
    let above = c.stretch_at-above in
    let below = c.stretch_at-below in
    let end = c.over-seen.result.end in
    let le : c.loop-at.at ≤ end = omega (arith, c.over-seen.ensures.end, above.ensures.order, below.ensures.order) in
    let to_above : end ≤ above.result.end = omega (arith, c.over-seen.ensures.end) in
    let to_below : end ≤ below.result.end = omega (arith, c.over-seen.ensures.end) in
    record {
      slots = omega (arith, to_above, above.ensures.slot);
      told = told_next _ _ _ c.loop-at.at end c.over-seen.result.row le (omega (arith, to_above, above.ensures.slot)) (λ s from to. both_say _ _ _ _ c.loop-at.at end above.result.row below.result.row i.later i.earlier (λ k ge less. above.ensures.same k ge (omega (arith, less, to_above))) (λ k ge less. below.ensures.same k ge (omega (arith, less, to_below))) s from to ∙ sym c.over-seen.ensures.row) c.in_ok-push_stretch.ensures i.told;
      earlier = go_on _ _ _ c.loop-at.at end le i.earlier (record { apart = c.behind-earlier.ensures.apart; reach = c.behind-earlier.ensures.reach; same = c.behind-earlier.ensures.same });
      later = go_on _ _ _ c.loop-at.at end le i.later (record { apart = c.behind-later.ensures.apart; reach = c.behind-later.ensures.reach; same = c.behind-later.ensures.same });
    }
