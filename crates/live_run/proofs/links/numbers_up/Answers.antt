use Rattle.std.proofs.Common.{arith, ◌≡◌, ◌+◌, ◌∷◌, ◌++◌, List, [], ℕ, length, refl, sym, ◌∙◌, ap}
use Rattle.live_run.proofs.Searches.{upto_none, upto_more, upto_all}
use Rattle.live_run.proofs.links.numbers_up.Goals as goal

pub loop-place-init : goal.loop-place-init
loop-place-init c = c.new-numbers.ensures ∙ sym (upto_none c.args.links.now)

pub loop-place-preserved : goal.loop-place-preserved
loop-place-preserved c =
    c.in_ok-push_back.ensures.ok ∙ ap (λ (ls : List ℕ). ls ++ c.at.result.now.number ∷ []) c.loop-place.invariant
    ∙ sym (upto_more c.loop-place.place (c.loop-place.place + 1) c.args.links.now c.at.result.now refl c.at.ensures)

pub returns : goal.returns
returns c =
    let e : c.loop-place.place ≡ length c.args.links.now = omega (arith, c.loop-place-test.false, c.loop-place.auto.place-end, c.len-place-end.ensures) in
    c.loop-place.invariant ∙ upto_all c.loop-place.place c.args.links.now e
