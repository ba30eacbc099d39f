use Rattle.std.proofs.Common.{arith, ◌≡◌, ◌+◌, length, refl}
use Rattle.containers.proofs.Choices.{ne_test}
use Rattle.live_run.specs.Places.{itself}
use Rattle.live_run.proofs.Searches.{others_none, others_more, others_all}
use Rattle.live_run.proofs.links.place_in.Goals as goal

pub loop-place-init : goal.loop-place-init
loop-place-init c = others_none itself c.args.number c.args.numbers.now

pub loop-place-preserved : goal.loop-place-preserved
loop-place-preserved c =
    others_more itself c.args.number c.loop-place.place (c.loop-place.place + 1) c.args.numbers.now c.at.result.now refl c.at.ensures
    (ne_test c.at.result.now c.args.number c.if-at-number.false) c.loop-place.invariant

pub returns-clause-none : goal.returns-clause-none
returns-clause-none c =
    let e : c.loop-place.place ≡ length c.args.numbers.now = omega (arith, c.loop-place-test.false, c.loop-place.auto.place-end, c.len-place-end.ensures) in
    λ _. others_all itself c.args.number c.loop-place.place c.args.numbers.now e c.loop-place.invariant
