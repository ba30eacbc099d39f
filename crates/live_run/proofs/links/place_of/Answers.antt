use Rattle.std.proofs.Common.{arith, ◌≡◌, ◌+◌, length, refl}
use Rattle.containers.proofs.Choices.{ne_test}
use Rattle.live_run.specs.Places.{link_number}
use Rattle.live_run.proofs.Searches.{others_none, others_more, others_all}
use Rattle.live_run.proofs.links.place_of.Goals as goal

pub loop-place-init : goal.loop-place-init
loop-place-init c = others_none link_number c.args.number c.args.links.now

pub loop-place-preserved : goal.loop-place-preserved
loop-place-preserved c =
    others_more link_number c.args.number c.loop-place.place (c.loop-place.place + 1) c.args.links.now c.at.result.now refl c.at.ensures
    (ne_test c.at.result.now.number c.args.number c.if-at-number.false) c.loop-place.invariant

pub returns-clause-none : goal.returns-clause-none
returns-clause-none c =
    let e : c.loop-place.place ≡ length c.args.links.now = omega (arith, c.loop-place-test.false, c.loop-place.auto.place-end, c.len-place-end.ensures) in
    λ _. others_all link_number c.args.number c.loop-place.place c.args.links.now e c.loop-place.invariant
