use Rattle.std.proofs.Common.{arith, ◌≡◌, ◌+◌, length, refl}
use Rattle.containers.proofs.Choices.{ne_test}
use Rattle.live_run.specs.Places.{target_link}
use Rattle.live_run.proofs.Searches.{others_none, others_more, others_all}
use Rattle.live_run.proofs.agenda.place_of.Goals as goal

pub loop-place-init : goal.loop-place-init
loop-place-init c = others_none target_link c.args.link c.args.dials.now

pub loop-place-preserved : goal.loop-place-preserved
loop-place-preserved c =
    others_more target_link c.args.link c.loop-place.place (c.loop-place.place + 1) c.args.dials.now c.at.result.now refl c.at.ensures
    (ne_test c.at.result.now.link c.args.link c.if-at-link.false) c.loop-place.invariant

pub returns-clause-none : goal.returns-clause-none
returns-clause-none c =
    let e : c.loop-place.place ≡ length c.args.dials.now = omega (arith, c.loop-place-test.false, c.loop-place.auto.place-end, c.len-place-end.ensures) in
    λ _. others_all target_link c.args.link c.loop-place.place c.args.dials.now e c.loop-place.invariant
