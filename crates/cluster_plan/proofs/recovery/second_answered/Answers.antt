use Rattle.std.proofs.Common.{◌≡◌, ◌∙◌, ap}
use Rattle.cluster_plan.specs.Heard.{heard_of}
use Rattle.cluster_plan.proofs.Going.{goes_by_second}
use Rattle.cluster_plan.proofs.recovery.second_answered.Goals as goal

pub returns-clause-is : goal.returns-clause-is
returns-clause-is c =
    let heard : c.in-Ok.heard ≡ heard_of c.args.pass.here.address.host c.args.step c.args.told =
    c.in-Ok.ensures.is ∙ ap (λ host. heard_of host c.args.step c.args.told) c.as_slice.ensures in
    λ more.
    goes_by_second c.in_ok-state.state c.args.pass c.args.slots c.args.step c.args.last c.in-Ok.heard c.args.ask.now c.args.told more
    c.requires.order c.requires.given heard c.in_ok-state.ensures.is
