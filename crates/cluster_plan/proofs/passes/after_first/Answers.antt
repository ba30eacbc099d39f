use Rattle.std.proofs.Common.{◌≡◌, ◌∙◌, Some, ap, sym}
use Rattle.cluster_plan.specs.Asks.{rows_told}
use Rattle.cluster_plan.proofs.Going.{goes_first_good}
use Rattle.cluster_plan.proofs.passes.after_first.Goals as goal

pub returns-in_ok-state-in-Some-clause-is : goal.returns-in_ok-state-in-Some-clause-is
returns-in_ok-state-in-Some-clause-is c =
    let told : rows_told c.args.pass.here.address.host c.args.told.now ≡ Some c.in-Some.rows =
    ap (λ host. rows_told host c.args.told.now) (sym c.as_slice.ensures) ∙ sym c.in-Ok.ensures.told ∙ c.in-Some.is in
    λ more.
    goes_first_good c.in_ok-state-in-Some.state c.args.pass c.args.slots c.in-Some.rows c.args.link c.args.told.now more
    told c.in_ok-state-in-Some.ensures.is
