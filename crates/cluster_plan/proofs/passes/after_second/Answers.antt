use Rattle.std.proofs.Common.{◌++◌, ◌∷◌, ◌∙◌, sym, ap}
use Rattle.cluster_plan.specs.Connections.{entry}
use Rattle.cluster_plan.specs.Recovering.{after_heard, plan_of}
use Rattle.cluster_plan.specs.Refresh.{after_second, renewed, second_replies, until_good, visited}
use Rattle.cluster_plan.proofs.passes.after_second.Goals as goal

pub returns-in-Goes-clause-is : goal.returns-in-Goes-clause-is
unfolding plan_of
returns-in-Goes-clause-is c = λ more. sym (ap (λ h. after_heard c.args.pass c.args.slots c.args.step c.args.last h more) c.in-Goes.is)

pub returns-in_ok-next-in-Rows-clause-is : goal.returns-in_ok-next-in-Rows-clause-is
returns-in_ok-next-in-Rows-clause-is c =
    let p = c.args.pass in
    λ more.
    c.in_ok-next-in-Rows.ensures.is more
    ∙ ap (λ state. renewed (p.passed ++ entry p.here.address state ∷ p.rest) c.in-Rows.rows more) c.entered.ensures
    ∙ sym (ap (λ h. after_heard p c.args.slots c.args.step c.args.last h more) c.in-Rows.is)

pub returns-in_ok-next-in-Error-clause-is : goal.returns-in_ok-next-in-Error-clause-is
returns-in_ok-next-in-Error-clause-is c =
    let p = c.args.pass in
    λ more.
    c.in_ok-next-in-Error.ensures.is more
    ∙ ap (λ state. after_second (p.passed ++ entry p.here.address state ∷ visited p.rest more) c.args.slots more (until_good c.in-Error.error (second_replies p.rest more))) c.entered-in-Error.ensures
    ∙ sym (ap (λ h. after_heard p c.args.slots c.args.step c.args.last h more) c.in-Error.is)
