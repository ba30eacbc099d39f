use Rattle.cluster_plan.proofs.Going.{goes_initial}
use Rattle.cluster_plan.proofs.recovery.after_connect.Goals as goal

pub returns-clause-is : goal.returns-clause-is
returns-clause-is c =
    λ more.
    goes_initial c.in_ok-state.state c.args.connects c.answer.new.self c.args.entries c.args.slots c.args.ask.now c.args.told more
    c.requires.asking c.requires.given c.answer.ensures c.in_ok-state.ensures.is
