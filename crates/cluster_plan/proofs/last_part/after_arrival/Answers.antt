use Rattle.cluster_plan.proofs.Going.{goes_settled}
use Rattle.cluster_plan.proofs.last_part.after_arrival.Goals as goal

pub returns-clause-is : goal.returns-clause-is
returns-clause-is c =
    λ more.
    goes_settled c.in_ok-state.state c.args.entries c.args.slots c.args.nodes c.in_ok-left.left c.args.ask.now c.args.told.now more
    c.requires.order c.requires.given c.in_ok-left.ensures c.in_ok-state.ensures.is
