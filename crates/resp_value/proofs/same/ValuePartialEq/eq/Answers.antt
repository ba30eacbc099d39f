use Rattle.resp_value.specs.Sameness.{value_Decides}
use Rattle.resp_value.proofs.same.ValuePartialEq.eq.Goals as goal

pub returns-clause-exact : goal.returns-clause-exact
returns-clause-exact c = rw c.same.ensures (value_Decides c.args.self.now c.args.other.now)
