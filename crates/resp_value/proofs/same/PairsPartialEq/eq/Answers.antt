use Rattle.resp_value.specs.Sameness.{pairs_Decides}
use Rattle.resp_value.proofs.same.PairsPartialEq.eq.Goals as goal

pub returns-clause-exact : goal.returns-clause-exact
returns-clause-exact c = rw c.same_members.ensures (pairs_Decides c.args.self.now c.args.other.now)
