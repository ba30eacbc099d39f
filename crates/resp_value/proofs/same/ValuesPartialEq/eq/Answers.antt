use Rattle.resp_value.specs.Sameness.{list_Decides}
use Rattle.resp_value.proofs.same.ValuesPartialEq.eq.Goals as goal

pub returns-clause-exact : goal.returns-clause-exact
returns-clause-exact c = rw c.same_items.ensures (list_Decides c.args.self.now c.args.other.now)
