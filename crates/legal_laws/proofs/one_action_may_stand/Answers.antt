use Rattle.legal_laws.proofs.Traces.Next.{one_is_next_behind}
use Rattle.legal_laws.proofs.one_action_may_stand.Goals as goal

pub returns : goal.returns
returns c = one_is_next_behind
