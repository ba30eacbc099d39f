use Rattle.sub_tracker.proofs.Decided.{last_decides, others_leave}
use Rattle.sub_tracker.proofs.laws.the_last_command_decides.Goals as goal

pub returns : goal.returns
returns c = record { last = last_decides; others = others_leave }
