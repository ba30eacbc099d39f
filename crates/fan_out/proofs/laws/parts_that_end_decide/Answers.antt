use Rattle.fan_out.proofs.Deciding.{decided_stays, whole_is_decided}
use Rattle.fan_out.proofs.laws.parts_that_end_decide.Goals as goal

pub returns : goal.returns
returns c = record { whole = whole_is_decided; stays = decided_stays }
