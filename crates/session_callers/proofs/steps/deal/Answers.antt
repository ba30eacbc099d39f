use Rattle.std.proofs.Common.{arith}
use Rattle.session_callers.proofs.Dealing.{deals}
use Rattle.session_callers.proofs.steps.deal.Goals as goal

pub split_seat-requires : goal.split_seat-requires
split_seat-requires c = let at = c.requires.at in let w = at.1 in (at.0, omega arith, deals _ _ c.requires.idle c.requires.several)
