use Rattle.std.proofs.Common.{arith}
use Rattle.session_callers.proofs.Seats.{splits}
use Rattle.session_callers.proofs.steps.split.Goals as goal

pub split_seat-requires : goal.split_seat-requires
split_seat-requires c = let at = c.requires.at in let w = at.1 in let h = c.requires.holding in (at.0, omega arith, splits _ _ h.0 h.1 c.requires.room)
