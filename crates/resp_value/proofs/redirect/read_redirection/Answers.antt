use Rattle.resp_value.proofs.Places.{no_place}
use Rattle.resp_value.proofs.redirect.read_redirection.Goals as goal

pub returns-in_err-slot : goal.returns-in_err-slot
returns-in_err-slot c = rw c.from_residual-in_err-slot.ensures (no_place _ _ _ c.in-Some.is c.as_slice-2.ensures c.in_err-slot.ensures)
