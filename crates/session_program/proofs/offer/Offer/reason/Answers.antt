use Rattle.session_program.proofs.offer.Offer.reason.Goals as goal

pub returns-in-Wrote : goal.returns-in-Wrote
returns-in-Wrote c = rw c.in-Wrote.is c.reason_of_wrote.ensures
