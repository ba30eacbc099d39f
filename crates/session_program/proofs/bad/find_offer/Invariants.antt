use Rattle.std.proofs.Common.{take}
use Rattle.session_program.proofs.Offers.{Follows}
use Rattle.session_program.proofs.bad.find_offer.Given as goal

abbrev pub invariant-loop-event : goal.invariant-loop-event
invariant-loop-event l = Follows l.config l.word (take l.event-index l.events) l.session l.offer
