use Rattle.std.proofs.Common.{take}
use Rattle.legal_trace.specs.Book.{Book, entered_each}
use Rattle.session_program.specs.Offers.{IsOfferOf}
use Rattle.session_program.proofs.offer.Offer.after_each.Given as goal

abbrev pub invariant-loop-action : goal.invariant-loop-action
invariant-loop-action l = (b : Book) → IsOfferOf l.fn.self b → IsOfferOf l.offer (entered_each b (take l.action-index l.actions))
