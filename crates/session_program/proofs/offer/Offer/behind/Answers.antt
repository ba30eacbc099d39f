use Rattle.legal_trace.specs.Book.{blank_book, book}
use Rattle.session_program.proofs.offer.Offer.behind.Goals as goal

pub returns : goal.returns
unfolding book
returns c = c.after_each.ensures blank_book c.new.ensures
