use Rattle.session_laws.proofs.Turn.Legality.{bad_of_the_book}
use Rattle.session_laws.proofs.bad_events_are_those_of_the_book.Goals as goal

pub returns : goal.returns
returns c = bad_of_the_book
