use Rattle.legal_laws.proofs.Links.Links.{links_take_in_order}
use Rattle.legal_laws.proofs.Links.Streams.{takes_in_order}
use Rattle.legal_laws.proofs.bytes_are_a_front_of_the_messages.Goals as goal

pub returns-clause-alone : goal.returns-clause-alone
returns-clause-alone c = takes_in_order

pub returns-clause-within : goal.returns-clause-within
returns-clause-within c = links_take_in_order
