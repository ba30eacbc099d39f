use Rattle.legal_laws.proofs.Links.Lines.{ledgers_are_told}
use Rattle.legal_laws.proofs.Links.Links.{links_are_legal}
use Rattle.legal_laws.proofs.every_link_is_legal.Goals as goal

pub returns-clause-legal : goal.returns-clause-legal
returns-clause-legal c = links_are_legal

pub returns-clause-told : goal.returns-clause-told
returns-clause-told c = ledgers_are_told
