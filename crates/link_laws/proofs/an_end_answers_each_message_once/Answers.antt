use Rattle.link_laws.proofs.RunsOnce.{performed_keeps, performed_once}
use Rattle.link_laws.proofs.an_end_answers_each_message_once.Goals as goal

pub returns : goal.returns
returns c = record { line = performed_keeps; end = performed_once }
