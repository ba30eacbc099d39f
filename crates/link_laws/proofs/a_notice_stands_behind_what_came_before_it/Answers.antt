use Rattle.link_laws.proofs.Pieces.{notice_stands}
use Rattle.link_laws.proofs.a_notice_stands_behind_what_came_before_it.Goals as goal

pub returns : goal.returns
returns c = notice_stands
