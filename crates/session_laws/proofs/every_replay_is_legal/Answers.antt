use Rattle.session_laws.proofs.Turn.Legality.{replay_legal}
use Rattle.session_laws.proofs.every_replay_is_legal.Goals as goal

pub returns : goal.returns
returns c = replay_legal
