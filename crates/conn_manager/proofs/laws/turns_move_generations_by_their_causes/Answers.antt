use Rattle.conn_manager.proofs.Turns.{in_turns, behind}
use Rattle.conn_manager.proofs.laws.turns_move_generations_by_their_causes.Goals as goal

pub returns : goal.returns
returns c = record { turns = in_turns; passes = behind }
