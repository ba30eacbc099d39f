use Rattle.std.proofs.Common.{arith}
use mathlib.Core.Option.{none}
use Rattle.atomic_table.specs.Table.{step}
use Rattle.session_callers.proofs.Moves.{draws_next}
use Rattle.session_callers.proofs.steps.draw.Goals as goal

pub fetch_add-requires : goal.fetch_add-requires
fetch_add-requires c = let at = c.requires.at in let w = at.1 in let n = c.requires.idle.1 in (at.0, omega arith, draws_next _ _ _ (step c.args.board.now.table_id.slots 0 1 0 none) c.requires.idle.0 n)
