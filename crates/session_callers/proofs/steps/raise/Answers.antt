use Rattle.std.proofs.Common.{arith}
use mathlib.Core.Option.{none}
use Rattle.atomic_table.specs.Table.{step}
use Rattle.session_callers.proofs.Moves.{raises}
use Rattle.session_callers.proofs.steps.raise.Goals as goal

pub fetch_add-requires : goal.fetch_add-requires
fetch_add-requires c = let at = c.requires.at in let w = at.1 in let s = c.requires.served in (at.0, omega arith, raises _ _ _ (step c.args.board.now.table_id.slots 1 1 0 none) s.0 s.1)
