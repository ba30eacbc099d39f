use Rattle.std.proofs.Common.{arith, refl, None, ◌+◌}
use mathlib.Core.Option.{none}
use Rattle.atomic_table.specs.Table.{step}
use Rattle.session_callers.proofs.Moves.{dials}
use Rattle.session_callers.proofs.steps.dial.Goals as goal

pub compare_exchange-requires : goal.compare_exchange-requires
compare_exchange-requires c = let at = c.requires.at in let w = at.1 in (at.0, omega arith, dials _ _ _ None c.args.g c.requires.caller c.requires.room (step c.args.board.now.table_id.slots 2 c.args.g (c.args.g + 1) none) refl refl)
