use Rattle.std.proofs.Common.{arith, sym, ap, ◌∙◌, ◌∷◌, Some}
use mathlib.Core.Option.{none}
use Rattle.atomic_table.specs.Table.{step, rest}
use Rattle.session_callers.specs.Rule.{home_of}
use Rattle.session_callers.proofs.Moves.{takes_out}
use Rattle.session_callers.proofs.steps.take.Goals as goal

pub load-requires : goal.load-requires
load-requires c = let at = c.requires.at in let w = at.1 in let s = c.requires.served in (at.0, omega arith, takes_out _ _ _ (step c.args.board.now.table_id.slots 0 0 0 none) s.0 s.1)

pub exchange-requires : goal.exchange-requires
exchange-requires c =
    let l = c.load.ensures in
    let carried = ap (λ m. m.1) l.2.0 in
    (l.0 ∙ c.requires.at.0, (Some (home_of c.args.seat.now.me.0), carried ∙ ap (λ xs. (0, Some (home_of c.args.seat.now.me.0)) ∷ rest xs) (sym carried)))
