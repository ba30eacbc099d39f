use Rattle.std.proofs.Common.{arith, sym, ap, ◌∙◌, ◌∷◌, Some, subst}
use mathlib.Core.Option.{none}
use Rattle.atomic_table.specs.Table.{step, rest}
use Rattle.session_callers.specs.Rule.{MayGive}
use Rattle.session_callers.proofs.Moves.{gives_split}
use Rattle.session_callers.proofs.steps.give_made.Goals as goal

pub load-requires : goal.load-requires
load-requires c =
    let at = c.requires.at in
    let w = at.1 in
    let h = c.requires.holding in
    let x = c.exchange.ensures in
    let me = ap (λ m. m.0) x.3 in
    let hand = ap (λ m. m.1) x.3 ∙ ap (λ xs. (0, Some c.args.home) ∷ rest xs) h.2 in
    (x.0 ∙ at.0, omega arith, gives_split _ _ _ (step c.args.board.now.table_id.slots 0 0 0 none) h.0 c.args.home (ap (λ v. v.stage) me ∙ h.1) hand (subst (λ v. MayGive v c.args.home) (sym me) c.requires.grows))
