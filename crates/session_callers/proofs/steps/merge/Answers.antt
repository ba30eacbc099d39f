use Rattle.std.proofs.Common.{arith, sym, ap, ◌∙◌}
use Rattle.session_callers.proofs.Seats.{joins}
use Rattle.session_callers.proofs.steps.merge.Goals as goal

pub join_seat-requires : goal.join_seat-requires
join_seat-requires c =
    let at = c.requires.at in
    let w = at.0.1 in
    let i = c.other.invariant in
    (at.0.0, ap (λ k. k.table) c.other.view_is ∙ at.1, i.0.1, omega arith, joins _ _ _ _ _ c.requires.idle.0 i.0.0 c.requires.idle.1 i.3)

pub returns-clause-other : goal.returns-clause-other
returns-clause-other c =
    let i = c.other.invariant in
    let v = ap (λ k. k.view) (sym c.other.view_is) in
    ((_, ap (λ x. x.number) v ∙ i.3), ap (λ x. x.ended) v ∙ i.0.3, ap (λ x. x.stage) v ∙ i.0.0)
