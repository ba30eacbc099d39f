use Rattle.std.proofs.Common.{◌≡◌, sym, subst}
use Rattle.session_callers.specs.Calls.{Known}
use Rattle.session_callers.specs.Rule.{Each}
use Rattle.session_callers.proofs.Dealing.{each_founder}
use Rattle.session_callers.proofs.session.SharedSession.with_callers.Goals as goal

pub returns-in-Ok-dealt-clause-of : goal.returns-in-Ok-dealt-clause-of
returns-in-Ok-dealt-clause-of c =
    let z = c.in-Ok.made.0.table.shared.table_id in
    subst (Each (λ (x : Known). x.table ≡ z)) (sym c.in-Ok-dealt.ensures) (each_founder (λ (x : Known). x.table ≡ z) _ _ _ _ (λ m. c.in-Ok.ensures.seat.0) _ _)
