use Rattle.std.proofs.Common.{arith, sym, ◌∙◌}
use Rattle.std.proofs.lemmas.Bool.Decides.{when_true}
use Rattle.session_program.proofs.Texts.{shrinks}
use Rattle.session_program.proofs.reading.read_once.Goals as goal

pub returns-then-branch-clause-falls : goal.returns-then-branch-clause-falls
returns-then-branch-clause-falls g c is =
    let push = c.in_ok-push-in-Read.ensures in
    shrinks _ _ c.read.new.room c.in-Read.count (when_true _ _ c.if-branch.true push.answer) c.in-Read.ensures.within.0 (omega (arith, c.in-Read.ensures.within)) (sym push.limits ∙ c.if-branch.true)
