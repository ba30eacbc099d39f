use Rattle.std.proofs.Common.{arith, sym, ◌∙◌}
use Rattle.std.proofs.lemmas.Bool.Decides.{nat_tests}
use Rattle.script_text.proofs.Digits.{beyond}
use Rattle.session_program.proofs.rounds.rounds_of.Goals as goal

pub returns-in_err-n-clause-is : goal.returns-in_err-n-clause-is
returns-in_err-n-clause-is c =
    c.from_residual.ensures ∙ sym (beyond 200000 c.loop-byte.n c.loop-byte.byte-index _ c.args.word.now c.loop-byte-test.true c.loop-byte.invariant.value (grind (arith, nat_tests)) c.in_err-n.ensures)
