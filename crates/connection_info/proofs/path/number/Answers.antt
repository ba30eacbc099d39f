use Rattle.std.proofs.Common.{arith, sym, ◌∙◌}
use Rattle.std.proofs.lemmas.Bool.Decides.{nat_tests}
use Rattle.connection_info.proofs.Text.{beyond}
use Rattle.connection_info.proofs.path.number.Goals as goal

pub returns-in_err-n : goal.returns-in_err-n
returns-in_err-n c =
    c.from_residual.ensures ∙ sym (beyond c.loop-byte.n c.loop-byte.byte-index _ c.args.digits.now c.loop-byte-test.true c.loop-byte.invariant.value (grind (arith, nat_tests)) c.in_err-n.ensures)
