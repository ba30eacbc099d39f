use Rattle.std.proofs.Common.{arith}
use Rattle.program_tests.proofs.runs.run_surely.Goals as goal

pub returns : goal.returns
returns c replay bytes told sound = c.run_alone.ensures.does.complete replay bytes told sound (λ rose. omega (arith, rose)) (λ rose. omega (arith, rose))
