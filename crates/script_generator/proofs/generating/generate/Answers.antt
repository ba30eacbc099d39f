use Rattle.std.proofs.Common.{◌≡◌, ℕ, List, subst}
use Rattle.std.specs.Prelude.{IfOk}
use Rattle.script_generator.specs.Summary.{summary_line}
use Rattle.script_generator.specs.declared.summary.Summary.{Summary}
use Rattle.script_generator.proofs.generating.generate.Goals as goal

pub returns : goal.returns
returns c = subst (λ (counts : Summary). IfOk c.line.result (λ (line : List ℕ). line ≡ summary_line counts)) c.in_ok-take_all.ensures c.line.ensures
