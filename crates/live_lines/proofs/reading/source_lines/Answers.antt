use Rattle.std.proofs.Common.{ℕ, List, IfOk, Result, ◌∙◌, sym, subst}
use Rattle.caller_threads.specs.Submits.{Line, IsAllowed}
use Rattle.session_callers.specs.Rule.{Each}
use Rattle.text_laws.specs.Fits.{AreBytes}
use Rattle.live_lines.proofs.Allowed.{all_allowed}
use Rattle.live_lines.proofs.Few.{lines_few}
use Rattle.live_lines.proofs.reading.source_lines.Goals as goal

pub returns-in-Ok-read_lines-clause-allowed : goal.returns-in-Ok-read_lines-clause-allowed
returns-in-Ok-read_lines-clause-allowed g c =
    let bytes : AreBytes c.as_slice-2.result.now = subst (λ (text : List ℕ). AreBytes text) (c.as_slice.ensures ∙ sym c.as_slice-2.ensures) c.a_slice_has_bytes.ensures in
    subst (λ (r : Result (List Line) ℕ). IfOk r (Each (IsAllowed c.args.kind))) c.in-Ok-read_lines.ensures.lines (all_allowed c.args.kind c.as_slice-2.result.now bytes)

pub returns-in-Ok-read_lines-clause-few : goal.returns-in-Ok-read_lines-clause-few
returns-in-Ok-read_lines-clause-few g c = lines_few c.args.kind c.as_slice-2.result.now _ c.in-Ok-read_lines.ensures.lines
