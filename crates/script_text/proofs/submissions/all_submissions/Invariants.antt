use Rattle.std.proofs.Common.{◌≡◌, ◌++◌, length}
use Rattle.std.specs.Result.{result_map_both}
use Rattle.script_text.specs.Lines.{submissions_left}
use Rattle.script_text.proofs.submissions.all_submissions.Given as goal

abbrev pub invariant-loop-line : goal.invariant-loop-line
invariant-loop-line l = submissions_left l.kind l.fn.cursor ≡ result_map_both (λ more. l.lines ++ more) (λ n. n) (submissions_left l.kind l.cursor)

abbrev pub decreases-loop-line : goal.decreases-loop-line
decreases-loop-line l = length l.cursor.left.now
