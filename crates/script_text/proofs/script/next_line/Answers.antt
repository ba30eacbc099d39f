use Rattle.std.proofs.Common.{arith, refl}
use Rattle.script_text.proofs.Cutting.{parts_first}
use Rattle.script_text.proofs.Lines.{no_line, line_refused, line_kept}
use Rattle.script_text.proofs.script.next_line.Goals as goal
use Rattle.script_text.proofs.script.next_line.Goals.{then-cursor-gt-MAX_LINES-via-then-cursor-gt-MAX_LINES, then-cursor-gt-MAX_LINES-via-else-cursor-gt-MAX_LINES+then-line-gt-MAX_LINE, then-cursor-gt-MAX_LINES-via-else-cursor-gt-MAX_LINES+else-line-gt-MAX_LINE+then-line-cursor}

pub returns-in_err-line : goal.returns-in_err-line
returns-in_err-line c =
    let cursor = c.args.cursor.now in
    rw c.from_residual.ensures (no_line cursor.number cursor.room cursor.left.now c.in_err-line.ensures.parts)

pub returns-then-cursor-gt-MAX_LINES : goal.returns-then-cursor-gt-MAX_LINES
returns-then-cursor-gt-MAX_LINES c =
    let cursor = c.args.cursor.now in
    line_refused cursor.number cursor.room cursor.left.now c.in_ok-line.line.now c.in_ok-line.rest.now c.in_ok-line.ensures.parts (λ few short fits.
    elim c.then-cursor-gt-MAX_LINES.branch [
      | then-cursor-gt-MAX_LINES-via-then-cursor-gt-MAX_LINES w ↦ omega arith
      | then-cursor-gt-MAX_LINES-via-else-cursor-gt-MAX_LINES+then-line-gt-MAX_LINE w ↦ omega arith
      | then-cursor-gt-MAX_LINES-via-else-cursor-gt-MAX_LINES+else-line-gt-MAX_LINE+then-line-cursor w ↦ omega arith
    ])

pub returns : goal.returns
returns c =
    let cursor = c.args.cursor.now in
    let parts = c.in_ok-line.ensures.parts in (
      line_kept cursor.number cursor.room cursor.left.now c.in_ok-line.line.now c.in_ok-line.rest.now parts (omega arith) (omega arith) (omega arith),
      record {
        lines = parts_first 10 cursor.left.now c.in_ok-line.line.now c.in_ok-line.rest.now parts;
        number = refl;
        room = refl;
        less = omega (arith, c.in_ok-line.ensures.lengths);
      },
    )
