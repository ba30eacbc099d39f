use Rattle.std.proofs.Common.{length}
use Rattle.script_text.proofs.Escapes.{ReadOn}
use Rattle.script_text.proofs.words.decoded.Given as goal

abbrev pub invariant-loop-run : goal.invariant-loop-run
invariant-loop-run l = ReadOn l.fn.raw l.bytes.items l.left

abbrev pub decreases-loop-run : goal.decreases-loop-run
decreases-loop-run l = length l.left
