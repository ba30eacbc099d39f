use Rattle.std.proofs.Common.{◌≡◌, length, option_map}
use Rattle.script_text.specs.Words.{words_of_line}
use Rattle.script_text.specs.Pieces.{joined}
use Rattle.script_text.proofs.line.Line.read.Given as goal

abbrev pub invariant-loop-raw : goal.invariant-loop-raw
invariant-loop-raw l = words_of_line l.bytes ≡ option_map (joined l.self) (words_of_line l.left)

abbrev pub decreases-loop-raw : goal.decreases-loop-raw
decreases-loop-raw l = length l.left
