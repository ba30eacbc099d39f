use Rattle.std.proofs.Common.{length}
use Rattle.script_text.proofs.explain.part_fault.Given as goal

abbrev pub decreases-loop-raw : goal.decreases-loop-raw
decreases-loop-raw l = length l.left
