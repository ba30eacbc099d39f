use Rattle.std.proofs.Common.{◌≤◌, length}
use Rattle.script_text.proofs.explain.place_of.Given as goal

abbrev pub invariant-loop : goal.invariant-loop
invariant-loop l = length l.left ≤ length l.text
