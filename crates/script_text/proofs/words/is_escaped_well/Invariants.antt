use Rattle.std.proofs.Common.{◌≡◌, drop}
use Rattle.script_text.specs.Words.{is_well_escaped}
use Rattle.script_text.proofs.words.is_escaped_well.Given as goal

abbrev pub invariant-loop-i : goal.invariant-loop-i
invariant-loop-i l = is_well_escaped l.raw ≡ is_well_escaped (drop l.i l.raw)
