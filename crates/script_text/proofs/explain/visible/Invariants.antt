use Rattle.std.proofs.Common.{◌≡◌, ◌++◌, drop}
use Rattle.std.specs.Prelude.{flat_map}
use Rattle.script_text.specs.Faults.{visible_byte}
use Rattle.script_text.proofs.explain.visible.Given as goal

abbrev pub invariant-loop-byte : goal.invariant-loop-byte
invariant-loop-byte l = flat_map visible_byte l.said ≡ l.text ++ flat_map visible_byte (drop l.byte-index l.said)
