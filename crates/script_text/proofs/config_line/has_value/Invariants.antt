use Rattle.std.proofs.Common.{◌≡◌, drop}
use Rattle.script_text.specs.ConfigLine.{values}
use Rattle.script_text.proofs.config_line.has_value.Given as goal

abbrev pub invariant-loop-word : goal.invariant-loop-word
invariant-loop-word l = values l.key l.words ≡ values l.key (drop l.word-index l.words)
