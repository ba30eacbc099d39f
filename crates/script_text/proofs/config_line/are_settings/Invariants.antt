use Rattle.std.proofs.Common.{◌≡◌, drop}
use Rattle.std.specs.List.{list_all}
use Rattle.script_text.specs.ConfigLine.{is_setting, keys}
use Rattle.script_text.proofs.config_line.are_settings.Given as goal

abbrev pub invariant-loop-word : goal.invariant-loop-word
invariant-loop-word l = list_all (is_setting (keys l.kind)) l.words ≡ list_all (is_setting (keys l.kind)) (drop l.word-index l.words)
