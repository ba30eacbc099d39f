use Rattle.std.proofs.Common.{◌≡◌, drop}
use Rattle.std.specs.List.{list_all}
use Rattle.script_text.specs.ConfigLine.{is_setting, keys}
use Rattle.script_text.proofs.config_fault.setting_fault.Given as goal

abbrev pub invariant-loop-index : goal.invariant-loop-index
invariant-loop-index l = list_all (is_setting (keys l.kind)) l.words ≡ list_all (is_setting (keys l.kind)) (drop l.index l.words)
