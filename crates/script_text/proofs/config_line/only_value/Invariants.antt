use Rattle.std.proofs.Common.{◌≡◌, ◌++◌, drop}
use Rattle.std.specs.Option.{option_to_list, option_copied}
use Rattle.script_text.specs.ConfigLine.{values}
use Rattle.script_text.proofs.config_line.only_value.Given as goal

abbrev pub invariant-loop-word : goal.invariant-loop-word
invariant-loop-word l = values l.key l.words ≡ option_to_list (option_copied l.found) ++ values l.key (drop l.word-index l.words)
