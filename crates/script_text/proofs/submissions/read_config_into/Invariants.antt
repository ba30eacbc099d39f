use Rattle.std.proofs.Common.{◌≡◌, ◌∷◌, codes, drop, option_map}
use Rattle.script_text.specs.Lines.{texts}
use Rattle.script_text.specs.Pieces.{joined}
use Rattle.script_text.specs.Words.{words_of_parts}
use Rattle.script_text.proofs.submissions.read_config_into.Given as goal

abbrev pub invariant-loop-word : goal.invariant-loop-word
invariant-loop-word l = words_of_parts (codes "config" ∷ texts l.words) ≡ option_map (joined l.line) (words_of_parts (texts (drop l.word-index l.words)))
