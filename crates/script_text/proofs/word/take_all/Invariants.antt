use Rattle.std.proofs.Common.{◌≡◌, ◌++◌, drop}
use Rattle.script_text.proofs.word.take_all.Given as goal

abbrev pub invariant-loop-word : goal.invariant-loop-word
invariant-loop-word l = l.fn.words ≡ l.names.items ++ drop l.word-index l.word-items
