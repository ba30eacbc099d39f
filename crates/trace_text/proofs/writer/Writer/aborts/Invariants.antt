use Rattle.std.proofs.Common.{◌≡◌, ◌++◌, take}
use Rattle.std.specs.Prelude.{map}
use Rattle.trace_text.specs.Words.{following}
use Rattle.trace_text.specs.Errors.{abort_word}
use Rattle.trace_text.proofs.writer.Writer.aborts.Given as goal

-- the text before the line stays, and the line has each error that was passed
abbrev pub invariant-loop-item : goal.invariant-loop-item
invariant-loop-item l =
    (l.self.before ≡ l.fn.self.before)
    × (l.self.line ≡ l.fn.self.line ++ following (map abort_word (take l.item-index l.errors)))
