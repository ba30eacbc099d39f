use Rattle.std.proofs.Common.{◌≡◌, ◌++◌, take}
use Rattle.std.specs.Prelude.{map, decimal}
use Rattle.trace_text.specs.Words.{following}
use Rattle.trace_text.proofs.writer.Writer.numbers.Given as goal

-- the text before the line stays, and the line has each number that was passed
abbrev pub invariant-loop-number : goal.invariant-loop-number
invariant-loop-number l =
    (l.self.before ≡ l.fn.self.before)
    × (l.self.line ≡ l.fn.self.line ++ following (map decimal (take l.number-index l.numbers)))
