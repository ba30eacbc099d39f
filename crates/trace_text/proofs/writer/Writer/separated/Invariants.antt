use Rattle.std.proofs.Common.{◌≡◌, ◌++◌, take}
use Rattle.trace_text.specs.Words.{separated}
use Rattle.trace_text.proofs.writer.Writer.separated.Given as goal

-- the text before the line stays, and the line has each command that was passed
abbrev pub invariant-loop-command : goal.invariant-loop-command
invariant-loop-command l =
    (l.self.before ≡ l.fn.self.before)
    × (l.self.line ≡ l.fn.self.line ++ separated (take l.command-index l.more))
