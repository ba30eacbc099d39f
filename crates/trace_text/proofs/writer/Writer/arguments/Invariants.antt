use Rattle.std.proofs.Common.{◌≡◌, ◌++◌, take}
use Rattle.trace_text.specs.Words.{following}
use Rattle.trace_text.proofs.writer.Writer.arguments.Given as goal

-- the text before the line stays, and the line has each argument that was passed
abbrev pub invariant-loop-arg : goal.invariant-loop-arg
invariant-loop-arg l =
    (l.self.before ≡ l.fn.self.before)
    × (l.self.line ≡ l.fn.self.line ++ following (take l.arg-index l.args))
