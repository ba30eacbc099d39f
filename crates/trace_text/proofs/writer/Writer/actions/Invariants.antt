use Rattle.std.proofs.Common.{◌≡◌, ◌++◌, take}
use Rattle.trace_text.specs.Show.{show}
use Rattle.trace_text.proofs.writer.Writer.actions.Given as goal

-- the text before the lines stays, and each action that was passed has its line
abbrev pub invariant-loop-action : goal.invariant-loop-action
invariant-loop-action l =
    (l.self.before ≡ l.fn.self.before)
    × (l.self.line ≡ l.fn.self.line ++ show (take l.action-index l.actions))
