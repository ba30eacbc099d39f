use Rattle.std.proofs.Common.{◌≡◌, ◌≤◌, ◌++◌, take, slice_range}
use Rattle.std.specs.Prelude.{flat_map}
use Rattle.trace_text.specs.Words.{escaped_byte}
use Rattle.trace_text.proofs.writer.Writer.escaped_bytes.Given as goal

-- the text before the line stays, the line has the bytes up to a place, and those behind it are plain
abbrev pub invariant-loop-i : goal.invariant-loop-i
invariant-loop-i l =
    (l.self.before ≡ l.fn.self.before)
    × (l.start ≤ l.i)
    × (l.self.line ≡ l.fn.self.line ++ flat_map escaped_byte (take l.start l.bytes))
    × (flat_map escaped_byte (slice_range l.bytes l.start l.i) ≡ slice_range l.bytes l.start l.i)
