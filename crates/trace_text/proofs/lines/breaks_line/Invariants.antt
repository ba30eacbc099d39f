use Rattle.std.proofs.Common.{◌≡◌, drop}
use Rattle.resp_write.specs.Canonical.{breaks_line}
use Rattle.trace_text.proofs.lines.breaks_line.Given as goal

-- whether a line is broken turns on the bytes that are left
abbrev pub invariant-loop-byte : goal.invariant-loop-byte
invariant-loop-byte l = breaks_line l.text ≡ breaks_line (drop l.byte-index l.text)
