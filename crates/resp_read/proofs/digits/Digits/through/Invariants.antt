use Rattle.std.proofs.Common.{◌≡◌, drop}
use Rattle.resp_read.specs.Digits.{digits_run, AreKept}
use Rattle.resp_read.proofs.digits.Digits.through.Given as goal

abbrev pub invariant-loop-b : goal.invariant-loop-b
invariant-loop-b l = record { run : digits_run l.fn.self l.bytes ≡ digits_run l.digits (drop l.b-index l.bytes); kept : AreKept l.digits }
