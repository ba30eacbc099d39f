use Rattle.std.proofs.Common.{◌≡◌, drop}
use Rattle.resp_read.specs.Doubles.{run}
use Rattle.resp_read.proofs.decimals.read_through.Given as goal

abbrev pub invariant-loop-b : goal.invariant-loop-b
invariant-loop-b l = run l.fn.before l.bytes ≡ run l.seen (drop l.b-index l.bytes)
