use Rattle.std.proofs.Common.{◌≡◌, ◌≤◌, ◌+◌, ◌-◌, length, drop}
use Rattle.resp_read.specs.Waiting.{IsClear}
use Rattle.resp_read.proofs.scan.find_return.Given as goal

abbrev pub invariant-loop-i : goal.invariant-loop-i
invariant-loop-i g l = record {
  past : l.fn.clear ≤ l.i;
  fits : l.fn.from + l.i ≤ length l.fn.tape;
  clear : IsClear l.i (drop l.fn.from l.fn.tape);
  steps : l.steps + l.fn.clear ≡ l.fn.steps + l.i;
}

abbrev pub decreases-loop-i : goal.decreases-loop-i
decreases-loop-i g l = l.len - l.i
