use Rattle.std.proofs.Common.{◌≡◌, ◌≤◌, ◌+◌, ◌-◌, length, drop}
use Rattle.resp_read.specs.Waiting.{IsClear}
use Rattle.resp_read.proofs.whole.read_text.Given as goal

abbrev pub invariant-loop-count : goal.invariant-loop-count
invariant-loop-count g l = record {
  fits : l.fn.from + l.count ≤ length l.fn.tape;
  clear : IsClear l.count (drop l.fn.from l.fn.tape);
  steps : l.steps ≡ l.fn.steps + l.count;
}

abbrev pub decreases-loop-count : goal.decreases-loop-count
decreases-loop-count g l = l.len - l.count
