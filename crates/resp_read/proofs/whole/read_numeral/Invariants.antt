use Rattle.std.proofs.Common.{◌≡◌, ◌≤◌, ◌+◌, ◌-◌, length, take, drop}
use Rattle.resp_read.specs.Waiting.{IsClear}
use Rattle.resp_read.specs.Digits.{digits_run, AreKept}
use Rattle.resp_read.specs.declared.digits.Digits.TheVariants.{Empty}
use Rattle.resp_read.proofs.whole.read_numeral.Given as goal

abbrev pub invariant-loop-count : goal.invariant-loop-count
invariant-loop-count g l = record {
  fits : l.fn.from + l.count ≤ length l.fn.tape;
  clear : IsClear l.count (drop l.fn.from l.fn.tape);
  digits : l.digits ≡ digits_run Empty (take l.count (drop l.fn.from l.fn.tape));
  kept : AreKept l.digits;
  steps : l.steps ≡ l.fn.steps + l.count;
}

abbrev pub decreases-loop-count : goal.decreases-loop-count
decreases-loop-count g l = l.len - l.count
