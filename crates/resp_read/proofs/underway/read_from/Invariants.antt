use Rattle.std.proofs.Common.{◌≡◌, ℕ, ◌≤◌, ◌+◌, ◌-◌, ◌*◌, List, ◌++◌, length, drop}
use Rattle.resp_read.specs.Places.{IsPlace, seen, resumed_at}
use Rattle.resp_read.proofs.underway.read_from.Given as goal

abbrev pub invariant-loop-begun : goal.invariant-loop-begun
invariant-loop-begun g l = record {
  place : IsPlace l.fn.tape l.place;
  order : l.fn.place.next ≤ l.place.next;
  same : (m : List ℕ) → resumed_at l.fn.limits l.fn.frames.items l.fn.place.stage (drop l.fn.place.next l.fn.tape ++ m) ≡ resumed_at l.fn.limits l.frames.items l.place.stage (drop l.place.next l.fn.tape ++ m);
  costs : l.steps + 2 * seen l.fn.place ≤ l.fn.steps + 2 * seen l.place;
}

abbrev pub decreases-loop-begun : goal.decreases-loop-begun
decreases-loop-begun g l = length l.fn.tape - l.place.next
