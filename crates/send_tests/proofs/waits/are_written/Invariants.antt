use Rattle.std.proofs.Common.{◌≡◌}
use Rattle.send_tests.proofs.waits.are_written.Given as goal

abbrev pub invariant-loop : goal.invariant-loop
invariant-loop g l = l.caller.table ≡ l.fn.caller.table
