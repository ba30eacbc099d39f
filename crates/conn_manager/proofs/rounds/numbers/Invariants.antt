use Rattle.std.proofs.Common.{◌≡◌, ◌++◌, drop, length}
use Rattle.conn_manager.specs.Turn.{numbers_of}
use Rattle.conn_manager.proofs.rounds.numbers.Given as goal

-- the numbers that are noted and those that are left are the whole
abbrev pub invariant-loop-index : goal.invariant-loop-index
invariant-loop-index l = record {
  count_is : l.count ≡ length l.held;
  noted : l.numbers ++ numbers_of (drop l.index l.held) ≡ numbers_of l.held;
}
