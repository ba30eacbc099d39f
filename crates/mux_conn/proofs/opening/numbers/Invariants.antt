use Rattle.std.proofs.Common.{◌≡◌, ◌++◌, drop, length}
use Rattle.mux_conn.specs.Effects.{numbers_of}
use Rattle.mux_conn.proofs.opening.numbers.Given as goal

-- the numbers that are noted and those that are left are the whole
abbrev pub invariant-loop-index : goal.invariant-loop-index
invariant-loop-index l = record {
  len_is : l.len ≡ length l.waiting;
  noted : l.numbers ++ numbers_of (drop l.index l.waiting) ≡ numbers_of l.waiting;
}
