use Rattle.std.proofs.Common.{◌≡◌, [], length}
use Rattle.link_core.proofs.FirstLemmas.{Passed}
use Rattle.mux_conn.specs.Passes.{has_number}
use Rattle.mux_conn.proofs.Entries.{OthersFirst}
use Rattle.mux_conn.proofs.advance.place_of.Given as goal

abbrev pub invariant-loop-index : goal.invariant-loop-index
invariant-loop-index l = record {
  len_is : l.len ≡ length l.waiting;
  passed : Passed (has_number l.number) (λ _. []) l.waiting l.index;
  others : OthersFirst l.number l.waiting l.index;
}
