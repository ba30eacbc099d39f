use Rattle.std.proofs.Common.{◌≡◌, ◌∷◌, [], length}
use Rattle.link_core.specs.Ring.{entries_of, IsRing}
use Rattle.link_core.proofs.FirstLemmas.{Passed}
use Rattle.link_core.proofs.RingLemmas.{is_taker_of, silent_in}
use Rattle.link_core.proofs.row.Row.silence.Given as goal

abbrev pub invariant-loop-index : goal.invariant-loop-index
invariant-loop-index l = record {
  same : entries_of l.self-inside.takers.items ≡ l.fn.self;
  ring : IsRing l.self-inside.dealt l.self-inside.takers.items l.self-inside.end;
  len_is : l.len ≡ length l.self-inside.takers.items;
  passed : Passed (is_taker_of l.id) (λ t. silent_in t ∷ []) l.self-inside.takers.items l.index;
}
