use Rattle.std.proofs.Common.{◌≡◌, [], length}
use Rattle.link_core.specs.Waiting.{is_wanted}
use Rattle.link_core.proofs.FirstLemmas.{Passed}
use Rattle.link_core.proofs.link.withdraw.Given as goal

abbrev pub invariant-loop-index : goal.invariant-loop-index
invariant-loop-index l = record {
  same : l.queue ≡ l.fn.queue;
  len_is : l.len ≡ length l.fn.queue;
  passed : Passed (is_wanted l.id) (λ _. []) l.fn.queue l.index;
}
