use Rattle.std.proofs.Common.{rules}
use Rattle.std.proofs.lemmas.List.Sorted.{IsNonDecreasingBy-from_sort_by_key}
use Rattle.caller_threads.specs.declared.job.Turn.{Turn}
use Rattle.caller_threads.proofs.telling.in_turn_order.Goals as goal

pub returns : goal.returns
returns c = record {
  same = c.sort_unstable_by_key.ensures.permutation;
  rises = IsNonDecreasingBy-from_sort_by_key (λ (t : Turn). t.place) _ c.sort_unstable_by_key.ensures.sorted (λ a r q k. search rules);
}
