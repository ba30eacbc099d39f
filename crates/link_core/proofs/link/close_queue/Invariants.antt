use Rattle.std.proofs.Common.{◌≡◌, ◌++◌, length, take}
use Rattle.link_core.specs.Ends.{queue_closed}
use Rattle.link_core.proofs.link.close_queue.Given as goal

abbrev pub invariant-loop-message : goal.invariant-loop-message
invariant-loop-message l = record {
  settled : l.out.items ++ queue_closed l.queue ≡ l.fn.out.items ++ queue_closed l.fn.queue;
  front : take (length l.fn.out.items) l.out.items ≡ l.fn.out.items;
}

abbrev pub decreases-loop-message : goal.decreases-loop-message
decreases-loop-message l = length l.queue
