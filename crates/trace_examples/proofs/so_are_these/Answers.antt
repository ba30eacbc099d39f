use Rattle.trace_examples.proofs.Allowed.{verdict_of_multi, queued_replies_skipped, side_by_side, cancelled_item_dropped, cancelled_fault_dropped, answered_then_closed}
use Rattle.trace_examples.proofs.so_are_these.Goals as goal

pub returns : goal.returns
returns c = record { verdict_of_multi = verdict_of_multi; queued_replies_skipped = queued_replies_skipped; side_by_side = side_by_side; cancelled_item_dropped = cancelled_item_dropped; cancelled_fault_dropped = cancelled_fault_dropped; answered_then_closed = answered_then_closed }
