use Rattle.trace_examples.proofs.Refused.{item_of_the_cancelled, fault_of_the_cancelled, answered_after_its_cancel, answered_before_the_close, answered_before_the_close_in_wait}
use Rattle.trace_examples.proofs.Misplaced.{told_out_of_order, told_before_the_creation}
use Rattle.trace_examples.proofs.nor_are_these_outcomes.Goals as goal

pub returns : goal.returns
returns c = record {
  item_of_the_cancelled = item_of_the_cancelled;
  fault_of_the_cancelled = λ kind config word events after. fault_of_the_cancelled config word events after kind;
  answered_after_its_cancel = λ o config word events after. answered_after_its_cancel config word events after o;
  answered_before_the_close = λ o config word events after. answered_before_the_close config word events after o;
  answered_before_the_close_in_wait = λ o config word events after. answered_before_the_close_in_wait config word events after o;
  told_out_of_order = told_out_of_order;
  told_before_the_creation = told_before_the_creation;
}
