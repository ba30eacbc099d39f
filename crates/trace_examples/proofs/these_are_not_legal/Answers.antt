use Rattle.trace_examples.proofs.Refused.{swapped, out_of_order, answered_twice, push_as_answer, causeless}
use Rattle.trace_examples.proofs.Misplaced.{offered_twice}
use Rattle.trace_examples.proofs.these_are_not_legal.Goals as goal

pub returns : goal.returns
returns c = record {
  swapped = swapped;
  out_of_order = out_of_order;
  answered_twice = answered_twice;
  push_as_answer = λ value config word events after. push_as_answer config word events after value;
  causeless = causeless;
  offered_twice = offered_twice;
}
