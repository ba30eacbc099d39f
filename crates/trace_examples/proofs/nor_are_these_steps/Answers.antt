use Rattle.trace_examples.proofs.Misplaced.{closed_before_the_reply, closed_twice, held_back_behind, offered_before_a_start, offered_what_was_taken, waits_before_an_offer, waits_out_of_order, created_twice}
use Rattle.trace_examples.proofs.nor_are_these_steps.Goals as goal

pub returns : goal.returns
returns c = record {
  closed_before_the_reply = closed_before_the_reply;
  closed_twice = closed_twice;
  held_back_behind = λ number c config word events after. held_back_behind config word events after number c;
  offered_before_a_start = λ config bytes free word events after. offered_before_a_start config word events after bytes free;
  offered_what_was_taken = offered_what_was_taken;
  waits_before_an_offer = λ n round kind config word events after. waits_before_an_offer config word events after n round kind;
  waits_out_of_order = waits_out_of_order;
  created_twice = created_twice;
}
