use Rattle.trace_examples.proofs.Takings.{arrays_that_answer, pushes_that_answer, arrays_that_are_messages, pushes_that_are_messages, arrays_that_end_the_link, pushes_that_end_the_link, others_that_are_awaited, others_that_end_the_link, items_before_the_setup, pushes_before_the_setup, items_where_nothing_is_heard, pushes_where_nothing_is_heard, items_where_pushes_are_heard, confirmation_where_pushes_are_heard, push_where_pushes_are_heard, items_in_monitor_mode, pushes_in_monitor_mode}
use Rattle.trace_examples.proofs.dealing.these_become_of_values.Goals as goal

pub returns : goal.returns
returns c = record {
  arrays_that_answer = arrays_that_answer;
  pushes_that_answer = pushes_that_answer;
  arrays_that_are_messages = arrays_that_are_messages;
  pushes_that_are_messages = pushes_that_are_messages;
  arrays_that_end_the_link = arrays_that_end_the_link;
  pushes_that_end_the_link = pushes_that_end_the_link;
  others_that_are_awaited = others_that_are_awaited;
  others_that_end_the_link = others_that_end_the_link;
  items_before_the_setup = items_before_the_setup;
  pushes_before_the_setup = pushes_before_the_setup;
  items_where_nothing_is_heard = items_where_nothing_is_heard;
  pushes_where_nothing_is_heard = pushes_where_nothing_is_heard;
  items_where_pushes_are_heard = items_where_pushes_are_heard;
  confirmation_where_pushes_are_heard = confirmation_where_pushes_are_heard;
  push_where_pushes_are_heard = push_where_pushes_are_heard;
  items_in_monitor_mode = items_in_monitor_mode;
  pushes_in_monitor_mode = pushes_in_monitor_mode;
}
