use Rattle.trace_examples.proofs.Listeners.{formless_fronts_stand, command_among_messages, sharded_call_among_messages, ping_elsewhere, submitted_in_monitor_mode}
use Rattle.trace_examples.proofs.listening.nor_have_these_a_form.Goals as goal

pub returns : goal.returns
returns c = record {
  fronts = formless_fronts_stand;
  command_among_messages = command_among_messages;
  sharded_call_among_messages = sharded_call_among_messages;
  ping_elsewhere = ping_elsewhere;
  submitted_in_monitor_mode = submitted_in_monitor_mode;
}
