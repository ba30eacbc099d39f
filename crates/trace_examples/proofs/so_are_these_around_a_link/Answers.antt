use Rattle.trace_examples.proofs.Allowed.{connected_twice, bytes_too_early, shut_down_started, shut_down_in_wait, shut_down_before, empty_command, told_in_its_turn, offered_again}
use Rattle.trace_examples.proofs.so_are_these_around_a_link.Goals as goal

pub returns : goal.returns
returns c = record { connected_twice = connected_twice; bytes_too_early = bytes_too_early; shut_down_started = shut_down_started; shut_down_in_wait = shut_down_in_wait; shut_down_before = shut_down_before; empty_command = empty_command; told_in_its_turn = told_in_its_turn; offered_again = offered_again }
