use Rattle.trace_examples.proofs.Stays.{unasked_back, shut_back, resting_back, repeating_back, untimed_back}
use Rattle.trace_examples.proofs.staying.these_do_not_come_back.Goals as goal

pub returns : goal.returns
returns c = record { unasked = unasked_back; shut = shut_back; resting = resting_back; repeating = repeating_back; untimed = untimed_back }
