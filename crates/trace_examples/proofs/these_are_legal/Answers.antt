use Rattle.trace_examples.proofs.Allowed.{transaction_refused, told_at_its_place, command_hit, pipeline_cut_off, waits_for_more}
use Rattle.trace_examples.proofs.these_are_legal.Goals as goal

pub returns : goal.returns
returns c = record { transaction_refused = transaction_refused; told_at_its_place = told_at_its_place; command_hit = command_hit; pipeline_cut_off = pipeline_cut_off; waits_for_more = waits_for_more }
