use Rattle.trace_examples.proofs.Pushes.{told_between, told_and_answered, answered_unheard, end_is_told}
use Rattle.trace_examples.proofs.these_tell_pushes.Goals as goal

pub returns : goal.returns
returns c = record { told_between = told_between; told_and_answered = told_and_answered; answered_unheard = answered_unheard; end_is_told = end_is_told }
