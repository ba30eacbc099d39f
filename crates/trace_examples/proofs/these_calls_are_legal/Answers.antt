use Rattle.trace_examples.proofs.Called.{call_confirmed, call_denied, call_refused}
use Rattle.trace_examples.proofs.these_calls_are_legal.Goals as goal

pub returns : goal.returns
returns c = record { confirmed = call_confirmed; denied = call_denied; refused = call_refused }
