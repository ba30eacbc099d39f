use Rattle.trace_examples.proofs.Refused.{fault_to_a_pipeline, closed_to_the_oldest, reply_to_another, before_its_need, values_of_the_refused}
use Rattle.trace_examples.proofs.Misplaced.{started_untold}
use Rattle.trace_examples.proofs.nor_are_these.Goals as goal

pub returns : goal.returns
returns c = record {
  fault_to_a_pipeline = λ kind config word events after. fault_to_a_pipeline config word events after kind;
  closed_to_the_oldest = closed_to_the_oldest;
  reply_to_another = reply_to_another;
  started_untold = started_untold;
  before_its_need = λ kept config word events after. before_its_need config word events after kept;
  values_of_the_refused = λ kept config word events after. values_of_the_refused config word events after kept;
}
