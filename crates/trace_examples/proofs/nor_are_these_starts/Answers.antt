use Rattle.trace_examples.proofs.Misplaced.{started_before_the_connect, started_after_the_end, another_need, another_length}
use Rattle.trace_examples.proofs.nor_are_these_starts.Goals as goal

pub returns : goal.returns
returns c = record {
  started_before_the_connect = λ l k round count len config word events after. started_before_the_connect config word events after l k round count len;
  started_after_the_end = λ l k round count len config word events after. started_after_the_end config word events after l k round count len;
  another_need = λ count len other config word events after. another_need config word events after count len other;
  another_length = λ count len other config word events after. another_length config word events after count len other;
}
