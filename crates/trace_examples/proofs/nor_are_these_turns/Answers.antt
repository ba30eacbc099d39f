use Rattle.trace_examples.proofs.Misplaced.{nameless, nameless_transaction, nameless_packed, took_too_much}
use Rattle.trace_examples.proofs.nor_are_these_turns.Goals as goal

pub returns : goal.returns
returns c = record {
  nameless = nameless;
  nameless_transaction = nameless_transaction;
  nameless_packed = λ offset count config word events after. nameless_packed config word events after offset count;
  took_too_much = took_too_much;
}
