use Rattle.trace_examples.proofs.Creds.{said_in_the_setup, asked_no_more, ended_first, failed_first, spoiled_first}
use Rattle.trace_examples.proofs.these_take_credentials.Goals as goal

pub returns : goal.returns
returns c = record {
  said_in_the_setup = said_in_the_setup;
  asked_no_more = asked_no_more;
  ended_first = ended_first;
  failed_first = failed_first;
  spoiled_first = spoiled_first;
}
