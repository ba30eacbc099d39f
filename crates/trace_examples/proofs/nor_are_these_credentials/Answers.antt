use Rattle.trace_examples.proofs.Creds.{source_fronts_stand, said_without, created_without, needed_twice, needed_when_taken, needed_too_soon, needed_unwanted, setup_meanwhile, failed_before_the_close, another_denial, given_unasked, source_left_out}
use Rattle.trace_examples.proofs.nor_are_these_credentials.Goals as goal

pub returns : goal.returns
returns c = record {
  fronts = source_fronts_stand;
  said_without = said_without;
  created_without = created_without;
  needed_twice = needed_twice;
  needed_when_taken = needed_when_taken;
  needed_too_soon = needed_too_soon;
  needed_unwanted = needed_unwanted;
  setup_meanwhile = setup_meanwhile;
  failed_before_the_close = failed_before_the_close;
  another_denial = another_denial;
  given_unasked = given_unasked;
  source_left_out = source_left_out;
}
