use Rattle.trace_examples.proofs.Unready.{setup_fronts_stand, said_twice, said_again_when_well, said_again_when_refused, said_three_times, said_again_too_early, of_another_need, of_another_length, with_the_user_still, other_words, unsaid_in_its_turn, unsaid_again}
use Rattle.trace_examples.proofs.nor_are_these_setups.Goals as goal

pub returns : goal.returns
returns c = record {
  fronts = setup_fronts_stand;
  said_twice = said_twice;
  said_again_when_well = said_again_when_well;
  said_again_when_refused = said_again_when_refused;
  said_three_times = said_three_times;
  said_again_too_early = said_again_too_early;
  of_another_need = of_another_need;
  of_another_length = of_another_length;
  with_the_user_still = with_the_user_still;
  other_words = other_words;
  unsaid_in_its_turn = unsaid_in_its_turn;
  unsaid_again = unsaid_again;
}
