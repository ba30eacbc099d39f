use Rattle.trace_examples.proofs.Unready.{started_during, started_before_the_creation, created_unsaid, said_where_nothing_is, created_during, created_though_refused, closed_when_counted, error_untold, answered_before_the_error, by_another_error, closed_in_place_of_the_error, connect_during, connect_stands}
use Rattle.trace_examples.proofs.nor_are_these_beside_a_setup.Goals as goal

pub returns : goal.returns
returns c = record {
  started_during = started_during;
  started_before_the_creation = started_before_the_creation;
  created_unsaid = created_unsaid;
  said_where_nothing_is = said_where_nothing_is;
  created_during = created_during;
  created_though_refused = created_though_refused;
  closed_when_counted = closed_when_counted;
  error_untold = error_untold;
  answered_before_the_error = answered_before_the_error;
  by_another_error = by_another_error;
  closed_in_place_of_the_error = closed_in_place_of_the_error;
  connect_during = connect_during;
  connect_stands = connect_stands;
}
