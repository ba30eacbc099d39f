use Rattle.cancel_laws.proofs.Cancels.{good_cancel, same_outcomes, no_outcome, goes_on, same_items, same_bad}
use Rattle.cancel_laws.proofs.a_cancel_changes_one_outcome.Goals as goal

pub returns : goal.returns
returns c = record {
  good = good_cancel;
  outcomes = same_outcomes;
  none = no_outcome;
  turns = goes_on;
  items = same_items;
  bad = same_bad;
}
