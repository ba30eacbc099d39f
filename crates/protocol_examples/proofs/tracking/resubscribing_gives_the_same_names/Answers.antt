use Rattle.protocol_examples.proofs.Again.{same_names_again}
use Rattle.protocol_examples.proofs.tracking.resubscribing_gives_the_same_names.Goals as goal

pub returns : goal.returns
returns c = same_names_again
