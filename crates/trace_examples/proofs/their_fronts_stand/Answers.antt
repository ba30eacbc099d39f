use Rattle.trace_examples.proofs.Fronts.{answered_fronts_stand, unanswered_fronts_stand, ended_fronts_stand, waiting_fronts_stand, begun_fronts_stand, refused_fronts_stand, overdue_fronts_stand}
use Rattle.trace_examples.proofs.their_fronts_stand.Goals as goal

pub returns : goal.returns
returns c = record { answered = answered_fronts_stand; unanswered = unanswered_fronts_stand; ended = ended_fronts_stand; waiting = waiting_fronts_stand; begun = begun_fronts_stand; refused = refused_fronts_stand; overdue = overdue_fronts_stand }
