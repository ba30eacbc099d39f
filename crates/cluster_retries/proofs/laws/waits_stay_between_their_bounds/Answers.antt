use Rattle.cluster_retries.proofs.Waiting.{each_is_drawn, each_stays_below, none_is_too_long, none_is_too_short}
use Rattle.cluster_retries.proofs.laws.waits_stay_between_their_bounds.Goals as goal

pub returns : goal.returns
returns c = record { least = none_is_too_short; below = each_stays_below; greatest = none_is_too_long; drawn = each_is_drawn }
