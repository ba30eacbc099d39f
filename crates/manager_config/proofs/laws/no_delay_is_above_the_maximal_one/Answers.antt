use Rattle.manager_config.proofs.Bounds.{at_most, drawn_within}
use Rattle.manager_config.proofs.laws.no_delay_is_above_the_maximal_one.Goals as goal

pub returns : goal.returns
returns c = record { limited = at_most; kept = drawn_within }
