use Rattle.manager_config.proofs.Bounds.{below_bound, drawn}
use Rattle.manager_config.proofs.laws.a_delay_is_below_its_bound.Goals as goal

pub returns : goal.returns
returns c = record { below = below_bound; each = drawn }
