use Rattle.manager_config.proofs.Bounds.{doubles}
use Rattle.manager_config.proofs.laws.with_the_defaults_the_bound_doubles.Goals as goal

pub returns : goal.returns
returns c = doubles
