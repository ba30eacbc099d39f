use Rattle.manager_config.proofs.Passing.{taken, passes}
use Rattle.manager_config.proofs.laws.a_config_is_taken_where_no_check_fails.Goals as goal

pub returns : goal.returns
returns c = λ protocol config. (taken protocol config, passes protocol config)
