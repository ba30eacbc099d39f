use Rattle.live_laws.proofs.Full.{full_is_exact}
use Rattle.live_laws.proofs.a_full_run_is_exact.Goals as goal

pub returns : goal.returns
returns c = λ early old new before after count within run. full_is_exact within run
