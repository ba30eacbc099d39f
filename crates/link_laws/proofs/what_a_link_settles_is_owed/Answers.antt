use Rattle.link_laws.proofs.Runs.{run_owed, run_lacks}
use Rattle.link_laws.proofs.what_a_link_settles_is_owed.Goals as goal

pub returns : goal.returns
returns c = record { settled = run_owed; lacks = run_lacks }
