use Rattle.link_laws.proofs.Runs.{run_legal}
use Rattle.link_laws.proofs.every_run_of_a_link_is_legal.Goals as goal

pub returns : goal.returns
returns c = run_legal
