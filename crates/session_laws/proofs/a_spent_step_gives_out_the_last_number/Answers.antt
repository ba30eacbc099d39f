use Rattle.session_laws.proofs.Managers.RunOut.{spent_run_out, run_out_spent}
use Rattle.session_laws.proofs.Turn.Legality.{spent_stands}
use Rattle.session_laws.proofs.a_spent_step_gives_out_the_last_number.Goals as goal

pub returns : goal.returns
returns c = record { given = spent_run_out; spent = run_out_spent; stands = spent_stands }
