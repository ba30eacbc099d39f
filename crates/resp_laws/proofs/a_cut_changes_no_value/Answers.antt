use Rattle.resp_laws.proofs.Pieces.{same_values}
use Rattle.resp_laws.proofs.a_cut_changes_no_value.Goals as goal

pub returns : goal.returns
returns c = same_values
