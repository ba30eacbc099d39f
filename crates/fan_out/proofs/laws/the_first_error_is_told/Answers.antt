use Rattle.fan_out.proofs.Telling.{first_error_is_told}
use Rattle.fan_out.proofs.laws.the_first_error_is_told.Goals as goal

pub returns : goal.returns
returns c = first_error_is_told
