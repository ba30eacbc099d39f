use Rattle.fan_out.proofs.Telling.{as_many_as_keys, elements_stand}
use Rattle.fan_out.proofs.laws.elements_stand_at_their_keys.Goals as goal

pub returns : goal.returns
returns c = record { places = elements_stand; count = as_many_as_keys }
