use Rattle.resp_value.specs.Data.{weight}
use Rattle.resp_value.specs.View.{data_of}
use Rattle.resp_convert.proofs.parts.+into_bare.Given as goal

abbrev pub decreases-into_bare : goal.decreases-into_bare
decreases-into_bare l = weight (data_of l.value)
