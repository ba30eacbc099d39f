use Rattle.fan_out.proofs.Telling.{sum_is_the_sum}
use Rattle.fan_out.proofs.laws.a_sum_is_the_sum.Goals as goal

pub returns : goal.returns
returns c = sum_is_the_sum
