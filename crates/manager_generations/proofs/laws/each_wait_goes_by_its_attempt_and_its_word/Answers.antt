use Rattle.manager_generations.proofs.Over.{waits, ascend}
use Rattle.manager_generations.proofs.laws.each_wait_goes_by_its_attempt_and_its_word.Goals as goal

pub returns : goal.returns
returns c = record { waits = waits; ascend = ascend }
