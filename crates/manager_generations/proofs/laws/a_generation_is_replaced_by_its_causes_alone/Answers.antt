use Rattle.manager_generations.proofs.Causes.{replaced, stands, stands_halted}
use Rattle.manager_generations.proofs.laws.a_generation_is_replaced_by_its_causes_alone.Goals as goal

pub returns : goal.returns
returns c = record { replaced = replaced; stands = stands; halted = stands_halted }
