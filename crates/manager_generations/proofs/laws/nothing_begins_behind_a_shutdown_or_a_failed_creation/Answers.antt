use Rattle.manager_generations.proofs.Over.{stays_over, over_shut, over_failed}
use Rattle.manager_generations.proofs.laws.nothing_begins_behind_a_shutdown_or_a_failed_creation.Goals as goal

pub returns : goal.returns
returns c = record { stays = stays_over; shutdown = over_shut; creation = over_failed }
