-- A manager may go to another thread, and threads may share it. With `crossing` a search proves the same of what holds managers.
use denote.Param.Send.{IsSend, IsSync}
use Rattle.driver_model.specs.contracts.outcome.Outcome as Outcome
use Rattle.sub_tracker.proofs.Threads.{tracker_send, tracker_sync}
use Rattle.manager_generations.proofs.Threads as generations
use Rattle.conn_manager.specs.contracts.manager.ConnectionManager as Manager

outcome_send : IsSend Outcome.the_field.row
outcome_send = search generations.crossing depth 60 fits 20000

outcome_sync : IsSync Outcome.the_field.row
outcome_sync = search generations.crossing depth 60 fits 20000

pub manager_send : IsSend Manager.the_field.row
manager_send = search (outcome_send, tracker_send, generations.crossing) depth 60 fits 20000

pub manager_sync : IsSync Manager.the_field.row
manager_sync = search (outcome_sync, tracker_sync, generations.crossing) depth 60 fits 20000

pub ruleset crossing = (manager_send, manager_sync, generations.crossing)
