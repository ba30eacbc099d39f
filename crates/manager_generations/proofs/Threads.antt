-- Generations may go to another thread, and threads may share them. With `crossing` a search proves the same of what holds them.
use denote.Param.Send.{IsSend, IsSync}
use Rattle.redis_error.specs.contracts.redis_error.RedisError as RedisError
use Rattle.driver_model.specs.contracts.push_info.PushInfo as PushInfo
use Rattle.mux_conn.proofs.Threads as connections
use Rattle.manager_generations.specs.contracts.act.ManagerAct as Act
use Rattle.manager_generations.specs.contracts.generations.Generations as Generations

error_send : IsSend RedisError.the_field.row
error_send = search connections.crossing depth 60 fits 20000

error_sync : IsSync RedisError.the_field.row
error_sync = search connections.crossing depth 60 fits 20000

info_send : IsSend PushInfo.the_field.row
info_send = search connections.crossing depth 60 fits 20000

info_sync : IsSync PushInfo.the_field.row
info_sync = search connections.crossing depth 60 fits 20000

pub act_send : IsSend Act.the_field.row
act_send = search (error_send, info_send, connections.crossing) depth 60 fits 20000

pub act_sync : IsSync Act.the_field.row
act_sync = search (error_sync, info_sync, connections.crossing) depth 60 fits 20000

pub generations_send : IsSend Generations.the_field.row
generations_send = search (error_send, act_send, connections.crossing) depth 60 fits 20000

pub generations_sync : IsSync Generations.the_field.row
generations_sync = search (error_sync, act_sync, connections.crossing) depth 60 fits 20000

pub ruleset crossing = (act_send, act_sync, generations_send, generations_sync, connections.crossing)
