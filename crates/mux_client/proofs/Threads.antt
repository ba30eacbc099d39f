-- A connection may go to another thread, and threads may share it. With `crossing` a search proves the same of what holds connections.
use denote.Param.Send.{IsSend, IsSync}
use Rattle.redis_error.specs.contracts.redis_error.RedisError as RedisError
use Rattle.driver_model.specs.contracts.msg.Msg as Msg
use Rattle.driver_model.specs.contracts.outcome.Outcome as Outcome
use Rattle.driver_model.specs.contracts.push_info.PushInfo as PushInfo
use Rattle.mux_conn.proofs.Threads as connections
use Rattle.mux_client.specs.contracts.act.ConnectionAct as Act
use Rattle.mux_client.specs.contracts.connection.MultiplexedConnection as Connection

outcome_send : IsSend Outcome.the_field.row
outcome_send = search connections.crossing depth 60 fits 20000

outcome_sync : IsSync Outcome.the_field.row
outcome_sync = search connections.crossing depth 60 fits 20000

error_send : IsSend RedisError.the_field.row
error_send = search connections.crossing depth 60 fits 20000

error_sync : IsSync RedisError.the_field.row
error_sync = search connections.crossing depth 60 fits 20000

info_send : IsSend PushInfo.the_field.row
info_send = search connections.crossing depth 60 fits 20000

info_sync : IsSync PushInfo.the_field.row
info_sync = search connections.crossing depth 60 fits 20000

pub msg_send : IsSend Msg.the_field.row
msg_send = search connections.crossing depth 60 fits 20000

pub msg_sync : IsSync Msg.the_field.row
msg_sync = search connections.crossing depth 60 fits 20000

act_send : IsSend Act.the_field.row
act_send = search (error_send, info_send, msg_send, connections.crossing) depth 60 fits 20000

act_sync : IsSync Act.the_field.row
act_sync = search (error_sync, info_sync, msg_sync, connections.crossing) depth 60 fits 20000

pub connection_send : IsSend Connection.the_field.row
connection_send = search (outcome_send, act_send, connections.crossing) depth 60 fits 20000

pub connection_sync : IsSync Connection.the_field.row
connection_sync = search (outcome_sync, act_sync, connections.crossing) depth 60 fits 20000

pub ruleset crossing = (connection_send, connection_sync, msg_send, msg_sync, connections.crossing)
