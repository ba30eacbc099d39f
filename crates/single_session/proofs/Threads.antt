-- The state of a session, and the room for its turns, may go to another thread, and threads may share them.
use denote.Param.Send.{IsSend, IsSync}
use Rattle.redis_error.specs.contracts.redis_error.RedisError as RedisError
use Rattle.driver_model.specs.contracts.msg.Msg as Msg
use Rattle.driver_model.specs.contracts.outcome.Outcome as Outcome
use Rattle.driver_model.specs.contracts.push_info.PushInfo as PushInfo
use Rattle.mux_conn.proofs.Threads as connections
use Rattle.sub_tracker.proofs.Threads.{tracker_send, tracker_sync}
use Rattle.mux_conn.specs.contracts.act.LinkAct as Act
use Rattle.single_session.specs.contracts.core_state.Core as Core
use Rattle.single_session.specs.contracts.generations.Generations as Generations
use Rattle.single_session.specs.contracts.showing.Done as Done
use Rattle.single_session.specs.contracts.subscriptions.Subscriptions as Subscriptions
use Rattle.single_session.specs.contracts.turns.Rooms as Rooms

pub outcome_send : IsSend Outcome.the_field.row
outcome_send = search connections.crossing depth 60 fits 20000

pub outcome_sync : IsSync Outcome.the_field.row
outcome_sync = search connections.crossing depth 60 fits 20000

subscriptions_send : IsSend Subscriptions.the_field.row
subscriptions_send = search (tracker_send, connections.crossing) depth 60 fits 20000

subscriptions_sync : IsSync Subscriptions.the_field.row
subscriptions_sync = search (tracker_sync, connections.crossing) depth 60 fits 20000

generations_send : IsSend Generations.the_field.row
generations_send = search (subscriptions_send, connections.crossing) depth 60 fits 20000

generations_sync : IsSync Generations.the_field.row
generations_sync = search (subscriptions_sync, connections.crossing) depth 60 fits 20000

pub core_send : IsSend Core.the_field.row
core_send = search (generations_send, connections.crossing) depth 60 fits 20000

pub core_sync : IsSync Core.the_field.row
core_sync = search (generations_sync, connections.crossing) depth 60 fits 20000

error_send : IsSend RedisError.the_field.row
error_send = search connections.crossing depth 60 fits 20000

error_sync : IsSync RedisError.the_field.row
error_sync = search connections.crossing depth 60 fits 20000

info_send : IsSend PushInfo.the_field.row
info_send = search connections.crossing depth 60 fits 20000

info_sync : IsSync PushInfo.the_field.row
info_sync = search connections.crossing depth 60 fits 20000

msg_send : IsSend Msg.the_field.row
msg_send = search connections.crossing depth 60 fits 20000

msg_sync : IsSync Msg.the_field.row
msg_sync = search connections.crossing depth 60 fits 20000

act_send : IsSend Act.the_field.row
act_send = search (outcome_send, error_send, info_send, msg_send, connections.crossing) depth 60 fits 20000

act_sync : IsSync Act.the_field.row
act_sync = search (outcome_sync, error_sync, info_sync, msg_sync, connections.crossing) depth 60 fits 20000

pub done_send : IsSend Done.the_field.row
done_send = search (outcome_send, connections.crossing) depth 60 fits 20000

pub done_sync : IsSync Done.the_field.row
done_sync = search (outcome_sync, connections.crossing) depth 60 fits 20000

pub rooms_send : IsSend Rooms.the_field.row
rooms_send = search (act_send, connections.crossing) depth 60 fits 20000

pub rooms_sync : IsSync Rooms.the_field.row
rooms_sync = search (act_sync, connections.crossing) depth 60 fits 20000
