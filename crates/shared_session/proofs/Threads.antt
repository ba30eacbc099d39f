-- A session may go to another thread, and threads may share it. With `crossing` a search proves the same of what holds sessions.
use denote.Param.Send.{IsSend, IsSync}
use Rattle.driver_model.specs.contracts.config.Config as Config
use Rattle.driver_model.specs.contracts.event.Event as Event
use Rattle.mux_conn.proofs.Threads as connections
use Rattle.shared_session.specs.contracts.session.Session as Session
use Rattle.single_session.proofs.Threads.{outcome_send, outcome_sync, core_send, core_sync, rooms_send, rooms_sync, done_send, done_sync}

config_send : IsSend Config.the_field.row
config_send = search connections.crossing depth 60 fits 20000

config_sync : IsSync Config.the_field.row
config_sync = search connections.crossing depth 60 fits 20000

event_send : IsSend Event.the_field.row
event_send = search connections.crossing depth 60 fits 20000

event_sync : IsSync Event.the_field.row
event_sync = search connections.crossing depth 60 fits 20000

pub session_send : IsSend Session.the_field.row
session_send = search (config_send, event_send, outcome_send, core_send, rooms_send, done_send, connections.crossing) depth 60 fits 20000

pub session_sync : IsSync Session.the_field.row
session_sync = search (config_sync, event_sync, outcome_sync, core_sync, rooms_sync, done_sync, connections.crossing) depth 60 fits 20000

pub ruleset crossing = (session_send, session_sync, connections.crossing)
