-- A link that listens may go to another thread, and threads may share it. With `crossing` a search proves the same of what holds such links.
use denote.Param.Send.{IsSend, IsSync}
use Rattle.mux_client.proofs.Threads as connections
use Rattle.push_links.specs.contracts.monitor.Monitor as Monitor
use Rattle.push_links.specs.contracts.pubsub.PubSub as PubSub
use Rattle.push_links.specs.contracts.sink.PubSubSink as Sink
use Rattle.push_links.specs.contracts.stream.PubSubStream as Stream

sink_send : IsSend Sink.the_field.row
sink_send = search connections.crossing depth 60 fits 20000

sink_sync : IsSync Sink.the_field.row
sink_sync = search connections.crossing depth 60 fits 20000

stream_send : IsSend Stream.the_field.row
stream_send = search connections.crossing depth 60 fits 20000

stream_sync : IsSync Stream.the_field.row
stream_sync = search connections.crossing depth 60 fits 20000

pub pubsub_send : IsSend PubSub.the_field.row
pubsub_send = search (sink_send, stream_send, connections.crossing) depth 60 fits 20000

pub pubsub_sync : IsSync PubSub.the_field.row
pubsub_sync = search (sink_sync, stream_sync, connections.crossing) depth 60 fits 20000

pub monitor_send : IsSend Monitor.the_field.row
monitor_send = search connections.crossing depth 60 fits 20000

pub monitor_sync : IsSync Monitor.the_field.row
monitor_sync = search connections.crossing depth 60 fits 20000

pub ruleset crossing = (pubsub_send, pubsub_sync, monitor_send, monitor_sync, connections.crossing)
