-- A connection may go to another thread, and threads may share it. With `crossing` a search proves the same of what holds connections.
use denote.Param.Send.{IsSend, IsSync}
use Rattle.resp_value.proofs.Threads as values
use Rattle.resp_read.specs.contracts.frames.Frame as Frame
use Rattle.resp_read.specs.contracts.stages.Stage as Stage
use Rattle.resp_read.specs.contracts.place.Place as Place
use Rattle.resp_read.specs.contracts.course.Course as Course
use Rattle.resp_read.specs.contracts.reader.Reader as Reader
use Rattle.link_core.specs.contracts.link.LinkCore as Link
use Rattle.link_core.specs.contracts.message.NoticeAt as NoticeAt
use Rattle.link_core.specs.contracts.message.Settled as Settled
use Rattle.mux_conn.specs.contracts.life.Life as Life
use Rattle.mux_conn.specs.contracts.connection.MultiplexedConnection as Connection

frame_send : IsSend Frame.the_field.row
frame_send = search values.crossing depth 60 fits 20000

frame_sync : IsSync Frame.the_field.row
frame_sync = search values.crossing depth 60 fits 20000

stage_send : IsSend Stage.the_field.row
stage_send = search (frame_send, values.crossing) depth 60 fits 20000

stage_sync : IsSync Stage.the_field.row
stage_sync = search (frame_sync, values.crossing) depth 60 fits 20000

place_send : IsSend Place.the_field.row
place_send = search (stage_send, values.crossing) depth 60 fits 20000

place_sync : IsSync Place.the_field.row
place_sync = search (stage_sync, values.crossing) depth 60 fits 20000

course_send : IsSend Course.the_field.row
course_send = search (frame_send, place_send, values.crossing) depth 60 fits 20000

course_sync : IsSync Course.the_field.row
course_sync = search (frame_sync, place_sync, values.crossing) depth 60 fits 20000

reader_send : IsSend Reader.the_field.row
reader_send = search (course_send, values.crossing) depth 60 fits 20000

reader_sync : IsSync Reader.the_field.row
reader_sync = search (course_sync, values.crossing) depth 60 fits 20000

link_send : IsSend Link.the_field.row
link_send = search (reader_send, values.crossing) depth 60 fits 20000

link_sync : IsSync Link.the_field.row
link_sync = search (reader_sync, values.crossing) depth 60 fits 20000

life_send : IsSend Life.the_field.row
life_send = search (link_send, values.crossing) depth 60 fits 20000

life_sync : IsSync Life.the_field.row
life_sync = search (link_sync, values.crossing) depth 60 fits 20000

settled_send : IsSend Settled.the_field.row
settled_send = search values.crossing depth 60 fits 20000

settled_sync : IsSync Settled.the_field.row
settled_sync = search values.crossing depth 60 fits 20000

notice_send : IsSend NoticeAt.the_field.row
notice_send = search values.crossing depth 60 fits 20000

notice_sync : IsSync NoticeAt.the_field.row
notice_sync = search values.crossing depth 60 fits 20000

pub connection_send : IsSend Connection.the_field.row
connection_send = search (life_send, settled_send, notice_send, values.crossing) depth 60 fits 20000

pub connection_sync : IsSync Connection.the_field.row
connection_sync = search (life_sync, settled_sync, notice_sync, values.crossing) depth 60 fits 20000

pub ruleset crossing = (connection_send, connection_sync, values.crossing)
