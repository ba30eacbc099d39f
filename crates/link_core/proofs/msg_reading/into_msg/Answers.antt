use Rattle.link_core.proofs.MessageLemmas.{array_msg, push_msg}
use Rattle.link_core.proofs.msg_reading.into_msg.Goals as goal

pub returns-in-Array : goal.returns-in-Array
returns-in-Array c = array_msg c.args.value c.in-Array.parts c.msg_of_array.result c.in-Array.is c.msg_of_array.ensures

pub returns-in-Push : goal.returns-in-Push
returns-in-Push c = push_msg c.args.value c.in-Push.kind c.in-Push.parts c.msg_of_kind.result c.in-Push.is c.msg_of_kind.ensures
