use Rattle.link_core.proofs.MessageLemmas.{array_dealt, push_dealt, other_dealt}
use Rattle.link_core.proofs.msg_reading.is_answer.Goals as goal

pub returns-in-Array : goal.returns-in-Array
returns-in-Array c = array_dealt c.args.value.now c.in-Array.parts c.args.awaited c.is_answer_array.result c.in-Array.is c.is_answer_array.ensures

pub returns-in-Push : goal.returns-in-Push
returns-in-Push c = push_dealt c.args.value.now c.in-Push.kind c.in-Push.parts c.args.awaited c.has_reply.result c.in-Push.is c.has_reply.ensures

pub returns-in_default : goal.returns-in_default
returns-in_default c = other_dealt c.args.value.now c.args.awaited c.in_default.not-Array c.in_default.not-Push
