use Rattle.link_core.proofs.MessageLemmas.{first_msg}
use Rattle.link_core.proofs.msg_reading.msg_of_array.Goals as goal

pub returns : goal.returns
returns c = first_msg c.in-Some.name c.args.parts c.pop_front.new.self c.msg_named.result c.in-Some.ensures c.msg_named.ensures
