use Rattle.link_core.proofs.MessageLemmas.{channel_msg}
use Rattle.link_core.proofs.msg_reading.msg_by_channel.Goals as goal

pub returns : goal.returns
returns c = channel_msg c.in_ok-channel.channel c.in-Some.payload c.args.parts c.pop_front.new.self c.pop_front-2.new.self c.in_ok-channel.ensures c.in-Some.ensures
