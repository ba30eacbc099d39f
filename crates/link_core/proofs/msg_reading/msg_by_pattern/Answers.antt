use Rattle.link_core.proofs.MessageLemmas.{pattern_msg}
use Rattle.link_core.proofs.msg_reading.msg_by_pattern.Goals as goal

pub returns : goal.returns
returns c =
    pattern_msg c.in_ok-pattern.pattern c.in-Some.channel c.in-Some-pop_front.payload c.args.parts c.pop_front.new.self c.pop_front-2.new.self c.pop_front-3.new.self c.in_ok-pattern.ensures c.in-Some.ensures c.in-Some-pop_front.ensures
