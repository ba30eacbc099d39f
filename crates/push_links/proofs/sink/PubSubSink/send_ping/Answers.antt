use Rattle.std.specs.Prelude.{option_copied}
use Rattle.push_links.specs.Links.{ping_bytes}
use Rattle.push_links.proofs.sink.PubSubSink.send_ping.Goals as goal

pub returns-in-Err-clause-err : goal.returns-in-Err-clause-err
returns-in-Err-clause-err c = c.refuse_unsent.ensures.err (ping_bytes (option_copied c.args.message))
