use Rattle.std.proofs.Common.{refl}
use Rattle.caller_threads.proofs.Jobs.{took_at}
use Rattle.caller_threads.proofs.gathering.next_turn.Goals as goal

pub returns : goal.returns
returns c = took_at c.args.at c.pop_front.result c.args.jobs.now _ c.index-jobs-at.result c.requires refl c.pop_front.ensures
