use Rattle.std.proofs.Common.{refl}
use Rattle.program_ends.proofs.Sent.{sent_all}
use Rattle.program_ends.proofs.streaming.write_large.Goals as goal

pub returns-clause-sent : goal.returns-clause-sent
returns-clause-sent g c is = sent_all _ _ c.clear.ensures (rw c.as_slice.ensures at (c.if-not-write_all.ensures.all refl))
