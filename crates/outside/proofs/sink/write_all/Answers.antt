use Rattle.std.proofs.Common.{arith}
use Rattle.outside.proofs.Joined.{gained_more, gained_no_more, within_more}
use Rattle.outside.proofs.sink.write_all.Goals as goal

pub loop-at-preserved : goal.loop-at-preserved
loop-at-preserved g c = record {
  within = within_more c.args.bytes.now c.loop-at.at c.in-Took.count c.loop-at.invariant.within c.in-Took.ensures.within.1;
  taken = gained_more c.args.bytes.now c.loop-at.at c.in-Took.count c.loop-at.invariant.taken c.in-Took.ensures.takes;
  later = omega (arith, c.loop-at.invariant.later, c.write.ensures.later);
}

pub returns-in-Failed-clause-part : goal.returns-in-Failed-clause-part
returns-in-Failed-clause-part g c = record {
  count = c.loop-at.at;
  within = c.loop-at.invariant.within;
  gained = gained_no_more c.loop-at.invariant.taken c.in-Failed.ensures.takes;
}
