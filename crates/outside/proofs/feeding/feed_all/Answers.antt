use Rattle.std.proofs.Common.{arith, refl, ◌∙◌}
use Rattle.outside.proofs.Joined.{gave_some_after, passed_none, passed_more}
use Rattle.outside.proofs.feeding.feed_all.Goals as goal

pub reads-init : goal.reads-init
reads-init g c = record { passed = passed_none; wants = c.requires; same = refl; later = omega arith }

pub feed_once-requires-clause-room : goal.feed_once-requires-clause-room
feed_once-requires-clause-room g c = omega (arith, c.in_ok-room.ensures)

pub returns-in_err-fed-clause-rest : goal.returns-in_err-fed-clause-rest
returns-in_err-fed-clause-rest g c = gave_some_after c.reads.invariant.passed c.feed_once.ensures.rest

pub returns-in-Some-clause-fed : goal.returns-in-Some-clause-fed
returns-in-Some-clause-fed g c = passed_more c.reads.invariant.passed c.in_ok-fed.ensures.fed

pub returns-in-Some-clause-ended : goal.returns-in-Some-clause-ended
returns-in-Some-clause-ended g c is = c.in_ok-fed.ensures.ended (cc)

pub returns-in-Some-clause-rest : goal.returns-in-Some-clause-rest
returns-in-Some-clause-rest g c = gave_some_after c.reads.invariant.passed c.feed_once.ensures.rest

pub reads-preserved : goal.reads-preserved
reads-preserved g c = record {
  passed = passed_more c.reads.invariant.passed c.in_ok-fed.ensures.fed;
  wants = rw c.in-None.is at c.in_ok-fed.ensures.enough;
  same = c.feed_once.ensures.same ∙ c.reads.invariant.same;
  later = omega (arith, c.reads.invariant.later, c.feed_once.ensures.later);
}
