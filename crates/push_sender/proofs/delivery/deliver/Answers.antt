use Rattle.std.proofs.Common.{le_trans}
use Rattle.push_sender.proofs.Handed.{gained_more, part_more}
use Rattle.push_sender.proofs.delivery.deliver.Goals as goal

pub returns-in_err-hand_on-clause-part : goal.returns-in_err-hand_on-clause-part
returns-in_err-hand_on-clause-part g c = part_more _ _ _ c.args.actions.now c.loop-action.action-index c.action-item.result c.loop-action-test.true c.action-item.is c.loop-action.invariant.got c.hand_on.ensures.part

pub loop-action-preserved : goal.loop-action-preserved
loop-action-preserved g c = record {
  counted = c.loop-action.invariant.counted;
  later = le_trans c.loop-action.invariant.later c.hand_on.ensures.later;
  got = gained_more _ _ _ c.args.actions.now c.loop-action.action-index c.action-item.result c.loop-action-test.true c.action-item.is c.loop-action.invariant.got c.in_ok-hand_on.ensures.got;
}
