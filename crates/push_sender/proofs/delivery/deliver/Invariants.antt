use Rattle.std.proofs.Common.{◌≡◌, ◌≤◌, take}
use Rattle.push_sender.specs.Sending.{Gained, pushes_of}
use Rattle.push_sender.proofs.delivery.deliver.Given as goal

-- the pushes among the actions so far were handed on
abbrev pub invariant-loop-action : goal.invariant-loop-action
invariant-loop-action g l = record {
  counted : l.before ≡ g.S.AsyncPushSender.refusals l.fn.sender;
  later : l.before ≤ g.S.AsyncPushSender.refusals l.sender;
  got : Gained (g.S.AsyncPushSender.handed l.fn.sender) (g.S.AsyncPushSender.handed l.sender) (pushes_of (take l.action-index l.actions));
}
