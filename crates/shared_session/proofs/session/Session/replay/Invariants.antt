use Rattle.std.proofs.Common.{take}
use Rattle.shared_session.proofs.Replays.{Kept}
use Rattle.shared_session.proofs.session.Session.replay.Given as goal

abbrev pub invariant-loop-event : goal.invariant-loop-event
invariant-loop-event l = Kept l.fn.config l.fn.word (take l.event-index l.events) l.fn.actions.items l.session l.actions.items
