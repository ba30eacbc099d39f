use Rattle.single_session.proofs.Replays.{actions_told}
use Rattle.shared_session.proofs.session.Session.step.Goals as goal

pub returns-in-Ok-take-clause-actions : goal.returns-in-Ok-take-clause-actions
returns-in-Ok-take-clause-actions c =
    let s = c.args.self.now in
    let h = c.in-Ok-take.ensures in
    actions_told s.config s.word s.events c.args.event c.args.out.now.items c.tell.new.out.items c.take.new.out.items (c.in-Ok.ensures.told h.sound h.good h.unspent) h.actions
