use Rattle.std.proofs.Common.{refl, sym, ◌∙◌}
use Rattle.live_run.specs.Agenda.{undialled, without}
use Rattle.live_run.proofs.Balance.{nothing_closed}
use Rattle.live_run.proofs.agenda.Agenda.note_close.Goals as goal

pub returns-else-remove_number : goal.returns-else-remove_number
returns-else-remove_number c =
    nothing_closed (record c.args.self.now { links = without c.args.link c.args.self.now.links; dials = undialled c.args.link c.args.self.now.dials }) _ c.args.link
    (sym c.remove_number.ensures.stood ∙ c.if-remove_number.false) (rw (c.remove_link.ensures, c.remove_dial.ensures, c.remove_number.ensures.left) refl)
