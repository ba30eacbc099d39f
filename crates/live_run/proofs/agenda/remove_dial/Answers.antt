use Rattle.std.proofs.Common.{◌∙◌, refl, sym}
use Rattle.live_run.proofs.Searches.{undialled_first, undialled_none}
use Rattle.live_run.proofs.agenda.remove_dial.Goals as goal

pub returns-in-Some : goal.returns-in-Some
returns-in-Some c = c.remove.ensures ∙ sym (undialled_first c.in-Some.ensures.found)

pub returns-in-None : goal.returns-in-None
returns-in-None c = sym (undialled_none c.args.link c.args.dials.now (c.in-None.ensures.none refl))
