use Rattle.std.proofs.Common.{◌∙◌, refl, sym}
use Rattle.live_run.proofs.Searches.{without_first, without_none}
use Rattle.live_run.proofs.links.remove_link.Goals as goal

pub returns-in-Some : goal.returns-in-Some
returns-in-Some c = c.remove.ensures ∙ sym (without_first c.in-Some.ensures.found)

pub returns-in-None : goal.returns-in-None
returns-in-None c = sym (without_none c.args.number c.args.links.now (c.in-None.ensures.none refl))
