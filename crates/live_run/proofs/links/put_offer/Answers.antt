use Rattle.std.proofs.Common.{◌∙◌, refl, sym}
use Rattle.live_run.proofs.Searches.{offered_first, offered_none}
use Rattle.live_run.proofs.links.put_offer.Goals as goal

pub returns-in-Some : goal.returns-in-Some
returns-in-Some c = c.set.ensures ∙ sym (offered_first c.args.offer c.in-Some.ensures.found)

pub returns-in-None : goal.returns-in-None
returns-in-None c = sym (offered_none c.args.number c.args.offer c.args.links.now (c.in-None.ensures.none refl))
