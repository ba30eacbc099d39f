use Rattle.std.proofs.Common.{refl}
use Rattle.live_run.proofs.Searches.{offer_first, offer_none}
use Rattle.live_run.proofs.links.is_up.Goals as goal

pub returns-in-Some : goal.returns-in-Some
returns-in-Some c = let f = c.in-Some.ensures.found in rw (offer_first f f.item f.stands) refl

pub returns-in-None : goal.returns-in-None
returns-in-None c = rw (offer_none c.args.number c.args.links.now (c.in-None.ensures.none refl)) refl
