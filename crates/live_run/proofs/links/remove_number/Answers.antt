use Rattle.std.proofs.Common.{◌∙◌, refl, sym}
use Rattle.live_run.proofs.Searches.{removed_first, removed_none, stands_first, stands_none}
use Rattle.live_run.proofs.links.remove_number.Goals as goal

pub returns-in-Some-clause-stood : goal.returns-in-Some-clause-stood
returns-in-Some-clause-stood c = sym (stands_first c.in-Some.ensures.found)

pub returns-in-Some-clause-left : goal.returns-in-Some-clause-left
returns-in-Some-clause-left c = c.remove.ensures ∙ sym (removed_first c.in-Some.ensures.found)

pub returns-in-None-clause-stood : goal.returns-in-None-clause-stood
returns-in-None-clause-stood c = sym (stands_none c.args.number c.args.numbers.now (c.in-None.ensures.none refl))

pub returns-in-None-clause-left : goal.returns-in-None-clause-left
returns-in-None-clause-left c = sym (removed_none c.args.number c.args.numbers.now (c.in-None.ensures.none refl))
