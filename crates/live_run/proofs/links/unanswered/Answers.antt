use Rattle.std.proofs.Common.{◌≡◌, Some, refl, sym, ◌∙◌, ap}
use Rattle.live_run.specs.Agenda.{offer_of}
use Rattle.live_run.proofs.Searches.{offer_first, offer_none, unoffered_none, unoffered_length, some_length}
use Rattle.live_run.proofs.links.unanswered.Goals as goal

pub returns-in_default : goal.returns-in_default
returns-in_default c = unoffered_none (offer_none c.args.number c.args.links.now (c.in_default.ensures.none refl))

pub returns-then-is_empty : goal.returns-then-is_empty
returns-then-is_empty c =
    let o : offer_of c.args.number c.args.links.now ≡ Some c.as_slice-offer.result.now = offer_first c.in-Some.ensures.found c.at.result.now c.at.ensures ∙ ap Some (sym c.as_slice-offer.ensures) in
    unoffered_length c.as_slice-offer.result.now o (sym c.is_empty.ensures ∙ c.if-is_empty.true)

pub returns : goal.returns
returns c =
    let o : offer_of c.args.number c.args.links.now ≡ Some c.as_slice-offer.result.now = offer_first c.in-Some.ensures.found c.at.result.now c.at.ensures ∙ ap Some (sym c.as_slice-offer.ensures) in
    (some_length c.as_slice-offer.result.now (sym c.is_empty.ensures ∙ c.if-is_empty.false), o)
