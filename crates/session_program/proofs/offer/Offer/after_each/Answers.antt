use Rattle.std.proofs.Common.{◌≡◌, ◌+◌, List, [], ◌∷◌, ◌++◌, take, sym, ap, subst, ◌∙◌}
use Rattle.std.proofs.lemmas.List.{take_more}
use Rattle.driver_model.specs.declared.action.Action.{Action}
use Rattle.legal_trace.specs.Book.{Book, entered_each}
use Rattle.legal_trace.proofs.Books.{entered_append}
use Rattle.session_program.specs.Offers.{IsOfferOf}
use Rattle.session_program.proofs.offer.Offer.after_each.Goals as goal

pub loop-action-preserved : goal.loop-action-preserved
loop-action-preserved c b h =
    let all = c.args.actions.now in
    let k = c.loop-action.action-index in
    let a = c.action-item.result in
    let next : take (k + 1) all ≡ take k all ++ a ∷ [] = take_more all k a c.loop-action-test.true ∙ ap (λ (x : Action). take k all ++ x ∷ []) (sym c.action-item.is) in
    subst (λ (x : Book). IsOfferOf c.after-offer.result x)
    (sym (ap (λ (acts : List Action). entered_each b acts) next ∙ entered_append b (take k all) (a ∷ [])))
    (c.after-offer.ensures (entered_each b (take k all)) (c.loop-action.invariant b h))
