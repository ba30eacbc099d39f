use Rattle.std.proofs.Common.{sym, ap, ◌∙◌, ◌++◌, ◌∷◌, []}
use Rattle.mux_routing.specs.Ranges.{with_range}
use Rattle.mux_routing.proofs.Pushing.{apart_put, grown}
use Rattle.mux_routing.proofs.push_range.push_range.Goals as goal

pub returns-then-goes_on : goal.returns-then-goes_on
returns-then-goes_on c =
    c.in_ok-push-2.ensures.items
    ∙ sym (grown c.pop.new.self.items c.in-Some.last c.args.next (sym c.goes_on.ensures ∙ c.if-goes_on.true))
    ∙ ap (λ rs. with_range rs c.args.next) (sym c.in-Some.ensures.items)

pub returns : goal.returns
returns c =
    c.in_ok-push-4.ensures.items
    ∙ ap (λ rs. rs ++ c.args.next ∷ []) c.in_ok-push-3.ensures.items
    ∙ sym (apart_put c.pop.new.self.items c.in-Some.last c.args.next (sym c.goes_on.ensures ∙ c.if-goes_on.false))
    ∙ ap (λ rs. with_range rs c.args.next) (sym c.in-Some.ensures.items)
