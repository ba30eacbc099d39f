use Rattle.std.proofs.Common.{map, ap, ◌∙◌, rules}
use Rattle.std.proofs.lemmas.Int.{to_z-of_z}
use Rattle.std.specs.Int.{saturate_signed, w64, w128}
use Rattle.std.specs.Prelude.{FitsSigned}
use Rattle.fan_out.specs.Tallies.{shown}
use Rattle.fan_out.proofs.Keeping.{shown_first, shown_next}
use Rattle.fan_out.proofs.tallies.Totals.shown.Goals as goal

pub loop-name-init : goal.loop-name-init
loop-name-init c = shown_first c.new-pairs.result c.into_iter-name-iterator.result c.self.inside.totals.entries c.args.self.now c.new-pairs.ensures c.into_iter-name-iterator.ensures.into_iter_gives.0 c.self.view_is

pub loop-name-preserved : goal.loop-name-preserved
loop-name-preserved c =
    let fits : FitsSigned w128 c.in-Some.total.now = search rules in
    let small : FitsSigned w64 c.saturated.result = record { sfits = c.saturated.type_inv } in
    shown_next c.loop-name.pairs c.push.new.self c.loop-name.name-iterator c.next.new.self c.in-Some.name.now c.in-Some.total.now c.in_ok-name.name _ (map shown c.args.self.now)
    c.in-Some.ensures.steps c.in_ok-push.ensures.ok (c.in_ok-name.ensures ∙ c.as_slice.ensures.value)
    (to_z-of_z w64 c.saturated.result small ∙ c.saturated.ensures ∙ ap (saturate_signed w64) (to_z-of_z w128 c.in-Some.total.now fits))
    c.loop-name.invariant
