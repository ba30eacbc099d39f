use Rattle.std.proofs.Common.{ℕ, ◌-◌, drop, length-drop, refl, sym, ap, ◌∙◌}
use Rattle.resp_read.specs.declared.place.Place.{Place}
use Rattle.resp_read.specs.declared.stages.Stage.TheVariants as stage
use Rattle.resp_read.specs.Places.{seen}
use Rattle.resp_read.proofs.PlaceLaws.{few_short, advances_from, costs_from}
use Rattle.resp_read.proofs.place.advance.Goals as goal

pub returns-then-has_too_few-clause-advances : goal.returns-then-has_too_few-clause-advances
returns-then-has_too_few-clause-advances g c =
    let next = c.args.place.now.next in
    let tape = c.args.tape.now in
    (refl, refl, few_short c.args.limits (c.args.limits.depth - c.args.around) c.args.place.now.stage (drop next tape) (c.len.result - next) (ap (λ (n : ℕ). n - next) c.len.ensures ∙ sym (length-drop next tape)) (sym c.has_too_few.ensures ∙ c.if-has_too_few.true))

pub returns-in-First-clause-advances : goal.returns-in-First-clause-advances
returns-in-First-clause-advances g c =
    let p = c.args.place.now in
    advances_from c.args.limits (c.args.limits.depth - c.args.around) c.args.tape.now p p stage.First c.pass_first.result c.pass_first.new.place c.in-First.is refl c.pass_first.ensures.goes

pub returns-in-End : goal.returns-in-End
returns-in-End g c =
    let p = c.args.place.now in
    let q = c.take_stage.new.self in
    record {
      advances = advances_from c.args.limits (c.args.limits.depth - c.args.around) c.args.tape.now p q (stage.End c.in-End.follow) c.pass_end.result c.pass_end.new.place (sym c.take_stage.ensures.stage ∙ c.in-End.is) (ap (λ (x : Place). x.next) c.take_stage.ensures.first) c.pass_end.ensures.goes;
      place = c.pass_end.ensures.place;
      first = c.pass_end.ensures.first;
      costs = costs_from c.args.tape.now p q c.args.steps.now c.pass_end.result c.pass_end.new.place c.pass_end.new.steps (ap seen c.take_stage.ensures.first) c.pass_end.ensures.costs;
    }

pub returns-in-Want : goal.returns-in-Want
returns-in-Want g c =
    let p = c.args.place.now in
    let q = c.take_stage.new.self in
    record {
      advances = advances_from c.args.limits (c.args.limits.depth - c.args.around) c.args.tape.now p q (stage.Want c.in-Want.want) c.pass_want.result c.pass_want.new.place (sym c.take_stage.ensures.stage ∙ c.in-Want.is) (ap (λ (x : Place). x.next) c.take_stage.ensures.first) c.pass_want.ensures.goes;
      place = c.pass_want.ensures.place;
      first = c.pass_want.ensures.first;
      costs = costs_from c.args.tape.now p q c.args.steps.now c.pass_want.result c.pass_want.new.place c.pass_want.new.steps (ap seen c.take_stage.ensures.first) c.pass_want.ensures.costs;
    }
