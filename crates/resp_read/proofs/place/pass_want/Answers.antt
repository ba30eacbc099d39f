use Rattle.std.proofs.Common.{◌≡◌, ◌<◌, ◌-◌, length, Ok, Err, None, false, sym, ap, ◌∙◌, subst, arith}
use Rattle.std.specs.Prelude.{nat_le}
use Rattle.std.proofs.lemmas.Bool.Decides.{nat_tests}
use Rattle.resp_read.specs.declared.stages.Want.{Want}
use Rattle.resp_read.specs.declared.stages.Stage.TheVariants as stage
use Rattle.resp_read.specs.declared.place.Place.{Place}
use Rattle.resp_read.specs.Stages.{stage_as}
use Rattle.resp_read.specs.Places.{is_too_few, Goes}
use Rattle.resp_read.proofs.PlaceLaws.{body_goes, body_stops, format_goes, format_stops, kind_goes}
use Rattle.resp_read.proofs.place.pass_want.Goals as goal

pub returns-in-Ok-clause-goes : goal.returns-in-Ok-clause-goes
returns-in-Ok-clause-goes g c =
    let d = c.args.limits.depth - c.args.around in
    let next = c.args.place.now.next in
    let tape = c.args.tape.now in
    let size = c.in-Body.size in
    let enough : nat_le (length tape - next) size ≡ false = sym (ap (λ (w : Want). is_too_few (length tape - next) (stage.Want w)) c.in-Body.is) ∙ c.requires.enough in
    let more : size < length tape - next = grind (arith, nat_tests) in
    let end = c.len-end.ensures in
    subst (λ (w : Want). Goes c.args.limits d tape (stage_as c.args.limits d (stage.Want w)) next (Ok None) c.enter.new.self) (sym c.in-Body.is)
    (body_goes c.args.limits d tape next size c.enter.new.self c.in-Body.part c.in-Ok.begun (omega (arith, more)) (ap (λ (p : Place). p.next) c.enter.ensures ∙ omega (arith, end, more)) (ap (λ (p : Place). p.stage) c.enter.ensures) c.in-Ok.ensures.body)

pub returns-in-Err-clause-goes : goal.returns-in-Err-clause-goes
returns-in-Err-clause-goes g c =
    let d = c.args.limits.depth - c.args.around in
    subst (λ (w : Want). Goes c.args.limits d c.args.tape.now (stage_as c.args.limits d (stage.Want w)) c.args.place.now.next (Err c.in-Err.refusal) c.args.place.now) (sym c.in-Body.is)
    (body_stops c.args.limits d c.args.tape.now c.args.place.now.next c.in-Body.size c.args.place.now c.in-Body.part c.in-Err.refusal c.in-Err.ensures.body)

pub returns-in-Ok-take_format-clause-goes : goal.returns-in-Ok-take_format-clause-goes
returns-in-Ok-take_format-clause-goes g c =
    let d = c.args.limits.depth - c.args.around in
    let next = c.args.place.now.next in
    let tape = c.args.tape.now in
    let enough : nat_le (length tape - next) 3 ≡ false = sym (ap (λ (w : Want). is_too_few (length tape - next) (stage.Want w)) c.in-Format.is) ∙ c.requires.enough in
    let more : 3 < length tape - next = grind (arith, nat_tests) in
    let end = c.len-end.ensures in
    subst (λ (w : Want). Goes c.args.limits d tape (stage_as c.args.limits d (stage.Want w)) next (Ok None) c.enter-in-Ok-take_format.new.self) (sym c.in-Format.is)
    (format_goes c.args.limits d tape next c.in-Format.size c.enter-in-Ok-take_format.new.self c.in-Ok-take_format.format (omega (arith, more)) (ap (λ (p : Place). p.next) c.enter-in-Ok-take_format.ensures ∙ omega (arith, end, more)) (ap (λ (p : Place). p.stage) c.enter-in-Ok-take_format.ensures) c.in-Ok-take_format.ensures.format)

pub returns-in-Err-take_format-clause-goes : goal.returns-in-Err-take_format-clause-goes
returns-in-Err-take_format-clause-goes g c =
    let d = c.args.limits.depth - c.args.around in
    subst (λ (w : Want). Goes c.args.limits d c.args.tape.now (stage_as c.args.limits d (stage.Want w)) c.args.place.now.next (Err c.in-Err-take_format.refusal) c.args.place.now) (sym c.in-Format.is)
    (format_stops c.args.limits d c.args.tape.now c.args.place.now.next c.in-Format.size c.args.place.now c.in-Err-take_format.refusal c.in-Err-take_format.ensures.format)

pub returns-in-Some-clause-goes : goal.returns-in-Some-clause-goes
returns-in-Some-clause-goes g c =
    let d = c.args.limits.depth - c.args.around in
    let next = c.args.place.now.next in
    let tape = c.args.tape.now in
    let enough : nat_le (length tape - next) 0 ≡ false = sym (ap (λ (w : Want). is_too_few (length tape - next) (stage.Want w)) c.in-Kind.is) ∙ c.requires.enough in
    let more : 0 < length tape - next = grind (arith, nat_tests) in
    let end = c.len-end.ensures in
    subst (λ (w : Want). Goes c.args.limits d tape (stage_as c.args.limits d (stage.Want w)) next (Ok None) c.enter-in-Some.new.self) (sym c.in-Kind.is)
    (kind_goes c.args.limits d tape next c.in-Kind.more c.enter-in-Some.new.self c.at-first.result c.in-Some.head (omega (arith, more)) c.at-first.ensures.byte (ap (λ (p : Place). p.next) c.enter-in-Some.ensures ∙ omega (arith, end, more)) (ap (λ (p : Place). p.stage) c.enter-in-Some.ensures) c.in-Some.ensures)
