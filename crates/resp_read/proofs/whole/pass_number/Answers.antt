use Rattle.std.proofs.Common.{◌-◌, take, drop, Some, sym, ap, ◌∙◌, SFits, w64, to_z-of_z, arith, rules}
use Rattle.std.specs.Prelude.{option_map}
use Rattle.resp_value.specs.Data.{int}
use Rattle.resp_read.specs.Digits.{number_in}
use Rattle.resp_read.specs.declared.forms.OneLine.TheVariants.{Number}
use Rattle.resp_read.specs.declared.stages.Head.TheVariants.{Value}
use Rattle.resp_read.proofs.DigitLaws.{number_is}
use Rattle.resp_read.proofs.WholeLaws.{value_reaches, no_end_stops}
use Rattle.resp_read.proofs.whole.pass_number.Goals as goal

pub returns-in-Ok-Some-clause-reaches : goal.returns-in-Ok-Some-clause-reaches
returns-in-Ok-Some-clause-reaches g c =
    let end = rw c.in-Ok-Some.field-0-is at c.in-Ok-Some.ensures.end in
    let l = take c.read_numeral-read.result.count (drop c.args.place.now.next c.args.tape.now) in
    let moved = end.0 in
    let fit : SFits w64 c.in-Some.n = search rules in
    value_reaches c.args.limits (c.args.limits.depth - c.args.around) c.args.tape.now c.args.place.now.next Number l (record { next = c.in-Ok-Some.behind; stage = c.args.place.now.stage; line = c.args.place.now.line }) (omega (arith, moved)) end.1 end.2 c.int_of.result
    (ap Some (c.int_of.ensures ∙ ap int (to_z-of_z fit)) ∙ ap (option_map int) (c.in-Some.ensures ∙ ap number_in c.read_numeral-read.ensures.digits ∙ sym (number_is l)))

pub returns-in-Err-clause-reaches : goal.returns-in-Err-clause-reaches
returns-in-Err-clause-reaches g c =
    no_end_stops c.args.limits (c.args.limits.depth - c.args.around) c.args.tape.now c.args.place.now.next c.read_numeral-read.result.count (Value Number) c.args.place.now c.in-Err.refusal c.in-Err.ensures.end
