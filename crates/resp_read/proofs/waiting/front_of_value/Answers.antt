use Rattle.std.proofs.Common.{Bool, sym, ap, ◌∙◌, subst}
use Rattle.std.specs.Prelude.{◌||◌, is_some}
use Rattle.resp_read.specs.Digits.{is_bare, are_digits, number_in}
use Rattle.resp_read.specs.Limits.{bounds}
use Rattle.resp_read.specs.Parts.{line_form}
use Rattle.resp_read.specs.declared.forms.OneLine.{OneLine}
use Rattle.resp_read.specs.Waiting.{IsJudged}
use Rattle.resp_read.proofs.DigitLaws.{can_be_number, can_be_big}
use Rattle.resp_read.proofs.HeadLaws.{is_end_by_length}
use Rattle.resp_read.proofs.waiting.front_of_value.Goals as goal

pub returns-then-can_be_number : goal.returns-then-can_be_number
returns-then-can_be_number c =
    let d = c.digits-digits.ensures in
    (ap (λ (f : OneLine). (line_form (bounds c.args.limits) f).begun c.args.text.now) c.in-Number.is ∙ can_be_number c.args.text.now ∙ ap (λ x. is_bare x || is_some (number_in x)) (sym d.run) ∙ sym c.can_be_number.ensures ∙ c.if-can_be_number.true, (d.run, d.kept))

pub returns-else-can_be_number : goal.returns-else-can_be_number
returns-else-can_be_number c =
    let d = c.digits-digits.ensures in
    ap (λ (f : OneLine). (line_form (bounds c.args.limits) f).begun c.args.text.now) c.in-Number.is ∙ can_be_number c.args.text.now ∙ ap (λ x. is_bare x || is_some (number_in x)) (sym d.run) ∙ sym c.can_be_number.ensures ∙ c.if-can_be_number.false

pub returns-in-Null : goal.returns-in-Null
returns-in-Null c = subst (λ (b : Bool). IsJudged b c.args.text.now c.text_if.result) (c.is_empty.ensures ∙ is_end_by_length c.args.text.now ∙ sym (ap (λ (f : OneLine). (line_form (bounds c.args.limits) f).begun c.args.text.now) c.in-Null.is)) (c.text_if.ensures c.args.text.now)

pub returns-in-Boolean : goal.returns-in-Boolean
returns-in-Boolean c = subst (λ (b : Bool). IsJudged b c.args.text.now c.text_if-in-Boolean.result) (c.is_truth_begun.ensures ∙ sym (ap (λ (f : OneLine). (line_form (bounds c.args.limits) f).begun c.args.text.now) c.in-Boolean.is)) (c.text_if-in-Boolean.ensures c.args.text.now)

pub returns-then-can_be_some : goal.returns-then-can_be_some
returns-then-can_be_some c =
    let d = c.digits-digits-in-Big.ensures in
    (ap (λ (f : OneLine). (line_form (bounds c.args.limits) f).begun c.args.text.now) c.in-Big.is ∙ can_be_big c.args.text.now ∙ ap (λ x. is_bare x || are_digits x) (sym d.run) ∙ sym c.can_be_some.ensures ∙ c.if-can_be_some.true, (d.run, d.kept))

pub returns-else-can_be_some : goal.returns-else-can_be_some
returns-else-can_be_some c =
    let d = c.digits-digits-in-Big.ensures in
    ap (λ (f : OneLine). (line_form (bounds c.args.limits) f).begun c.args.text.now) c.in-Big.is ∙ can_be_big c.args.text.now ∙ ap (λ x. is_bare x || are_digits x) (sym d.run) ∙ sym c.can_be_some.ensures ∙ c.if-can_be_some.false

pub returns-in-NoArray : goal.returns-in-NoArray
returns-in-NoArray c = subst (λ (b : Bool). IsJudged b c.args.text.now c.text_if-in-NoArray.result) (c.is_no_array_begun.ensures ∙ sym (ap (λ (f : OneLine). (line_form (bounds c.args.limits) f).begun c.args.text.now) c.in-NoArray.is)) (c.text_if-in-NoArray.ensures c.args.text.now)
