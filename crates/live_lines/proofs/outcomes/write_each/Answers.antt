use Rattle.std.proofs.Common.{rules, refl, sym, ap, ◌∙◌, ◌≡◌, ℕ, List, [], ◌∷◌, ◌++◌, append_assoc}
use Rattle.std.proofs.lemmas.List.{append-nil}
use Rattle.live_lines.specs.Outcomes.{outcome_line, outcomes_of}
use Rattle.live_lines.proofs.Writing.{sent_next, all_written, cut_short, cut_in}
use Rattle.live_lines.proofs.outcomes.write_each.Goals as goal

pub loop-number-preserved : goal.loop-number-preserved
loop-number-preserved g c =
    let i = c.loop-number.invariant in
    let n = c.in-Some.number in
    let popped : c.loop-number.left ≡ n ∷ c.pop_front.new.self = search rules in
    record {
      done = i.done ++ n ∷ [];
      numbers = append_assoc i.done (n ∷ []) c.pop_front.new.self ∙ ap (λ (xs : List ℕ). i.done ++ xs) (sym popped) ∙ i.numbers;
      sent = sent_next (outcomes_of c.args.session.now) i.done n c.loop-number.text (c.loop-number.text ++ outcome_line (outcomes_of c.args.session.now) n) c.write_one.new.text i.sent refl c.in-Ok.ensures.ok;
      later = search rules;
    }

pub returns-in-Err-clause-err : goal.returns-in-Err-clause-err
returns-in-Err-clause-err g c =
    let i = c.loop-number.invariant in
    let n = c.in-Some.number in
    let popped : c.loop-number.left ≡ n ∷ c.pop_front.new.self = search rules in
    cut_in (outcomes_of c.args.session.now) i.done c.pop_front.new.self c.args.numbers.items n c.loop-number.text (ap (λ (xs : List ℕ). i.done ++ xs) (sym popped) ∙ i.numbers) i.sent c.in-Err.ensures.err

pub returns-then-put-clause-ok : goal.returns-then-put-clause-ok
returns-then-put-clause-ok g c =
    let i = c.loop-number.invariant in
    let none : c.loop-number.left ≡ [] = search rules in
    all_written (outcomes_of c.args.session.now) i.done c.args.numbers.items c.loop-number.text (sym (append-nil i.done) ∙ ap (λ (xs : List ℕ). i.done ++ xs) (sym none) ∙ i.numbers) i.sent (c.if-put.ensures.all refl)

pub returns-clause-err : goal.returns-clause-err
returns-clause-err g c =
    let i = c.loop-number.invariant in
    let none : c.loop-number.left ≡ [] = search rules in
    cut_short (outcomes_of c.args.session.now) i.done [] c.args.numbers.items c.loop-number.text (ap (λ (xs : List ℕ). i.done ++ xs) (sym none) ∙ i.numbers) i.sent c.if-put.ensures.part
