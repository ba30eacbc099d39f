use Rattle.std.proofs.Common.{sym, ap, ◌∙◌}
use Rattle.script_text.specs.Pieces.{glued, one_word}
use Rattle.script_text.proofs.Glue.{glued_last}
use Rattle.script_text.proofs.line.Line.push.Goals as goal

pub returns-in_ok-push-in-Some-2 : goal.returns-in_ok-push-in-Some-2
returns-in_ok-push-in-Some-2 c =
    let words = c.self.inside.words.items in
    let piece = one_word c.args.word in
    rw (← c.self.view_is) (rw c.in_ok-push-in-Some-2.ensures.items (rw c.in_ok-push-in-Some.ensures.ok
    (sym (ap (λ more. glued words more piece) c.in-Some.ensures.items ∙ glued_last words c.in-Some.last c.pop.new.self.items piece))))
