use Rattle.std.proofs.Common.{sym, ap, ◌∙◌, arith}
use Rattle.resp_read.specs.Digits.{natural_in}
use Rattle.resp_read.proofs.DigitLaws.{natural_is}
use Rattle.resp_read.proofs.Counts.{begun_empty, front_few, front_many, front_none}
use Rattle.resp_read.proofs.waiting.can_be_count.Goals as goal

pub returns-then-is_empty : goal.returns-then-is_empty
returns-then-is_empty c = sym (begun_empty c.args.limits c.requires.allowed c.args.least c.args.most c.requires.digit c.requires.room c.args.text.now (grind arith))

pub returns-then-n-least : goal.returns-then-n-least
returns-then-n-least c = sym (front_few c.args.limits c.requires.allowed c.args.least c.args.most c.requires.digit c.requires.room c.in-Some.n c.args.text.now (grind arith) (natural_is c.args.most c.requires.most c.args.text.now ∙ ap (natural_in c.args.most) (sym c.requires.read) ∙ sym c.in-Some.ensures.is) (grind arith))

pub returns-else-n-least : goal.returns-else-n-least
returns-else-n-least c = c.is_within.ensures ∙ sym (front_many c.args.limits c.requires.allowed c.args.least c.args.most c.requires.digit c.requires.room c.in-Some.n c.args.text.now (grind arith) (natural_is c.args.most c.requires.most c.args.text.now ∙ ap (natural_in c.args.most) (sym c.requires.read) ∙ sym c.in-Some.ensures.is) (grind arith))

pub returns-in-None : goal.returns-in-None
returns-in-None c = sym (front_none c.args.limits c.requires.allowed c.args.least c.args.most c.requires.digit c.requires.room c.args.text.now (grind arith) (natural_is c.args.most c.requires.most c.args.text.now ∙ ap (natural_in c.args.most) (sym c.requires.read) ∙ sym c.in-None.ensures.is))
