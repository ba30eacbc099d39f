use Rattle.std.proofs.Common.{refl, sym, ◌∙◌}
use Rattle.resp_read.specs.declared.forms.Refusal.TheVariants.{Short}
use Rattle.resp_read.proofs.CourseLaws.{next_given, next_refused}
use Rattle.resp_read.proofs.UnderwayLaws.{waits_there}
use Rattle.resp_read.proofs.course.Course.next.Goals as goal

pub returns-then-has_too_few-clause-reads : goal.returns-then-has_too_few-clause-reads
returns-then-has_too_few-clause-reads g c =
    let old = c.args.self.now in
    let few = sym c.has_too_few.ensures ∙ c.if-has_too_few.true in
    next_refused c.args.limits old old refl c.requires.course refl Short (waits_there c.args.limits old.tape old.frames.items old.place few) c.requires.course.place

pub returns-in-Ok-clause-reads : goal.returns-in-Ok-clause-reads
returns-in-Ok-clause-reads g c =
    let old = c.args.self.now in
    let new = c.read_from.new.place in
    next_given c.args.limits old (record { tape = old.tape; at = new.next; place = new; frames = c.read_from.new.frames }) refl c.requires.course c.in-Ok.value refl c.in-Ok.ensures.reads c.in-Ok.ensures.place

pub returns-in-Err-clause-reads : goal.returns-in-Err-clause-reads
returns-in-Err-clause-reads g c =
    let old = c.args.self.now in
    next_refused c.args.limits old (record { tape = old.tape; at = old.at; place = c.read_from.new.place; frames = c.read_from.new.frames }) refl c.requires.course refl c.in-Err.refusal c.in-Err.ensures.reads c.in-Err.ensures.place
