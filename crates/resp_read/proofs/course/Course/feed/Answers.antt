use Rattle.std.proofs.Common.{refl}
use Rattle.resp_read.proofs.CourseLaws.{course_fed}
use Rattle.resp_read.proofs.course.Course.feed.Goals as goal

pub returns-in-Ok-clause-course : goal.returns-in-Ok-clause-course
returns-in-Ok-clause-course c = λ limits h.
    let old = c.args.self.now in
    course_fed limits old (record { tape = c.feed.new.self; at = old.at; place = old.place; frames = old.frames }) c.args.piece.now refl refl refl c.in-Ok.ensures.ok h
