use Rattle.std.proofs.Common.{◌-◌, refl}
use Rattle.resp_read.proofs.CourseLaws.{moved_course, moved_unread}
use Rattle.resp_read.proofs.course.Course.forget_given.Goals as goal

pub returns-clause-course : goal.returns-clause-course
returns-clause-course c = λ limits h.
    let old = c.args.self.now in
    moved_course old (record { tape = c.forget.new.self; at = 0; place = record old.place { next = old.place.next - old.at }; frames = old.frames }) c.forget.ensures refl refl c.requires.0 limits refl h

pub returns-clause-rest : goal.returns-clause-rest
returns-clause-rest c = c.forget.ensures

pub returns-clause-unread : goal.returns-clause-unread
returns-clause-unread c =
    let old = c.args.self.now in
    moved_unread old (record { tape = c.forget.new.self; at = 0; place = record old.place { next = old.place.next - old.at }; frames = old.frames }) c.forget.ensures refl refl c.requires.0
