use Rattle.std.proofs.Common.{refl}
use Rattle.resp_read.proofs.CourseLaws.{course_begun}
use Rattle.resp_read.proofs.course.Course.new.Goals as goal

pub returns-clause-course : goal.returns-clause-course
returns-clause-course c = course_begun (record { tape = c.new-tape.result; at = 0; place = record { next = 0; stage = _; line = c.new-line.result }; frames = c.new-frames.result }) c.new-tape.ensures refl refl refl c.new-line.ensures c.new-frames.ensures.items
