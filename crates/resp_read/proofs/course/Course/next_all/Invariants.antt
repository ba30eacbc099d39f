use Rattle.std.proofs.Common.{◌≡◌, ◌≤◌, ◌+◌, ◌*◌, List, ◌++◌, length}
use Rattle.resp_value.specs.declared.value.Value.{Value as RespValue}
use Rattle.resp_read.specs.Courses.{rest_of, unread, IsCourse, ReadsAll}
use Rattle.resp_read.proofs.course.Course.next_all.Given as goal

abbrev pub invariant-loop-value : goal.invariant-loop-value
invariant-loop-value g l = record {
  course : IsCourse l.fn.limits l.self;
  read : (vs : List RespValue) × (l.out.items ≡ l.fn.out.items ++ vs) × ReadsAll l.fn.limits (rest_of l.fn.self) vs (rest_of l.self);
  costs : l.steps + 2 * unread l.self ≤ l.fn.steps + 2 * unread l.fn.self;
}

abbrev pub decreases-loop-value : goal.decreases-loop-value
decreases-loop-value g l = length (rest_of l.self)
