use Rattle.std.proofs.Common.{[], ◌∷◌, ◌++◌, refl, sym, ap, ◌∙◌, append_assoc, arith}
use Rattle.std.proofs.lemmas.List.{append-nil}
use Rattle.resp_value.specs.View.{data_of}
use Rattle.resp_read.specs.Courses.{rest_of}
use Rattle.resp_read.proofs.ParseLaws.{takes_a_byte}
use Rattle.resp_read.proofs.CourseLaws.{one_value_more}
use Rattle.resp_read.proofs.course.Course.next_all.Goals as goal

pub loop-value-init : goal.loop-value-init
loop-value-init g c = record { course = c.requires.course; read = ([], sym (append-nil c.args.out.now.items), refl); costs = omega arith }

pub loop-value-preserved : goal.loop-value-preserved
loop-value-preserved g c =
    let so_far = c.loop-value.invariant.read in
    let v = c.in-Ok.value in
    let before = c.loop-value.invariant.costs in
    let costs = c.in-Ok.ensures.costs in
    record {
      course = c.in-Ok.ensures.reads.0;
      read = (
        so_far.0 ++ v ∷ [],
        c.in-Ok-keep.ensures.ok ∙ ap (λ vs. vs ++ v ∷ []) so_far.1 ∙ append_assoc c.args.out.now.items so_far.0 (v ∷ []),
        one_value_more c.args.limits (rest_of c.args.self.now) (rest_of c.loop-value.self) (rest_of c.next.new.self) so_far.0 v so_far.2 c.in-Ok.ensures.reads.1,
      );
      costs = omega (arith, before, costs);
    }

pub loop-value-smaller : goal.loop-value-smaller
loop-value-smaller g c = takes_a_byte c.args.limits c.requires.allowed c.args.limits.depth (rest_of c.loop-value.self) (data_of c.in-Ok.value) (rest_of c.next.new.self) c.in-Ok.ensures.reads.1

pub returns-in-Err-clause-appends : goal.returns-in-Err-clause-appends
returns-in-Err-clause-appends g c =
    let so_far = c.loop-value.invariant.read in
    (so_far.0, rest_of c.loop-value.self, c.in-Err.ensures.err ∙ so_far.1, so_far.2)
