use Rattle.std.proofs.Common.{◌≡◌, ◌++◌, ◌∷◌, [], length, refl, sym, ap, subst, arith, length-append, List}
use Rattle.caller_threads.specs.declared.job.Turn.{Turn}
use Rattle.caller_threads.specs.Each.{EachAt}
use Rattle.caller_threads.proofs.Jobs.{Left, left_all, left_more, turn_left, all_left, callers_left}
use Rattle.caller_threads.proofs.gathering.gather.Goals as goal

pub loop-i-init : goal.loop-i-init
loop-i-init c =
    let e : c.new-all.result.items ≡ [] = c.new-all.ensures.items in
    (ap length e, subst (λ (l : List Turn). EachAt (Left (length c.args.jobs.now) l) 0 c.args.jobs.now c.args.jobs.now) (sym e) (left_all (length c.args.jobs.now) c.args.jobs.now))

pub unreachable-requires : goal.unreachable-requires
unreachable-requires c =
    let i = c.loop-i.invariant in
    turn_left (length c.args.jobs.now) c.loop-i.i c.args.total c.loop-i.all.items c.args.jobs.now c.loop-i.jobs c.next_turn.new.jobs
    refl c.requires.some c.loop-i-test.true i.0 c.requires.turns i.1 c.in_default.ensures

pub returns-in_err-push-clause-callers : goal.returns-in_err-push-clause-callers
returns-in_err-push-clause-callers c =
    let i = c.loop-i.invariant in
    let turn = c.in-Some.turn in
    callers_left (length c.args.jobs.now) (c.loop-i.all.items ++ turn ∷ []) c.args.jobs.now c.next_turn.new.jobs
    (left_more (length c.args.jobs.now) c.loop-i.i c.loop-i.all.items turn c.args.jobs.now c.loop-i.jobs c.next_turn.new.jobs i.0 i.1 c.in-Some.ensures)

pub loop-i-preserved : goal.loop-i-preserved
loop-i-preserved c =
    let i = c.loop-i.invariant in
    let turn = c.in-Some.turn in
    let e : c.push.new.self.items ≡ c.loop-i.all.items ++ turn ∷ [] = c.in_ok-push.ensures.items in (
      (let n = i.0 in let a = ap length e in let l = length-append c.loop-i.all.items (turn ∷ []) in omega arith),
      subst (λ (l : List Turn). EachAt (Left (length c.args.jobs.now) l) 0 c.args.jobs.now c.next_turn.new.jobs) (sym e)
          (left_more (length c.args.jobs.now) c.loop-i.i c.loop-i.all.items turn c.args.jobs.now c.loop-i.jobs c.next_turn.new.jobs i.0 i.1 c.in-Some.ensures),
    )

pub returns-clause-turns : goal.returns-clause-turns
returns-clause-turns c =
    let i = c.loop-i.invariant in
    all_left (length c.args.jobs.now) c.args.total c.loop-i.all.items c.args.jobs.now c.loop-i.jobs
    (let n = i.0 in let f = c.loop-i-test.false in let a = c.loop-i.auto.i-end in omega arith) c.requires.turns i.1

pub returns-clause-callers : goal.returns-clause-callers
returns-clause-callers c =
    let i = c.loop-i.invariant in
    callers_left (length c.args.jobs.now) c.loop-i.all.items c.args.jobs.now c.loop-i.jobs i.1
