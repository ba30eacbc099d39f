use Rattle.std.proofs.Common.{arith, ◌-◌, ℕ, refl, ap, ◌∙◌}
use Rattle.live_run.proofs.Later.{sought_start, sought_more, sought_place, sought_within}
use Rattle.live_run.proofs.timers.add_timer.Goals as goal

pub loop-before-init : goal.loop-before-init
loop-before-init c =
    sought_start c.args.next.due (c.len-place.result - 1) c.args.timers.now c.push_back.new.self c.args.next c.in_ok-push_back.ensures.ok
    (ap (λ (k : ℕ). k - 1) c.len-place.ensures)

pub later_before-requires : goal.later_before-requires
later_before-requires c = let l = sought_within c.args.next.due c.loop-before.place c.args.timers.now c.loop-before.timers c.loop-before.invariant in omega (arith, l)

pub set-requires : goal.set-requires
set-requires c = sought_within c.args.next.due c.loop-before.place c.args.timers.now c.loop-before.timers c.loop-before.invariant

pub loop-before-preserved : goal.loop-before-preserved
loop-before-preserved c = sought_more c.loop-before.invariant c.in-Some.ensures c.set.ensures refl

pub set-requires-2 : goal.set-requires-2
set-requires-2 c = sought_within c.args.next.due c.loop-before.place c.args.timers.now c.loop-before.timers c.loop-before.invariant

pub returns : goal.returns
returns c = c.set-2.ensures ∙ sought_place c.args.next c.loop-before.invariant c.in_default.ensures
