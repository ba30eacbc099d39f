use Rattle.std.proofs.Common.{rules, ◌≡◌, ◌∷◌, length, refl, sym, ap, subst, arith}
use Rattle.session_callers.specs.Rule.{Each}
use Rattle.caller_threads.specs.Jobs.{IsNew}
use Rattle.caller_threads.proofs.Places.{each_more}
use Rattle.caller_threads.proofs.Jobs.{seated_more}
use Rattle.caller_threads.proofs.seating.seat.Goals as goal

pub loop-caller-preserved : goal.loop-caller-preserved
loop-caller-preserved c =
    let i = c.loop-caller.invariant in
    let e : c.loop-caller.rest ≡ c.in-Some.caller ∷ c.pop_front.new.self = c.in-Some.ensures in
    let p = c.push_reserved.ensures.items in (
      seated_more c.loop-caller.jobs.items c.push_reserved.new.self.items _ c.loop-caller.rest c.pop_front.new.self _ p e i.0,
      subst (Each IsNew) (sym p) (each_more IsNew c.loop-caller.jobs.items _ i.1 (record { lines = search rules; turns = search rules; error = refl })),
      (let n = i.2 in let l = c.push_reserved.ensures.len in let k = c.push_reserved.ensures.capacity in let q = ap length e in omega arith),
    )
