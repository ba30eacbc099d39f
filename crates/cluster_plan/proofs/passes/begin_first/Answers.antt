use Rattle.std.proofs.Common.{◌++◌, ◌∙◌, sym, ap}
use Rattle.redis_error.specs.declared.redis_error.RedisError.TheVariants.{NotFound}
use Rattle.cluster_plan.specs.declared.state.Pass.{Pass}
use Rattle.cluster_plan.specs.Recovering.{first_from, plan_of}
use Rattle.cluster_plan.specs.Refresh.{after_second, second_replies, until_good, visited}
use Rattle.cluster_plan.proofs.Going.{first_over, goes_first}
use Rattle.cluster_plan.proofs.passes.begin_first.Goals as goal

pub returns-in-Some-connected_link-clause-is : goal.returns-in-Some-connected_link-clause-is
unfolding plan_of
returns-in-Some-connected_link-clause-is c =
    let p : Pass = record { passed = c.loop-here.passed; here = c.in-Some.here; rest = c.pop_front.new.self } in
    λ more.
    ap (λ slots. first_from p slots c.in-Some-connected_link.link more) c.loop-here.invariant.2
    ∙ goes_first p (c.args.front ++ c.args.others) c.loop-here.rest c.args.others c.args.slots c.in-Some-connected_link.link more
    c.in-Some.ensures c.loop-here.invariant.0 (sym c.connected_link.ensures ∙ c.in-Some-connected_link.is) c.loop-here.invariant.1

pub returns-clause-is : goal.returns-clause-is
returns-clause-is c =
    let entries = c.from_vec-entries.ensures ∙ c.into_vec.ensures in
    λ more.
    first_over c.begin_second-state.result c.loop-here.passed (c.args.front ++ c.args.others) c.loop-here.rest c.args.others c.args.slots more
    c.in_default.ensures.0 c.loop-here.invariant.0 c.loop-here.invariant.1
    (λ m. c.begin_second-state.ensures.is m
    ∙ (λ i. after_second (c.new.ensures i ++ visited (entries i) m) (c.loop-here.invariant.2 i) m (until_good NotFound (second_replies (entries i) m))))
