use Rattle.std.proofs.Common.{◌≡◌, ◌+◌, ◌*◌, ◌-◌, ◌^◌, ◌/◌, ◌<◌, ◌≤◌, ℕ, true, sym, ap, subst, ◌∙◌, arith, length}
use Rattle.mux_routing.specs.Ranges.{are_apart, row_in}
use Rattle.mux_routing.proofs.Searching.{few, halved, lies_in, none_behind, none_to_next, nowhere_at, one_more}
use Rattle.mux_routing.proofs.range_table.RangeTable.find.Goals as goal

pub loop-low-preserved-then-slot-range : goal.loop-low-preserved-then-slot-range
loop-low-preserved-then-slot-range g c =
    let i = c.loop-low.invariant in
    let h = one_more c.args.steps.now c.loop-low.steps c.probe-range.new.steps (length c.args.self.now) (c.loop-low.high - c.loop-low.low) ((c.loop-low.high - c.loop-low.low) / 2) i.grows c.probe-range.ensures.steps (omega (arith, c.loop-low-test.true)) (omega arith) i.left in
    record {
      order = omega (arith, i.order);
      bound = omega (arith, i.order, i.bound);
      before = i.before;
      behind = none_behind 0 c.args.self.now _ c.probe-range.result c.args.slot (subst (λ rs. are_apart rs ≡ true) c.self.view_is c.self.invariant) c.probe-range.ensures.range c.if-slot-range.true;
      grows = omega (arith, i.grows, c.probe-range.ensures.steps);
      left = subst (λ k. 2 ^ (c.probe-range.new.steps - c.args.steps.now) * k ≤ length c.args.self.now) (omega arith) h.0;
      spent = h.1;
    }

pub loop-low-preserved : goal.loop-low-preserved
loop-low-preserved g c =
    let i = c.loop-low.invariant in
    let h = one_more c.args.steps.now c.loop-low.steps c.probe-range.new.steps (length c.args.self.now) (c.loop-low.high - c.loop-low.low) (c.loop-low.high - (c.loop-low.low + (c.loop-low.high - c.loop-low.low) / 2 + 1)) i.grows c.probe-range.ensures.steps (omega (arith, c.loop-low-test.true)) (omega (arith, c.loop-low-test.true)) i.left in
    record {
      order = omega (arith, c.loop-low-test.true);
      bound = i.bound;
      before = none_to_next 0 c.args.self.now _ _ c.probe-range.result c.args.slot (omega arith) (subst (λ rs. are_apart rs ≡ true) c.self.view_is c.self.invariant) c.probe-range.ensures.range c.if-range-slot.true;
      behind = i.behind;
      grows = omega (arith, i.grows, c.probe-range.ensures.steps);
      left = h.0;
      spent = h.1;
    }

pub returns-else-range-slot-clause-row : goal.returns-else-range-slot-clause-row
returns-else-range-slot-clause-row g c =
    sym (lies_in 0 c.args.self.now _ c.probe-range.result c.args.slot (subst (λ rs. are_apart rs ≡ true) c.self.view_is c.self.invariant) c.probe-range.ensures.range c.if-slot-range.false c.if-range-slot.false)

pub returns-else-range-slot-clause-steps : goal.returns-else-range-slot-clause-steps
returns-else-range-slot-clause-steps g c =
    let i = c.loop-low.invariant in
    (one_more c.args.steps.now c.loop-low.steps c.probe-range.new.steps (length c.args.self.now) (c.loop-low.high - c.loop-low.low) 0 i.grows c.probe-range.ensures.steps (omega (arith, c.loop-low-test.true)) (omega arith) i.left).1

pub returns-clause-row : goal.returns-clause-row
returns-clause-row g c =
    let i = c.loop-low.invariant in
    sym (nowhere_at c.args.self.now c.loop-low.low c.loop-low.high c.args.slot i.order c.loop-low-test.false i.before i.behind)
