use Rattle.std.proofs.Common.{◌≡◌, [], map, sym, subst, ap, length, arith}
use Rattle.cluster_plan.specs.declared.recovery_kind.RecoveryKind.TheVariants as kind
use Rattle.cluster_plan.specs.Plan.{plan}
use Rattle.cluster_plan.specs.Repairing.{plan_by, repair_from}
use Rattle.cluster_examples.specs.Turns.{turns}
use Rattle.cluster_examples.proofs.Turning.{TurnsOf, is_its_step, node_told, none_yet, room_told, turn_ends, turn_told}
use Rattle.cluster_examples.proofs.turns.repair_turns.Goals as goal

pub loop-rest-init : goal.loop-rest-init
loop-rest-init c =
    let entries = c.args.entries.now in
    let rows = c.args.slots.now in (
      c.begin-repair.ensures.address,
      omega (arith, c.begin-repair.ensures.attempt, ap length c.from_vec-rest.ensures),
      none_yet (repair_from c.begin-repair.result entries rows) (plan (kind.Repair c.args.address) [] entries rows c.args.attempts) c.args.address entries rows c.new-steps.result c.from_vec-rest.result
          c.args.told.items c.new-steps.ensures c.from_vec-rest.ensures (c.begin-repair.ensures.goes_on [] entries rows),
    )

pub tell-goes_on-requires : goal.tell-goes_on-requires
tell-goes_on-requires c = record {
  given = is_its_step c.loop-rest.repair c.in_ok-step.step c.args.entries.now c.args.slots.now c.in_ok-step.ensures;
  room = omega (arith, c.loop-rest.invariant.1, c.requires);
}

pub loop-rest-preserved : goal.loop-rest-preserved
loop-rest-preserved c =
    let entries = c.args.entries.now in
    let rows = c.args.slots.now in
    let a = c.args.address in
    let old = c.loop-rest.repair in
    let later = c.tell-goes_on.new.repair in
    let s = c.in_ok-step.step in
    let before = c.loop-rest.rest in
    let rest = c.tell-goes_on.new.told in
    let whole = turns (plan (kind.Repair a) [] entries rows c.args.attempts) c.args.told.items in (
      node_told old later s before rest a c.loop-rest.invariant.0 c.if-not-goes_on.ensures,
      omega (arith, room_told old later s before rest c.if-not-goes_on.ensures, c.loop-rest.invariant.1),
      subst (λ steps. TurnsOf a entries rows steps (turns (repair_from later entries rows) rest) whole) (sym c.in_ok-push.ensures.ok)
          (turn_told old later s before rest a entries rows c.loop-rest.steps whole c.in_ok-step.ensures c.if-not-goes_on.ensures c.loop-rest.invariant.2),
    )

pub loop-rest-smaller : goal.loop-rest-smaller
loop-rest-smaller c =
    (room_told c.loop-rest.repair c.tell-goes_on.new.repair c.in_ok-step.step c.loop-rest.rest c.tell-goes_on.new.told c.if-not-goes_on.ensures).1

pub returns-then-not-goes_on : goal.returns-then-not-goes_on
returns-then-not-goes_on c =
    let entries = c.args.entries.now in
    let rows = c.args.slots.now in
    let a = c.args.address in
    let whole = turns (plan (kind.Repair a) [] entries rows c.args.attempts) c.args.told.items in
    subst (λ steps. map (plan_by a entries rows) steps ≡ whole) (sym c.in_ok-push.ensures.ok)
    (turn_ends c.loop-rest.repair c.tell-goes_on.new.repair c.in_ok-step.step c.loop-rest.rest c.tell-goes_on.new.told a entries rows c.loop-rest.steps whole c.loop-rest.invariant.0
    c.in_ok-step.ensures c.if-not-goes_on.ensures c.loop-rest.invariant.2)
