use Rattle.std.proofs.Common.{sym, ◌∙◌, ap}
use Rattle.cluster_plan.specs.declared.asks.Part.TheVariants.{Attempt}
use Rattle.cluster_plan.specs.declared.repair.AttemptStep.TheVariants.{Asks, Connected}
use Rattle.cluster_plan.specs.Repair.{repairing}
use Rattle.cluster_plan.proofs.Attempting.{next_attempts}
use Rattle.cluster_plan.proofs.repair.Repair.next.Goals as goal

pub returns-in_ok-address-in-Asks : goal.returns-in_ok-address-in-Asks
returns-in_ok-address-in-Asks c =
    let r = c.args.self.now in
    ap (λ a. repairing c.args.entries.now c.args.slots.now (record { part = Attempt r.attempt; address = a; request = c.in-Asks.request })) c.in_ok-address-in-Asks.ensures
    ∙ next_attempts r (Asks c.in-Asks.request) c.state_at-state.result c.link_in.result c.args.entries.now c.args.slots.now c.state_at-state.ensures
    (sym c.if-is_connected.ensures) (sym c.if-not-is_among.ensures) (sym c.if-not-is_set.ensures) c.link_in.ensures c.in-Asks.ensures

pub returns-in-Connected : goal.returns-in-Connected
returns-in-Connected c =
    next_attempts c.args.self.now (Connected c.in-Connected.link) c.state_at-state.result c.link_in.result c.args.entries.now c.args.slots.now c.state_at-state.ensures
    (sym c.if-is_connected.ensures) (sym c.if-not-is_among.ensures) (sym c.if-not-is_set.ensures) c.link_in.ensures c.in-Connected.ensures
