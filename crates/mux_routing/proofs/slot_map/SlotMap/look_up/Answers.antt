use Rattle.std.proofs.Common.{◌+◌, ◌-◌, ◌*◌, ◌^◌, ◌≤◌, ◌∙◌, ap, length, subst}
use Rattle.mux_routing.specs.Kept.{AreRanges, numbered}
use Rattle.mux_routing.specs.Shards.{shard_at}
use Rattle.mux_routing.proofs.Alone.{alone}
use Rattle.mux_routing.proofs.Owning.{kept_shard}
use Rattle.mux_routing.proofs.slot_map.SlotMap.look_up.Goals as goal

pub returns-clause-shard : goal.returns-clause-shard
returns-clause-shard g c =
    c.numbered.ensures
    ∙ ap (λ ss. numbered ss c.find-number.result) c.as_slice.ensures
    ∙ ap (numbered c.self.inside.shards) c.find-number.ensures.row
    ∙ kept_shard _ _ _ _ _ c.args.slot c.self.invariant
    ∙ ap (shard_at c.args.slot) c.self.view_is

pub returns-clause-steps : goal.returns-clause-steps
returns-clause-steps g c = λ ranges h.
    subst (λ rs. 2 ^ (c.find-number.new.steps - c.args.steps.now) ≤ 2 * length rs + 1) (alone _ ranges c.args.self.now (subst (AreRanges c.self.inside.ranges) c.self.view_is c.self.invariant.ranges_are) h) c.find-number.ensures.steps
