use Rattle.std.proofs.Common.{rules, ◌≡◌, ◌∷◌}
use Rattle.std.specs.Slice.Iter.{iter_rest}
use Rattle.mux_routing.proofs.Agreeing.{draw_kept, route_kept}
use Rattle.mux_routing.proofs.pipeline.route_with_draw.Goals as goal

pub loop-cmd-preserved : goal.loop-cmd-preserved
loop-cmd-preserved c =
    let step : iter_rest c.loop-cmd.cmd-iterator ≡ c.in-Some.cmd.now ∷ iter_rest c.next.new.self = search rules in
    record {
      route = route_kept c.args.draw c.in-Some.cmd.now _ _ c.loop-cmd.so_far.route c.in_ok-next.next.route c.in-Ok.route.route _ step c.in_ok-next.ensures.route c.in-Ok.ensures.ok c.loop-cmd.invariant.route;
      draw = draw_kept c.in-Some.cmd.now _ _ c.loop-cmd.so_far.used_draw c.in_ok-next.next.used_draw c.in-Ok.route.used_draw _ step c.in_ok-next.ensures.draw c.in-Ok.ensures.draw c.loop-cmd.invariant.draw;
    }
