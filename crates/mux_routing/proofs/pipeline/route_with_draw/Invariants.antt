use Rattle.std.proofs.Common.{◌≡◌, ◌++◌, ◌||◌, option_to_list}
use Rattle.std.specs.Slice.Iter.{iter_rest}
use Rattle.mux_routing.specs.Routes.{agreement, agreement_of, routes_in, uses_draw}
use Rattle.mux_routing.proofs.pipeline.route_with_draw.Given as goal

abbrev pub invariant-loop-cmd : goal.invariant-loop-cmd
invariant-loop-cmd l = record {
  route : agreement_of (option_to_list l.so_far.route ++ routes_in l.draw (iter_rest l.cmd-iterator)) ≡ agreement l.draw l.pipeline.commands;
  draw : (l.so_far.used_draw || uses_draw (iter_rest l.cmd-iterator)) ≡ uses_draw l.pipeline.commands;
}
