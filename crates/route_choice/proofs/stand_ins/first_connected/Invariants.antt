use Rattle.std.proofs.Common.{◌≡◌, drop}
use Rattle.mux_routing.specs.Shards.{addresses}
use Rattle.route_choice.specs.Places.{first_of}
use Rattle.route_choice.proofs.stand_ins.first_connected.Given as goal

abbrev pub invariant-loop-place : goal.invariant-loop-place
invariant-loop-place l = first_of l.entries (addresses l.slots) l.places ≡ first_of l.entries (addresses l.slots) (drop l.place-index l.places)
