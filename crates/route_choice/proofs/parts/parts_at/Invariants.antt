use Rattle.std.proofs.Common.{◌≡◌, ◌++◌, drop}
use Rattle.mux_routing.specs.Shards.{addresses}
use Rattle.route_choice.specs.Parts.{parts_at}
use Rattle.route_choice.proofs.parts.parts_at.Given as goal

abbrev pub invariant-loop-place : goal.invariant-loop-place
invariant-loop-place l =
    l.found.items ++ parts_at l.entries (addresses l.slots) (drop l.place-index l.places) ≡ parts_at l.entries (addresses l.slots) l.places
