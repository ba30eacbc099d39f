use Rattle.std.proofs.Common.{◌≤◌, ◌-◌, length}
use Rattle.mux_routing.specs.Shards.{place_of}
use Rattle.route_choice.specs.Entries.{addresses_of}
use Rattle.route_choice.proofs.entries.place_of.Given as goal

abbrev pub invariant-loop-low : goal.invariant-loop-low
invariant-loop-low l = record {
  above : l.low ≤ place_of (addresses_of l.entries) l.address;
  below : place_of (addresses_of l.entries) l.address ≤ l.high;
  within : l.high ≤ length l.entries;
}

abbrev pub decreases-loop-low : goal.decreases-loop-low
decreases-loop-low l = l.high - l.low
