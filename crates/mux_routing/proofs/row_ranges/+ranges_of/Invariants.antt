use Rattle.std.proofs.Common.{length}
use Rattle.mux_routing.proofs.row_ranges.+ranges_of.Given as goal

abbrev pub decreases-ranges_of : goal.decreases-ranges_of
decreases-ranges_of l = length l.rows.now
