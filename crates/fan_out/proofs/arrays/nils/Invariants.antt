use Rattle.std.proofs.Common.{◌≡◌, replicate}
use Rattle.resp_value.specs.Data.{nil}
use Rattle.resp_value.specs.View.{list_view}
use Rattle.fan_out.proofs.arrays.nils.Given as goal

abbrev pub invariant-loop : goal.invariant-loop
invariant-loop l = list_view l.row ≡ replicate l.counter nil
