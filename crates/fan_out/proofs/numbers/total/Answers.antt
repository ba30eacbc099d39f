use Rattle.std.proofs.Common.{to_z, arith}
use Rattle.std.proofs.lemmas.Int.{ints}
use Rattle.std.specs.Int.{w128}
use Rattle.fan_out.proofs.Summing.{sum_step}
use Rattle.fan_out.proofs.numbers.total.Goals as goal

pub loop-value-preserved : goal.loop-value-preserved
loop-value-preserved c = record {
  sum = sum_step (to_z w128 c.loop-value.total-bits) c.from-total.result c.number.result c.args.values.now c.loop-value.value-index c.value-item.result _
      (omega arith) (record { low = c.loop-value.invariant.low; high = c.loop-value.invariant.high }) (record { sfits = c.number.type_inv })
      c.loop-value-test.true c.value-item.is c.from-total.ensures c.number.ensures c.loop-value.invariant.sum;
  low = omega (arith, ints);
  high = omega (arith, ints);
}
