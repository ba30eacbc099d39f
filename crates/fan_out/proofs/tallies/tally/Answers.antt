use Rattle.std.proofs.Common.{◌≡◌, ◌+ℤ◌, map, take, ap, ap₂, sym, ◌∙◌, subst, arith, rules}
use Rattle.std.proofs.lemmas.Int.{to_z-of_z}
use Rattle.std.specs.Int.{w64, w128}
use Rattle.std.specs.Prelude.{FitsSigned}
use Rattle.std.specs.BTreeMap.{insert_entry}
use Rattle.fan_out.specs.Tallies.{byte_order, count_now, number_of}
use Rattle.fan_out.proofs.Tallying.{fits_once_more, still_within, tallied}
use Rattle.fan_out.proofs.tallies.tally.Goals as goal

pub add-requires : goal.add-requires
add-requires c =
    let x = c.count-item.result in
    let fits : FitsSigned w64 c.count-item.result.1 = search rules in
    let base = fits_once_more c.loop-count.totals (map count_now (take c.loop-count.count-index c.args.counts.now)) x.0.now x.1 c.loop-count.count-index (omega arith)
    c.loop-count.invariant.so_far (c.loop-count.invariant.within x.0.now) fits in
    subst (FitsSigned w128) (sym (ap₂ ◌+ℤ◌ (ap (λ n. number_of n c.loop-count.totals) c.as_slice.ensures) (to_z-of_z w64 x.1 fits))) base

pub loop-count-preserved : goal.loop-count-preserved
loop-count-preserved c =
    let x = c.count-item.result in
    let fits : FitsSigned w64 c.count-item.result.1 = search rules in
    let name = c.as_slice.ensures in
    let number = to_z-of_z w64 x.1 fits in
    let added : c.add.new.self ≡ insert_entry byte_order c.loop-count.totals x.0.now (number_of x.0.now c.loop-count.totals +ℤ x.1) =
    c.in_ok-add.ensures ∙ (λ i. insert_entry byte_order c.loop-count.totals (name i) (number_of (name i) c.loop-count.totals +ℤ number i)) in
    record {
      so_far = tallied c.loop-count.totals c.add.new.self c.args.counts.now c.loop-count.count-index x c.loop-count-test.true c.count-item.is c.loop-count.invariant.so_far added;
      within = λ name. still_within name c.args.counts.now c.loop-count.count-index x c.loop-count-test.true c.count-item.is fits (c.loop-count.invariant.within name);
    }
