use Rattle.std.proofs.Common.{◌≡◌, ◌-◌, suc, sym, ap, ◌∙◌, arith}
use Rattle.resp_value.specs.View.{data_of}
use Rattle.resp_read.specs.Frames.{with_value, with_values}
use Rattle.resp_read.proofs.FrameLaws.{values_more}
use Rattle.resp_read.proofs.frames.Frame.add.Goals as goal

pub returns-in_ok-push-in-Item : goal.returns-in_ok-push-in-Item
returns-in_ok-push-in-Item c = λ inside bs.
    let v = data_of c.args.value in
    let more : c.in-Item.more ≡ suc (c.in-Item.more - 1) = omega (arith, c.if-more-eq0.false) in
    ap (λ f. with_value inside f v bs) c.in-Item.is
    ∙ (λ i. with_values inside c.in-Item.of (sym c.in_ok-push-in-Item.ensures.ok i) (more i) bs)
    ∙ values_more inside c.in-Item.of c.push.new.self (c.in-Item.more - 1) bs
