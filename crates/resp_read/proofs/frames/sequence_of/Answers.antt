use Rattle.std.proofs.Common.{◌≡◌, ◌-◌, suc, ap, ◌∙◌, arith}
use Rattle.resp_read.specs.Frames.{with_values}
use Rattle.resp_read.proofs.FrameLaws.{values_more}
use Rattle.resp_read.proofs.frames.sequence_of.Goals as goal

pub returns : goal.returns
returns c = λ inside bs.
    let n : c.args.count ≡ suc (c.args.count - 1) = omega arith in
    ap (λ k. with_values inside c.args.of c.args.found k bs) n ∙ values_more inside c.args.of c.args.found (c.args.count - 1) bs
