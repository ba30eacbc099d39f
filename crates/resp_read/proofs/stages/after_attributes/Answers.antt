use Rattle.std.proofs.Common.{Some, sym, ap, ◌∙◌}
use Rattle.resp_read.specs.Parser.{attribute_of, count_line}
use Rattle.resp_read.specs.declared.frames.Pairing.TheVariants.{Attributes}
use Rattle.resp_read.specs.Frames.{with_pairs}
use Rattle.resp_read.specs.Limits.{bounds}
use Rattle.resp_read.proofs.StageLaws.{then_is}
use Rattle.resp_read.proofs.stages.after_attributes.Goals as goal

pub returns-in-Some : goal.returns-in-Some
returns-in-Some c = (
  tt,
  λ inside.
      let h = then_is c.args.limits (count_line (bounds c.args.limits) 0 (Some c.args.limits.count)) c.args.line.now c.requires.fits (attribute_of inside) c.in-Some.n (sym c.read_count.ensures.is ∙ c.in-Some.is) in
      (λ m. h.0 m ∙ ap (λ found. with_pairs inside Attributes found c.in-Some.n m) (sym c.new.ensures) ∙ c.pairing_of-begun.ensures inside m, h.1),
)
