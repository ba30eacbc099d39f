use Rattle.std.proofs.Common.{◌∙◌, ap}
use Rattle.std.specs.Prelude.{Err}
use Rattle.script_generator.specs.Summary.{counted_each}
use Rattle.script_generator.proofs.Takes.{opened, not_refused}
use Rattle.script_generator.proofs.generating.open.Goals as goal

pub unreachable-requires : goal.unreachable-requires
unreachable-requires c = not_refused c.in_ok-config.config c.in-Err-Config.field-0-0 c.in_ok-config.ensures (c.new.ensures.refused c.in-Err-Config.field-0-0 (c.in-Err-Config.is ∙ ap (λ e. Err e) c.in-Err-Config.field-0-is))

pub returns : goal.returns
returns c = opened c.in_ok-config.config c.in-Ok.session c.in_ok-config.ensures c.in-Ok.ensures.made _ _ _ _ c.requires c.clear.ensures.items c.in-Ok.ensures.actions (c.count_each.ensures ∙ ap (counted_each c.args.counts.now) c.as_slice.ensures.value)
