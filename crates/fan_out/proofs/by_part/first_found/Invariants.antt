use Rattle.std.proofs.Common.{◌≡◌, drop}
use Rattle.fan_out.specs.ByPart.{first_in, found_in}
use Rattle.fan_out.proofs.by_part.first_found.Given as goal

-- those that were passed say nothing
abbrev pub invariant-loop-part : goal.invariant-loop-part
invariant-loop-part l = first_in found_in l.parts ≡ first_in found_in (drop l.part-index l.parts)
