use Rattle.std.proofs.Common.{◌≡◌, drop}
use Rattle.fan_out.specs.ByPart.{first_in, fault_in}
use Rattle.fan_out.proofs.by_part.first_fault.Given as goal

-- those that were passed have none
abbrev pub invariant-loop-part : goal.invariant-loop-part
invariant-loop-part l = first_in fault_in l.parts ≡ first_in fault_in (drop l.part-index l.parts)
