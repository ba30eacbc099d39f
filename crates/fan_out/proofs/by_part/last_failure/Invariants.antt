use Rattle.std.proofs.Common.{◌≡◌, drop}
use Rattle.std.specs.Option.{option_map, option_or}
use Rattle.fan_out.specs.ByPart.{last_in, failure_in}
use Rattle.fan_out.specs.Failures.{failure_now}
use Rattle.fan_out.proofs.by_part.last_failure.Given as goal

-- the last of those that are left, or else the last so far
abbrev pub invariant-loop-part : goal.invariant-loop-part
invariant-loop-part l = option_or (last_in failure_in (drop l.part-index l.parts)) (option_map failure_now l.last) ≡ last_in failure_in l.parts
