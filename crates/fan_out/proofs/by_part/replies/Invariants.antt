use Rattle.std.proofs.Common.{◌≡◌, ◌++◌, drop, option_to_list}
use Rattle.std.specs.List.{flat_map}
use Rattle.fan_out.specs.ByPart.{addressed, replies}
use Rattle.fan_out.proofs.by_part.replies.Given as goal

-- the replies so far with what is left are all
abbrev pub invariant-loop-part : goal.invariant-loop-part
invariant-loop-part l = l.pairs ++ flat_map (λ p. option_to_list (addressed p)) (drop l.part-index l.parts) ≡ replies l.parts
