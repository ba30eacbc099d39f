use Rattle.std.proofs.Common.{◌≡◌, pos, map, if◌then◌else◌}
use Rattle.std.specs.List.{list_all, range_with_len}
use Rattle.resp_value.specs.Data.{int}
use Rattle.fan_out.specs.Numbers.{above_at}
use Rattle.fan_out.proofs.numbers.all_above.Given as goal

-- the places so far
abbrev pub invariant-loop-place : goal.invariant-loop-place
invariant-loop-place l = l.row ≡ map (λ place. int (if list_all (above_at place) (map (λ v. v.now) l.values) then pos 1 else pos 0)) (range_with_len 0 l.place)
