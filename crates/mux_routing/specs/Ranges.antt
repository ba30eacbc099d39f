-- Ranges of slots, each with the number of the row that has them.
use Rattle.std.specs.Prelude.{ℕ, suc, ◌==◌, ◌&&◌, not, nat_le, nat_lt, Bool, true, List, [], ◌∷◌, Option, Some, None, if◌then◌else◌}
use Rattle.mux_routing.specs.declared.range_table.SlotRange.{SlotRange}

-- whether a slot lies in a range
abbrev pub covers : SlotRange → ℕ → Bool
covers r slot = nat_le r.start slot && nat_le slot r.end

-- the row of the range in which a slot lies, if there is one
abbrev pub row_in : List SlotRange → ℕ → Option ℕ
row_in [] slot = None
row_in (r ∷ rs) slot = if covers r slot then Some r.row else row_in rs slot

-- ranges of slots that there are, in order and apart, and none of a slot before the first
abbrev pub are_apart_from : ℕ → List SlotRange → Bool
are_apart_from first [] = true
are_apart_from first (r ∷ rs) = nat_le first r.start && nat_le r.start r.end && nat_lt r.end 16_384 && are_apart_from (suc r.end) rs

abbrev pub are_apart : List SlotRange → Bool
are_apart ranges = are_apart_from 0 ranges

-- whether a range goes on in the next one
abbrev pub goes_on : SlotRange → SlotRange → Bool
goes_on r next = (suc r.end == next.start) && (r.row == next.row)

-- each range is as long as it can be: none goes on in the next one
abbrev pub are_maximal : List SlotRange → Bool
are_maximal [] = true
are_maximal (r ∷ []) = true
are_maximal (r ∷ q ∷ rs) = not (goes_on r q) && are_maximal (q ∷ rs)

-- a range put behind others; where the last of these goes on in it, the two are one
abbrev pub with_range : List SlotRange → SlotRange → List SlotRange
with_range [] next = next ∷ []
with_range (r ∷ []) next = if goes_on r next then record { start = r.start; end = next.end; row = r.row } ∷ [] else r ∷ next ∷ []
with_range (r ∷ q ∷ rs) next = r ∷ with_range (q ∷ rs) next

-- the slots from one to another put behind ranges, if a row has them
abbrev pub with_stretch : List SlotRange → ℕ → ℕ → Option ℕ → List SlotRange
with_stretch ranges start end None = ranges
with_stretch ranges start end (Some row) = with_range ranges (record { start = start; end = end; row = row })

-- of ranges in order, none ends before a slot
abbrev pub reach : ℕ → List SlotRange → Bool
reach slot [] = true
reach slot (r ∷ rs) = nat_le slot r.end
