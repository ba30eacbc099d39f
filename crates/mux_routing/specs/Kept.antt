-- What a map keeps: the addresses, the rows with their nodes by places, the ranges of slots with their last rows, and the
-- primaries.
use Rattle.std.specs.Prelude.{◌≡◌, ◌<◌, ℕ, suc, Bool, true, false, List, [], ◌∷◌, map, length, Option, Some, None, if◌then◌else◌}
use Rattle.std.specs.Prelude.{slice_get, slice_index_or}
use Rattle.slot_hash.specs.declared.address.NodeAddress.{NodeAddress}
use Rattle.mux_routing.specs.declared.range_table.SlotRange.{SlotRange}
use Rattle.mux_routing.specs.declared.rows.SlotRow.{SlotRow}
use Rattle.mux_routing.specs.Ranges.{are_apart, are_maximal, row_in}
use Rattle.mux_routing.specs.Shards.{Shard, addresses, holds, primaries, shards}

-- the number of the last row that holds a slot, where these rows are numbered from i on, and before them it was found
abbrev pub owner_from : ℕ → ℕ → Option ℕ → List SlotRow → Option ℕ
owner_from slot i found [] = found
owner_from slot i found (r ∷ rs) = owner_from slot (suc i) (if holds slot r then Some i else found) rs

abbrev pub owner : ℕ → List SlotRow → Option ℕ
owner slot rows = owner_from slot 0 None rows

-- the item of a number, if there is one
abbrev pub numbered : {T : Type 0} → List T → Option ℕ → Option T
numbered items None = None
numbered items (Some k) = slice_get items k

-- whether the mark of a place is set
abbrev pub mark_at : List Bool → ℕ → Bool
mark_at marks i = slice_index_or marks i false

-- ranges of the slots that rows hold, each with its last row; the rows are numbered from there on
pub record AreOwned (ranges : List SlotRange) (base : ℕ) (rows : List SlotRow) : Type 0 where
  pub apart : are_apart ranges ≡ true
  pub maximal : are_maximal ranges ≡ true
  pub each : (slot : ℕ) → row_in ranges slot ≡ owner_from slot base None rows

-- the ranges of all rows: in order, apart, as long as they can be, and right for each slot
abbrev pub AreRanges : List SlotRange → List SlotRow → Type 0
AreRanges ranges rows = AreOwned ranges 0 rows

-- the address of a place
abbrev pub address_at : List NodeAddress → ℕ → NodeAddress
address_at nodes i = slice_index_or nodes i (record { host = []; port = 0 })

-- a row, by its nodes' places
abbrev pub row_kept : List NodeAddress → Shard → SlotRow
row_kept nodes s = record { start = s.start; end = s.end; primary = address_at nodes s.primary; replicas = map (address_at nodes) s.replicas }

abbrev pub rows_kept : List NodeAddress → List Shard → List SlotRow
rows_kept nodes kept = map (row_kept nodes) kept

-- all that a map keeps of these rows
pub record AreKept (nodes : List NodeAddress) (kept : List Shard) (ranges : List SlotRange) (leaders : List ℕ) (rows : List SlotRow) : Type 0 where
  pub nodes_are : nodes ≡ addresses rows
  pub few : length nodes < 4_294_967_296
  pub shards_are : kept ≡ shards rows
  pub ranges_are : AreRanges ranges rows
  pub leaders_are : leaders ≡ primaries rows
