-- Rows of slots: what replies tell, and which row has a slot.
use Rattle.std.specs.Prelude.{ℕ, pos, List, [], ◌∷◌, Option, Some, None, option_map, codes}
use Rattle.resp_value.specs.Data.{Data, nil, int, bulk, array, dict, simple, items_of, members_of}
use Rattle.slot_hash.specs.declared.address.NodeAddress.{NodeAddress}
use Rattle.mux_routing.specs.declared.rows.SlotRow.{SlotRow}
use Rattle.mux_routing.specs.Reply.{rows_of}
use Rattle.mux_routing.specs.Shards.{last_row}

-- what a reply tells that the node of the host answer.host gave
abbrev pub rows_told : Data → Option (List SlotRow)
rows_told reply = rows_of (codes "answer.host") reply

abbrev pub list : List Data → Data
list ds = array (items_of ds)

-- a node: its host, its port, its id and its metadata
abbrev pub node : Data → ℕ → Data → Data
node host port metadata = list (host ∷ int (pos port) ∷ bulk (codes "09dbe9720cda62f7865eabc5fd8857c5d2678366") ∷ metadata ∷ [])

-- a row: its first and its last slot, and its nodes
abbrev pub row : ℕ → ℕ → List Data → Data
row start end nodes = list (int (pos start) ∷ int (pos end) ∷ nodes)

abbrev pub address : List ℕ → ℕ → NodeAddress
address host port = record { host = host; port = port }

abbrev pub of_nodes : ℕ → ℕ → NodeAddress → List NodeAddress → SlotRow
of_nodes start end primary replicas = record { start = start; end = end; primary = primary; replicas = replicas }

-- no metadata, as an array and as a map, and a name of the host in each
abbrev pub no_array : Data
no_array = list []

abbrev pub no_map : Data
no_map = dict (members_of [])

abbrev pub name_array : Data
name_array = list (bulk (codes "hostname") ∷ bulk (codes "a.example") ∷ [])

abbrev pub name_map : Data
name_map = dict (members_of ((bulk (codes "hostname"), bulk (codes "a.example")) ∷ []))

-- replies of one row: a host of nothing, of 0.0.0.0 or of :: is the one that answered, and a node of the host ? is left out
abbrev pub hosts_told : List (Data × Option (List SlotRow))
hosts_told =
    (list (row 0 100 (node (bulk (codes "::")) 7_000 no_array ∷ []) ∷ []), Some (of_nodes 0 100 (address (codes "answer.host") 7_000) [] ∷ []))
    ∷ (list (row 0 100 (node (simple (codes "0.0.0.0")) 7_000 no_map ∷ []) ∷ []), Some (of_nodes 0 100 (address (codes "answer.host") 7_000) [] ∷ []))
    ∷ (list (row 0 100 (node nil 7_000 no_map ∷ []) ∷ []), Some (of_nodes 0 100 (address (codes "answer.host") 7_000) [] ∷ []))
    ∷ (list (row 5 5 (node (bulk (codes "2001:db8::1")) 1 name_array ∷ []) ∷ []), Some (of_nodes 5 5 (address (codes "2001:db8::1") 1) [] ∷ []))
    ∷ (list (row 5 5 (node (bulk (codes "a")) 1 name_map ∷ node (bulk (codes "?")) 2 no_map ∷ node (bulk (codes "b")) 3 no_map ∷ []) ∷ []), Some (of_nodes 5 5 (address (codes "a") 1) (address (codes "b") 3 ∷ []) ∷ []))
    ∷ (list (row 5 5 (node (bulk (codes "?")) 1 no_array ∷ node (bulk (codes "b")) 3 no_array ∷ []) ∷ []), Some [])
    ∷ (list [], Some [])
    ∷ []

-- replies that have no rows: a slot or a port too great, a first slot behind the last, a row or a node cut short, no list
abbrev pub no_rows : List (Data × Option (List SlotRow))
no_rows =
    (list (row 0 16_384 (node (bulk (codes "a")) 1 no_array ∷ []) ∷ []), None)
    ∷ (list (row 0 1 (node (bulk (codes "a")) 65_536 no_array ∷ []) ∷ []), None)
    ∷ (list (row 2 1 (node (bulk (codes "a")) 1 no_array ∷ []) ∷ []), None)
    ∷ (list (row 0 1 [] ∷ []), None)
    ∷ (list (row 0 1 (list (bulk (codes "a") ∷ []) ∷ []) ∷ []), None)
    ∷ (nil, None)
    ∷ []

-- two rows, of which the second has slots of the first
abbrev pub two_rows : List SlotRow
two_rows = of_nodes 0 100 (address (codes "a") 1) [] ∷ of_nodes 50 60 (address (codes "b") 1) [] ∷ []

-- the primary of a slot in those rows
abbrev pub primary_of : ℕ → Option NodeAddress
primary_of slot = option_map (λ r. r.primary) (last_row slot two_rows)

-- slots with their primaries: of two rows that have a slot the last one counts
abbrev pub primaries_of_slots : List (ℕ × Option NodeAddress)
primaries_of_slots =
    (0, Some (address (codes "a") 1))
    ∷ (49, Some (address (codes "a") 1))
    ∷ (50, Some (address (codes "b") 1))
    ∷ (60, Some (address (codes "b") 1))
    ∷ (61, Some (address (codes "a") 1))
    ∷ (101, None)
    ∷ []
