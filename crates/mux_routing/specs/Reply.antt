-- The rows of slots in a reply to CLUSTER SLOTS.
use Rattle.std.specs.Prelude.{ℕ, ◌+◌, ◌==◌, ◌||◌, ◌&&◌, nat_le, nat_lt, pos, Bool, true, List, [], ◌∷◌, length, Option, Some, None, option_map, codes, if◌then◌else◌}
use Rattle.std.specs.Str.{is_utf8, bytes_eq}
use Rattle.resp_value.specs.Data.{Data, nil, int, bulk, array, simple, okay, list_of}
use Rattle.slot_hash.specs.declared.address.NodeAddress.{NodeAddress}
use Rattle.mux_routing.specs.declared.rows.SlotRow.{SlotRow}

-- the elements of an array
abbrev pub elements : Data → Option (List Data)
elements (array ds) = Some (list_of ds)
elements _ = None

abbrev pub text_of : List ℕ → Option (List ℕ)
text_of text = if is_utf8 text then Some text else None

-- the host that a node tells: a string of UTF-8, or nothing, which is the empty text
abbrev pub host_text : Data → Option (List ℕ)
host_text nil = Some []
host_text (bulk text) = text_of text
host_text (simple text) = text_of text
host_text okay = Some (codes "OK")
host_text _ = None

-- a number that is at most that
abbrev pub number_to : ℕ → Data → Option ℕ
number_to most (int (pos n)) = if nat_le n most then Some n else None
number_to most _ = None

-- the texts that stand for the host of the node that answered
abbrev pub is_answering : List ℕ → Bool
is_answering text = length text == 0 || bytes_eq text (codes "0.0.0.0") || bytes_eq text (codes "::")

-- a node is left out where its host is unknown
abbrev pub address_told : List ℕ → List ℕ → ℕ → Option NodeAddress
address_told host text port =
    if bytes_eq text (codes "?")
    then None
    else Some (record { host = (if is_answering text then host else text); port = port })

abbrev pub told : List ℕ → Option (List ℕ) → Option ℕ → Option (Option NodeAddress)
told host None port = None
told host (Some text) None = None
told host (Some text) (Some port) = Some (address_told host text port)

abbrev pub node_parts : List ℕ → Option (List Data) → Option (Option NodeAddress)
node_parts host None = None
node_parts host (Some []) = None
node_parts host (Some (h ∷ [])) = None
node_parts host (Some (h ∷ p ∷ more)) = told host (host_text h) (number_to 65_535 p)

-- a node: its address, or that it is left out; none where it isn't of the shape
unfoldable pub node_of : List ℕ → Data → Option (Option NodeAddress)
node_of host d = node_parts host (elements d)

abbrev pub added : {T : Type 0} → Option (Option T) → Option (List T) → Option (List T)
added None rest = None
added (Some item) None = None
added (Some None) (Some rest) = Some rest
added (Some (Some item)) (Some rest) = Some (item ∷ rest)

-- what isn't left out, if all is of the shape
abbrev pub all_told : {T : Type 0} → (Data → Option (Option T)) → List Data → Option (List T)
all_told read [] = Some []
all_told read (d ∷ ds) = added (read d) (all_told read ds)

-- a row is left out where its primary is
abbrev pub row_told : Option ℕ → Option ℕ → Option (Option NodeAddress) → Option (List NodeAddress) → Option (Option SlotRow)
row_told None end primary replicas = None
row_told (Some start) None primary replicas = None
row_told (Some start) (Some end) None replicas = None
row_told (Some start) (Some end) (Some primary) None = None
row_told (Some start) (Some end) (Some primary) (Some replicas) =
    if nat_le start end
    then Some (option_map (λ p. record { start = start; end = end; primary = p; replicas = replicas }) primary)
    else None

abbrev pub row_parts : List ℕ → Option (List Data) → Option (Option SlotRow)
row_parts host None = None
row_parts host (Some []) = None
row_parts host (Some (s ∷ [])) = None
row_parts host (Some (s ∷ e ∷ [])) = None
row_parts host (Some (s ∷ e ∷ p ∷ rs)) = row_told (number_to 16_383 s) (number_to 16_383 e) (node_of host p) (all_told (node_of host) rs)

unfoldable pub row_of : List ℕ → Data → Option (Option SlotRow)
row_of host d = row_parts host (elements d)

-- how many nodes the rows have
abbrev pub node_count : List SlotRow → ℕ
node_count [] = 0
node_count (r ∷ rs) = 1 + length r.replicas + node_count rs

abbrev pub few : Option (List SlotRow) → Option (List SlotRow)
few None = None
few (Some rows) = if nat_lt (node_count rows) 4_294_967_296 then Some rows else None

abbrev pub rows_in : List ℕ → Option (List Data) → Option (List SlotRow)
rows_in host None = None
rows_in host (Some ds) = few (all_told (row_of host) ds)

-- the rows of a reply that was given by the node of that host, if it is of the shape
abbrev pub rows_of : List ℕ → Data → Option (List SlotRow)
rows_of host d = rows_in host (elements d)

-- rows of slots that there are
abbrev pub in_range : List SlotRow → Bool
in_range [] = true
in_range (r ∷ rs) = nat_le r.start r.end && nat_lt r.end 16_384 && in_range rs

-- rows from which a map is made: of slots that there are, and with fewer than 2^32 nodes
abbrev pub are_rows : List SlotRow → Bool
are_rows rows = in_range rows && nat_lt (node_count rows) 4_294_967_296
