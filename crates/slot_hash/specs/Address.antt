-- The address of a node, as a text.
use Rattle.std.specs.Prelude.{ℕ, suc, ◌-◌, ◌==◌, ◌&&◌, ◌||◌, nat_lt, nat_le, List, [], ◌∷◌, ◌++◌, length, take, drop, get_or, decimal, Option, Some, None, if◌then◌else◌}
use Rattle.std.specs.Str.{is_utf8, all_ascii_digits}
use Rattle.std.specs.Str.Parse.{digits_value}
use Rattle.slot_hash.specs.declared.address.NodeAddress.{NodeAddress}

-- how many bytes stand up to the last occurrence of a byte, with it; where it has none, 0
abbrev pub end_of_last : ℕ → List ℕ → ℕ
end_of_last b [] = 0
end_of_last b (c ∷ cs) = if nat_lt 0 (end_of_last b cs) || c == b then suc (end_of_last b cs) else 0

-- a host without the brackets round it, if it has them
abbrev pub bare : List ℕ → List ℕ
bare host =
    if nat_le 2 (length host) && get_or host 0 0 == 91 && get_or host (length host - 1) 0 == 93
    then take (length host - 2) (drop 1 host)
    else host

-- the port that some digits are: at least one, and a number of at most 16 bits
abbrev pub port_of : List ℕ → Option ℕ
port_of digits = if nat_lt 0 (length digits) && all_ascii_digits digits && nat_le (digits_value 10 digits) 65_535 then Some (digits_value 10 digits) else None

-- a host that isn't empty, and a port
abbrev pub joined : List ℕ → Option ℕ → Option NodeAddress
joined [] port = None
joined (h ∷ hs) None = None
joined (h ∷ hs) (Some port) = Some (record { host = h ∷ hs; port = port })

-- the address that a text is, if it is one: the last colon ends the host, in brackets or not, and a port follows
abbrev pub address_of : List ℕ → Option NodeAddress
address_of text =
    if is_utf8 text && nat_lt 0 (end_of_last 58 text)
    then joined (bare (take (end_of_last 58 text - 1) text)) (port_of (drop (end_of_last 58 text) text))
    else None

-- the text of an address: the host, a colon, and the port in decimal digits
abbrev pub address_text : NodeAddress → List ℕ
address_text a = a.host ++ 58 ∷ decimal a.port
