-- The slot of a key, and the part of a key that decides it.
use Rattle.std.specs.Prelude.{ℕ, suc, ◌+◌, ◌%◌, ◌==◌, ◌&&◌, nat_lt, List, [], ◌∷◌, length, take, drop, if◌then◌else◌}
use Rattle.slot_hash.specs.Crc.{crc16}

-- the place of a byte's first occurrence; where it has none, the length
abbrev pub place : ℕ → List ℕ → ℕ
place b [] = 0
place b (c ∷ cs) = if c == b then 0 else suc (place b cs)

-- what stands before the next `}`, or all where that is nothing or there is no `}`
abbrev pub tag_in : List ℕ → List ℕ → List ℕ
tag_in key rest = if nat_lt 0 (place 125 rest) && nat_lt (place 125 rest) (length rest) then take (place 125 rest) rest else key

-- the hash tag: the bytes between the first `{` and the next `}` after it, if there are any; else the whole key
abbrev pub hashed : List ℕ → List ℕ
hashed key = tag_in key (drop (place 123 key + 1) key)

-- how many slots there are
abbrev pub slot_count : ℕ
slot_count = 16_384

abbrev pub slot_of : List ℕ → ℕ
slot_of key = crc16 (hashed key) % slot_count
