-- The slots of keys.
use Rattle.std.specs.Prelude.{ℕ, List, [], ◌∷◌, Option, Some, None, codes}
use Rattle.slot_hash.specs.declared.address.NodeAddress.{NodeAddress}

-- bytes, and their CRC-16: of the digits 1 to 9 it is 31C3 in hexadecimal
abbrev pub checksums : List (List ℕ × ℕ)
checksums = (codes "123456789", 12_739) ∷ ([], 0) ∷ []

-- a key, and what of it decides its slot
abbrev pub hash_tags : List (List ℕ × List ℕ)
hash_tags =
    (codes "foo", codes "foo")
    ∷ (codes "{user1000}.following", codes "user1000")
    ∷ (codes "foo{}{bar}", codes "foo{}{bar}")
    ∷ (codes "foo{{bar}}zap", codes "{bar")
    ∷ (codes "foo{bar}{zap}", codes "bar")
    ∷ (codes "foo{bar", codes "foo{bar")
    ∷ (codes "foo}bar{zap}", codes "zap")
    ∷ []

-- a key, and its slot
abbrev pub slots_of_keys : List (List ℕ × ℕ)
slots_of_keys =
    (codes "123456789", 12_739)
    ∷ (codes "foo", 12_182)
    ∷ (codes "bar", 5_061)
    ∷ (codes "baz", 4_813)
    ∷ (codes "{foo}bar", 12_182)
    ∷ (codes "foo{bar}{zap}", 5_061)
    ∷ (codes "foo{}{bar}", 8_363)
    ∷ (codes "foo{{bar}}zap", 4_015)
    ∷ ([], 0)
    ∷ []

-- a host and a port
abbrev pub node : List ℕ → ℕ → Option NodeAddress
node host port = Some (record { host = host; port = port })

-- a text, and the address that it is, if it is one
abbrev pub addresses : List (List ℕ × Option NodeAddress)
addresses =
    (codes "127.0.0.1:6381", node (codes "127.0.0.1") 6_381)
    ∷ (codes "redis.example:65535", node (codes "redis.example") 65_535)
    ∷ (codes "[::1]:6379", node (codes "::1") 6_379)
    ∷ (codes "::1:6379", node (codes "::1") 6_379)
    ∷ (codes "127.0.0.1", None)
    ∷ (codes "127.0.0.1:", None)
    ∷ (codes "127.0.0.1:65536", None)
    ∷ (codes "127.0.0.1:x", None)
    ∷ (codes ":6379", None)
    ∷ []
