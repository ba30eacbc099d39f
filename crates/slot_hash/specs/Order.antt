-- The order of addresses, and when they are one.
use Rattle.std.specs.Prelude.{◌==◌, ◌&&◌, Bool}
use Rattle.std.specs.Str.{bytes_eq}
use Rattle.std.specs.Cmp.Lexicographic.{slice_cmp}
use Rattle.std.specs.declared.cmp.Ordering.{Ordering}
use Rattle.std.specs.Ordering.{nat_cmp, on, then_cmp}
use Rattle.slot_hash.specs.declared.address.NodeAddress.{NodeAddress}

-- by the bytes of the host, and then by the port
abbrev pub address_cmp : NodeAddress → NodeAddress → Ordering
address_cmp = then_cmp (on (λ a. a.host) (slice_cmp nat_cmp)) (on (λ a. a.port) nat_cmp)

-- the same host and the same port
abbrev pub address_eq : NodeAddress → NodeAddress → Bool
address_eq a b = bytes_eq a.host b.host && a.port == b.port
