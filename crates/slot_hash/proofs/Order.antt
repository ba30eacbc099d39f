-- Two addresses are equal where they are one.
use Rattle.std.proofs.Common.{◌≡◌, ◌==◌, ◌&&◌, Bool, true, false, refl, ap, sym, ◌∙◌, arith}
use Rattle.std.specs.Str.{bytes_eq}
use Rattle.std.proofs.lemmas.Bool.Decides.{nat_tests}
use Rattle.std.proofs.lemmas.Slice.Eq.{bytes_eq-Decides}
use Rattle.slot_hash.specs.declared.address.NodeAddress.{NodeAddress}
use Rattle.slot_hash.specs.Order.{address_eq}
use Rattle.slot_hash.specs.OrderLaws.{eq_equiv}

both_true : (s t : Bool) → (s && t) ≡ true → (s ≡ true) × (t ≡ true)
both_true true t h = (refl, h)
both_true false t h = cc

one : (a b : NodeAddress) → address_eq a b ≡ true → a ≡ b
one a b h =
    let both = both_true (bytes_eq a.host b.host) (a.port == b.port) h in
    let hosts : a.host ≡ b.host = (bytes_eq-Decides a.host b.host).0 both.0 in
    let ports : a.port ≡ b.port = grind (arith, nat_tests, both.1) in
    λ i. record { host = hosts i; port = ports i }

itself : (a b : NodeAddress) → a ≡ b → address_eq a b ≡ true
itself a b e = sym (ap (λ c. address_eq a c) e) ∙ eq_equiv.refl a

pub same_exactly : (a b : NodeAddress) → (address_eq a b ≡ true → a ≡ b) × (a ≡ b → address_eq a b ≡ true)
same_exactly a b = (one a b, itself a b)
