-- The laws of the order of addresses: it is total, and two tie where they are one.
use Rattle.std.proofs.Common.{◌≡◌, ◌==◌, ◌&&◌, refl, ap, ◌∙◌}
use Rattle.std.specs.declared.cmp.Ordering.{Ordering}
use Rattle.std.specs.declared.cmp.Ordering.TheVariants.{Less, Equal, Greater}
use Rattle.std.specs.Cmp.{IsEquivalence, IsPartialOrder, IsTotalOrder, partial_order_from_agreeing_total}
use Rattle.std.specs.Cmp.Lexicographic.{slice_cmp, texts_ties}
use Rattle.std.specs.Cmp.{unsigned_ties}
use Rattle.std.specs.Ordering.{as_partial_cmp, eq_by_cmp, is_eq, nat_cmp, ordering_then}
use Rattle.std.proofs.lemmas.Cmp.{and_equiv, nat_cmp_total, nat_eq_equiv, nat_list_cmp_total, nat_list_eq_equiv, on_equiv, on_total, then_total}
use Rattle.slot_hash.specs.declared.address.NodeAddress.{NodeAddress}
use Rattle.slot_hash.specs.Order.{address_cmp, address_eq}

pub cmp_total : IsTotalOrder address_cmp
cmp_total = then_total (on_total (λ a. a.host) nat_list_cmp_total) (on_total (λ a. a.port) nat_cmp_total)

pub eq_equiv : IsEquivalence address_eq
eq_equiv = and_equiv (on_equiv (λ a. a.host) nat_list_eq_equiv) (on_equiv (λ a. a.port) nat_eq_equiv)

both_tie : (first second : Ordering) → (is_eq first && is_eq second) ≡ is_eq (ordering_then first second)
both_tie Less second = refl
both_tie Equal second = refl
both_tie Greater second = refl

pub eq_ties : (a b : NodeAddress) → address_eq a b ≡ eq_by_cmp address_cmp a b
eq_ties a b =
    ap (λ t. t && a.port == b.port) (texts_ties a.host b.host)
    ∙ ap (λ t. is_eq (slice_cmp nat_cmp a.host b.host) && t) (unsigned_ties a.port b.port)
    ∙ both_tie (slice_cmp nat_cmp a.host b.host) (nat_cmp a.port b.port)

pub partial_laws : IsPartialOrder address_eq (as_partial_cmp address_cmp)
partial_laws = partial_order_from_agreeing_total address_cmp cmp_total (λ a b. refl) eq_ties
