use Rattle.std.proofs.Common.{◌≡◌, Some, false, is_some, length, nat_lt, refl, ap, sym, ◌∙◌, arith}
use Rattle.std.specs.Prelude.{slice_get}
use Rattle.std.proofs.lemmas.Option.{slice_get_read, slice_get_within}
use Rattle.containers.proofs.Choices.{not_both, not_lt_from}
use Rattle.slot_hash.specs.declared.address.NodeAddress.{NodeAddress}
use Rattle.mux_routing.proofs.Members.{stands_at}
use Rattle.mux_routing.proofs.addresses.found.Goals as goal

one : (a b : NodeAddress) → Some a ≡ Some b → a ≡ b
one a b e = cc e

pub returns-in_default-clause-none : goal.returns-in_default-clause-none
returns-in_default-clause-none c = λ _ has.
    let there = stands_at c.args.address.now c.args.nodes.now c.requires has in
    let within = slice_get_within c.args.nodes.now _ c.args.address.now there in
    let look = slice_get_read c.args.nodes.now (length c.args.nodes.now) c.place_of-place.result c.in-Some.node.now refl (omega (arith, within, c.place_of-place.ensures.is)) c.in-Some.ensures.lookup.1 in
    let same : c.in-Some.node.now ≡ c.args.address.now = one c.in-Some.node.now c.args.address.now (sym look ∙ ap (slice_get c.args.nodes.now) c.place_of-place.ensures.is ∙ there) in
    not_both c.eq.result c.if-eq.false (c.eq.ensures.exact.1 same)

pub returns-in_default-2-clause-none : goal.returns-in_default-2-clause-none
returns-in_default-2-clause-none c = λ _ has.
    let there = stands_at c.args.address.now c.args.nodes.now c.requires has in
    let within = slice_get_within c.args.nodes.now _ c.args.address.now there in
    let none : nat_lt c.place_of-place.result (length c.args.nodes.now) ≡ false = sym c.get.ensures.lookup.0 ∙ ap is_some c.in_default.is in
    absurd (omega (arith, within, c.place_of-place.ensures.is, not_lt_from c.place_of-place.result (length c.args.nodes.now) none))
