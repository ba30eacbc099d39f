-- Parts to all nodes, or to all primaries, go to each once.
use Rattle.std.proofs.Common.{◌≡◌, ℕ, zero, suc, ◌<◌, nat_lt, ◌&&◌, Bool, true, false, List, [], ◌∷◌, ◌++◌, map, length, Option, Some, None, refl, sym, subst, arith, if◌then◌else◌}
use Rattle.std.specs.Prelude.{option_and_then, slice_get}
use Rattle.std.specs.List.{list_all}
use Rattle.std.proofs.lemmas.Bool.Decides.{nat_tests}
use Rattle.std.proofs.lemmas.List.{append-nil}
use Rattle.containers.proofs.Choices.{both_left, both_right, lt_from}
use Rattle.slot_hash.specs.declared.address.NodeAddress.{NodeAddress}
use Rattle.command_table.specs.declared.routing.MultipleNodeRoutingInfo.TheVariants.{AllNodes, AllMasters, MultiSlot}
use Rattle.mux_routing.specs.Shards.{Shard, address_less, addresses, first_numbers, in_order, leading_below, leads, node_places, primaries, shards}
use Rattle.cluster_plan.specs.declared.connections.NodeEntry.{NodeEntry}
use Rattle.route_choice.specs.declared.targets.NodeLink.{NodeLink}
use Rattle.route_choice.specs.Entries.{before_others}
use Rattle.route_choice.specs.Parts.{part_at, part_resolution, parts_at, those_there}
use Rattle.route_choice.specs.PartLaws.{EachNodeOnce}
use Rattle.route_choice.proofs.Keeping.{both}
use Rattle.route_choice.proofs.PartsLinked.{led_part, nodes_are}

-- places that rise
rising : List ℕ → Bool
rising [] = true
rising (p ∷ ps) = list_all (nat_lt p) ps && rising ps

below : ℕ → List ℕ → Bool
below n ps = list_all (λ p. nat_lt p n) ps

above_end : (p n : ℕ) (ps : List ℕ) → nat_lt p n ≡ true → list_all (nat_lt p) ps ≡ true → list_all (nat_lt p) (ps ++ n ∷ []) ≡ true
above_end p n [] l h = both (nat_lt p n) true l refl
above_end p n (q ∷ ps) l h =
    both (nat_lt p q) (list_all (nat_lt p) (ps ++ n ∷ [])) (both_left (nat_lt p q) (list_all (nat_lt p) ps) h) (above_end p n ps l (both_right (nat_lt p q) (list_all (nat_lt p) ps) h))

rising_end : (n : ℕ) (ps : List ℕ) → below n ps ≡ true → rising ps ≡ true → rising (ps ++ n ∷ []) ≡ true
unfolding rising below
rising_end n [] h g = refl
rising_end n (p ∷ ps) h g =
    both (list_all (nat_lt p) (ps ++ n ∷ [])) (rising (ps ++ n ∷ []))
    (above_end p n ps (both_left (nat_lt p n) (below n ps) h) (both_left (list_all (nat_lt p) ps) (rising ps) g))
    (rising_end n ps (both_right (nat_lt p n) (below n ps) h) (both_right (list_all (nat_lt p) ps) (rising ps) g))

less_next : (p n : ℕ) → nat_lt p n ≡ true → nat_lt p (suc n) ≡ true
less_next p n h = grind (arith, nat_tests)

next_itself : (n : ℕ) → nat_lt n (suc n) ≡ true
next_itself n = grind (arith, nat_tests)

below_next : (n : ℕ) (ps : List ℕ) → below n ps ≡ true → below (suc n) ps ≡ true
unfolding below
below_next n [] h = refl
below_next n (p ∷ ps) h = both (nat_lt p (suc n)) (below (suc n) ps) (less_next p n (both_left (nat_lt p n) (below n ps) h)) (below_next n ps (both_right (nat_lt p n) (below n ps) h))

below_end : (n : ℕ) (ps : List ℕ) → below n ps ≡ true → below (suc n) (ps ++ n ∷ []) ≡ true
unfolding below
below_end n [] h = both (nat_lt n (suc n)) true (next_itself n) refl
below_end n (p ∷ ps) h = both (nat_lt p (suc n)) (below (suc n) (ps ++ n ∷ [])) (less_next p n (both_left (nat_lt p n) (below n ps) h)) (below_end n ps (both_right (nat_lt p n) (below n ps) h))

abbrev Rise : ℕ → List ℕ → Type 0
Rise n ps = (below n ps ≡ true) × (rising ps ≡ true)

with_next : (n : ℕ) (ps : List ℕ) (is : Bool) → Rise n ps → Rise (suc n) (ps ++ (if is then n ∷ [] else []))
with_next n ps true h = (below_end n ps h.0, rising_end n ps h.0 h.1)
with_next n ps false h = subst (Rise (suc n)) (sym (append-nil ps)) (below_next n ps h.0, h.1)

none_rise : Rise 0 []
unfolding rising below
none_rise = (refl, refl)

numbers_rise : (n : ℕ) → Rise n (first_numbers n)
numbers_rise zero = none_rise
numbers_rise (suc n) = with_next n (first_numbers n) true (numbers_rise n)

leading_rise : (n : ℕ) (all : List Shard) → Rise n (leading_below n all)
leading_rise zero all = none_rise
leading_rise (suc n) all = with_next n (leading_below n all) (leads n all) (leading_rise n all)

-- of addresses in order one at an earlier place comes before one at a later
before_at : (a : NodeAddress) (nodes : List NodeAddress) (q : ℕ) (b : NodeAddress) → list_all (address_less a) nodes ≡ true → slice_get nodes q ≡ Some b → address_less a b ≡ true
before_at a [] q b h e = cc
before_at a (x ∷ nodes) zero b h e =
    let is : x ≡ b = cc e in
    subst (λ c. address_less a c ≡ true) is (both_left (address_less a x) (list_all (address_less a) nodes) h)
before_at a (x ∷ nodes) (suc q) b h e = before_at a nodes q b (both_right (address_less a x) (list_all (address_less a) nodes) h) e

ordered_at : (nodes : List NodeAddress) (p q : ℕ) (a b : NodeAddress) → in_order nodes ≡ true → p < q → slice_get nodes p ≡ Some a → slice_get nodes q ≡ Some b → address_less a b ≡ true
ordered_at [] p q a b h l e g = cc
ordered_at (x ∷ nodes) p zero a b h l e g = absurd (omega (arith, l))
ordered_at (x ∷ nodes) zero (suc q) a b h l e g =
    let is : x ≡ a = cc e in
    subst (λ c. address_less c b ≡ true) is (before_at x nodes q b (both_left (list_all (address_less x) nodes) (in_order nodes) h) g)
ordered_at (x ∷ nodes) (suc p) (suc q) a b h l e g = ordered_at nodes p q a b (both_right (list_all (address_less x) nodes) (in_order nodes) h) (omega (arith, l)) e g

abbrev named : List NodeLink → List NodeAddress
named found = map (λ node. node.address) found

abbrev found_at : List NodeEntry → List NodeAddress → ℕ → Option NodeLink
found_at entries nodes place = option_and_then (part_at entries) (slice_get nodes place)

-- a part comes before those at later places
ahead_by : (entries : List NodeEntry) (nodes : List NodeAddress) (p q : ℕ) (a : NodeAddress) (found : Option NodeLink) (others : List NodeLink) → in_order nodes ≡ true → slice_get nodes p ≡ Some a → nat_lt p q ≡ true → found_at entries nodes q ≡ found → list_all (address_less a) (named others) ≡ true → list_all (address_less a) (named (before_others found others)) ≡ true
ahead_by entries nodes p q a None others h e l at rest = rest
ahead_by entries nodes p q a (Some node) others h e l at rest =
    both (address_less a node.address) (list_all (address_less a) (named others))
    (ordered_at nodes p q a node.address h (lt_from p q l) e (sym (led_part entries (slice_get nodes q) node at)))
    rest

ahead_of : (entries : List NodeEntry) (nodes : List NodeAddress) (p : ℕ) (a : NodeAddress) (places : List ℕ) → in_order nodes ≡ true → slice_get nodes p ≡ Some a → list_all (nat_lt p) places ≡ true → list_all (address_less a) (named (those_there (parts_at entries nodes places))) ≡ true
ahead_of entries nodes p a [] h e l = refl
ahead_of entries nodes p a (q ∷ more) h e l =
    ahead_by entries nodes p q a (found_at entries nodes q) (those_there (parts_at entries nodes more)) h e
    (both_left (nat_lt p q) (list_all (nat_lt p) more) l) refl
    (ahead_of entries nodes p a more h e (both_right (nat_lt p q) (list_all (nat_lt p) more) l))

once_by : (entries : List NodeEntry) (nodes : List NodeAddress) (p : ℕ) (more : List ℕ) (found : Option NodeLink) → in_order nodes ≡ true → list_all (nat_lt p) more ≡ true → found_at entries nodes p ≡ found → in_order (named (those_there (parts_at entries nodes more))) ≡ true → in_order (named (before_others found (those_there (parts_at entries nodes more)))) ≡ true
once_by entries nodes p more None h l at rest = rest
once_by entries nodes p more (Some node) h l at rest =
    both (list_all (address_less node.address) (named (those_there (parts_at entries nodes more)))) (in_order (named (those_there (parts_at entries nodes more))))
    (ahead_of entries nodes p node.address more h (sym (led_part entries (slice_get nodes p) node at)) l)
    rest

once : (entries : List NodeEntry) (nodes : List NodeAddress) (places : List ℕ) → in_order nodes ≡ true → rising places ≡ true → in_order (named (those_there (parts_at entries nodes places))) ≡ true
unfolding rising
once entries nodes [] h r = refl
once entries nodes (p ∷ more) h r =
    once_by entries nodes p more (found_at entries nodes p) h (both_left (list_all (nat_lt p) more) (rising more) r) refl
    (once entries nodes more h (both_right (list_all (nat_lt p) more) (rising more) r))

pub each_node_once : {R : Type 0} (pick_of : R → ℕ → ℕ → ℕ) (picked : R → ℕ → ℕ → R) → EachNodeOnce pick_of picked
unfolding part_resolution primaries
each_node_once pick_of picked reads AllNodes draws entries rows found is h e =
    subst (λ nodes. in_order (named nodes) ≡ true) (nodes_are _ found e) (once entries (addresses rows) (node_places rows) h (numbers_rise (length (addresses rows))).1)
each_node_once pick_of picked reads AllMasters draws entries rows found is h e =
    subst (λ nodes. in_order (named nodes) ≡ true) (nodes_are _ found e) (once entries (addresses rows) (primaries rows) h (leading_rise (length (addresses rows)) (shards rows)).1)
each_node_once pick_of picked reads (MultiSlot routes) draws entries rows found is h e = absurd is
