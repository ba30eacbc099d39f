-- Entries in order are found by halving.
use Rattle.std.proofs.Common.{◌≡◌, ℕ, zero, suc, ◌<◌, ◌≤◌, nat_lt, Bool, true, false, List, [], ◌∷◌, length, Option, Some, None, refl, sym, ap, subst, ◌∙◌, arith, if◌then◌else◌}
use Rattle.std.specs.Prelude.{get_or, slice_get}
use Rattle.std.specs.List.{list_all}
use Rattle.std.proofs.lemmas.Bool.Decides.{nat_tests}
use Rattle.std.proofs.lemmas.Option.{slice_get-get_or, slice_get_past, slice_get_read}
use Rattle.containers.proofs.Choices.{both_left, both_right, by_test, left_if, taken_if}
use Rattle.slot_hash.specs.declared.address.NodeAddress.{NodeAddress}
use Rattle.mux_routing.specs.Shards.{address_less, place_of}
use Rattle.cluster_plan.specs.Asks.{same_address}
use Rattle.cluster_plan.specs.Connections.{state_at}
use Rattle.cluster_plan.specs.declared.connections.ConnState.{ConnState}
use Rattle.cluster_plan.specs.declared.connections.NodeEntry.{NodeEntry}
use Rattle.route_choice.specs.Entries.{addresses_of, are_ordered}
use Rattle.route_choice.proofs.Order.{itself, one, onwards, same, tied}

-- an address before all of these comes before each
ahead : (a : NodeAddress) (es : List NodeEntry) (m : ℕ) (e : NodeEntry) → list_all (address_less a) (addresses_of es) ≡ true → slice_get es m ≡ Some e → address_less a e.address ≡ true
ahead a [] m e h g = cc
ahead a (x ∷ es) zero e h g =
    let found : x ≡ e = cc in
    subst (λ y. address_less a y.address ≡ true) found (both_left (address_less a x.address) (list_all (address_less a) (addresses_of es)) h)
ahead a (x ∷ es) (suc m) e h g = ahead a es m e (both_right (address_less a x.address) (list_all (address_less a) (addresses_of es)) h) g

at_front : (b : Bool) (p : ℕ) → b ≡ nat_lt 0 (if b then suc p else 0)
at_front true p = grind (arith, nat_tests)
at_front false p = grind (arith, nat_tests)

behind_front : (b t : Bool) (m p : ℕ) → (t ≡ true → b ≡ true) → t ≡ nat_lt m p → t ≡ nat_lt (suc m) (if b then suc p else 0)
behind_front true t m p f e = e ∙ grind (arith, nat_tests)
behind_front false true m p f e = cc (f refl)
behind_front false false m p f e = grind (arith, nat_tests)

pub is_before : (es : List NodeEntry) (a : NodeAddress) (m : ℕ) (e : NodeEntry) → are_ordered es ≡ true → slice_get es m ≡ Some e → address_less e.address a ≡ nat_lt m (place_of (addresses_of es) a)
is_before [] a m e h g = cc
is_before (x ∷ es) a zero e h g =
    let found : x ≡ e = cc in
    subst (λ y. address_less y.address a ≡ nat_lt 0 (place_of (addresses_of (x ∷ es)) a)) found (at_front (address_less x.address a) (place_of (addresses_of es) a))
is_before (x ∷ es) a (suc m) e h g =
    behind_front (address_less x.address a) (address_less e.address a) m (place_of (addresses_of es) a)
    (onwards x.address e.address a (ahead x.address es m e (both_left (list_all (address_less x.address) (addresses_of es)) (are_ordered es) h) g))
    (is_before es a m e (both_right (list_all (address_less x.address) (addresses_of es)) (are_ordered es) h) g)

within : (b : Bool) (p n : ℕ) → p ≤ n → (if b then suc p else 0) ≤ suc n
within true p n l = omega (arith, l)
within false p n l = omega arith

pub place_within : (es : List NodeEntry) (a : NodeAddress) → place_of (addresses_of es) a ≤ length es
place_within [] a = omega arith
place_within (x ∷ es) a = within (address_less x.address a) (place_of (addresses_of es) a) (length es) (place_within es a)

-- an address is another than one before it
other_than_less : (a b : NodeAddress) → address_less b a ≡ true → same_address a b ≡ false
other_than_less a b l =
    by_test (same_address a b) (same_address a b ≡ false)
    (λ t. let no : address_less a a ≡ true = subst (λ c. address_less c a ≡ true) (sym (one a b t)) l in cc (no, itself a))
    (λ f. f)

pub other_than_more : (a b : NodeAddress) → address_less a b ≡ true → same_address a b ≡ false
other_than_more a b l =
    by_test (same_address a b) (same_address a b ≡ false)
    (λ t. let no : address_less a a ≡ true = subst (λ c. address_less a c ≡ true) (sym (one a b t)) l in cc (no, itself a))
    (λ f. f)

-- it isn't found among those behind it
beyond : (a b : NodeAddress) (es : List NodeEntry) → address_less a b ≡ true → list_all (address_less b) (addresses_of es) ≡ true → state_at a es ≡ None
beyond a b [] l h = refl
beyond a b (e ∷ es) l h =
    let next : address_less a e.address ≡ true = onwards a b e.address l (both_left (address_less b e.address) (list_all (address_less b) (addresses_of es)) h) in
    left_if (same_address a e.address) (Some e.state) (state_at a es) (other_than_more a e.address next)
    ∙ beyond a b es l (both_right (address_less b e.address) (list_all (address_less b) (addresses_of es)) h)

-- what is found at a place
abbrev pub seen : NodeAddress → Option NodeEntry → Option ConnState
seen a None = None
seen a (Some e) = if same_address a e.address then Some e.state else None

abbrev SeenAt : NodeAddress → NodeEntry → List NodeEntry → ℕ → Type 0
SeenAt a e es place = state_at a (e ∷ es) ≡ seen a (slice_get (e ∷ es) place)

seen_later : (a : NodeAddress) (e : NodeEntry) (es : List NodeEntry) → address_less e.address a ≡ true → state_at a es ≡ seen a (slice_get es (place_of (addresses_of es) a)) → SeenAt a e es (suc (place_of (addresses_of es) a))
seen_later a e es l rest = left_if (same_address a e.address) (Some e.state) (state_at a es) (other_than_less a e.address l) ∙ rest

seen_first : (a : NodeAddress) (e : NodeEntry) (es : List NodeEntry) → address_less e.address a ≡ false → list_all (address_less e.address) (addresses_of es) ≡ true → SeenAt a e es 0
seen_first a e es l h =
    by_test (same_address a e.address) (SeenAt a e es 0)
    (λ t. taken_if (same_address a e.address) (Some e.state) (state_at a es) t ∙ sym (taken_if (same_address a e.address) (Some e.state) None t))
    (λ f. left_if (same_address a e.address) (Some e.state) (state_at a es) f
    ∙ beyond a e.address es (comes_first f) h
    ∙ sym (left_if (same_address a e.address) (Some e.state) None f))
  where
    comes_first : same_address a e.address ≡ false → address_less a e.address ≡ true
    comes_first f =
        by_test (address_less a e.address) (address_less a e.address ≡ true) (λ t. t)
        (λ g. let no : same_address a e.address ≡ true = subst (λ b. same_address a b ≡ true) (tied a e.address g l) (same a) in cc (no, f))

pub finds : (a : NodeAddress) (es : List NodeEntry) → are_ordered es ≡ true → state_at a es ≡ seen a (slice_get es (place_of (addresses_of es) a))
finds a [] h = refl
finds a (e ∷ es) h =
    by_test (address_less e.address a) (SeenAt a e es (place_of (addresses_of (e ∷ es)) a))
    (λ t. subst (SeenAt a e es) (sym (taken_if (address_less e.address a) (suc (place_of (addresses_of es) a)) 0 t))
    (seen_later a e es t (finds a es (both_right (list_all (address_less e.address) (addresses_of es)) (are_ordered es) h))))
    (λ f. subst (SeenAt a e es) (sym (left_if (address_less e.address a) (suc (place_of (addresses_of es) a)) 0 f))
    (seen_first a e es f (both_left (list_all (address_less e.address) (addresses_of es)) (are_ordered es) h)))

-- as entries are read
pub reads_before : (es : List NodeEntry) (a : NodeAddress) (m : ℕ) (d : NodeEntry) (r : Bool) → are_ordered es ≡ true → m < length es → r ≡ address_less (get_or es m d).address a → r ≡ nat_lt m (place_of (addresses_of es) a)
reads_before es a m d r h l k = k ∙ is_before es a m (get_or es m d) h (slice_get-get_or es m d l)

pub is_past : (es : List NodeEntry) (a : NodeAddress) (p : ℕ) → are_ordered es ≡ true → p ≡ place_of (addresses_of es) a → length es ≤ p → None ≡ state_at a es
is_past es a p h e l = sym (finds a es h ∙ ap (λ q. seen a (slice_get es q)) (sym e) ∙ ap (seen a) (slice_get_past es p l))

pub is_here : (es : List NodeEntry) (a : NodeAddress) (p : ℕ) (e : NodeEntry) (r : Option ConnState) → are_ordered es ≡ true → p ≡ place_of (addresses_of es) a → p < length es → e ≡ get_or es p e → r ≡ seen a (Some e) → r ≡ state_at a es
is_here es a p e r h at l g k = k ∙ sym (finds a es h ∙ ap (λ q. seen a (slice_get es q)) (sym at) ∙ ap (seen a) (slice_get_read es (length es) p e refl l g))
