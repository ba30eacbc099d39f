-- The primaries of a map are the places that lead a row.
use Rattle.std.proofs.Common.{◌≡◌, ◌⊎◌, inl, inr, ℕ, zero, suc, ◌<◌, nat_lt, ◌==◌, Bool, true, false, ◌||◌, List, [], ◌∷◌, map, length, Some, refl, ap, sym, subst, ◌∙◌, arith, if◌then◌else◌}
use Rattle.std.specs.Prelude.{slice_get}
use Rattle.std.proofs.lemmas.Bool.Decides.{nat_tests}
use Rattle.std.proofs.lemmas.Option.{get_or_from_slice_get, slice_get_within}
use Rattle.containers.proofs.Choices.{by_test, eq_from, eq_test, ne_from}
use Rattle.slot_hash.specs.declared.address.NodeAddress.{NodeAddress}
use Rattle.mux_routing.specs.declared.rows.SlotRow.{SlotRow}
use Rattle.mux_routing.specs.Members.{AreLeaders, LeadsARow}
use Rattle.mux_routing.specs.Shards.{Shard, addresses, leading_below, leads, place_of, primaries, shard_of, shards}
use Rattle.mux_routing.proofs.Finding.{IsPlaced, are_in_order}
use Rattle.mux_routing.proofs.Keeping.{ArePlaced, each_placed}
use Rattle.mux_routing.proofs.Members.{In, contains_from, in_append, in_from, in_left, in_right}
use Rattle.mux_routing.proofs.Ordered.{at_its_place}

in_last : (i n : ℕ) (all : List Shard) (t : Bool) → leads n all ≡ t → In i (if t then n ∷ [] else []) → (i < suc n) × (leads i all ≡ true)
in_last i n all true e (inl same) = (omega (arith, same), subst (λ k. leads k all ≡ true) same e)
in_last i n all true e (inr none) = absurd none
in_last i n all false e none = absurd none

in_either : (i n : ℕ) (all : List Shard) → (In i (leading_below n all) → (i < n) × (leads i all ≡ true)) → In i (leading_below n all) ⊎ In i (if leads n all then n ∷ [] else []) → (i < suc n) × (leads i all ≡ true)
in_either i n all f (inl h) =
    let earlier = f h in
    (omega (arith, earlier.0), earlier.1)
in_either i n all f (inr h) = in_last i n all (leads n all) refl h

in_leading : (i n : ℕ) (all : List Shard) → In i (leading_below n all) → (i < n) × (leads i all ≡ true)
in_leading i zero all m = absurd m
in_leading i (suc n) all m = in_either i n all (in_leading i n all) (in_append i (leading_below n all) (if leads n all then n ∷ [] else []) m)

to_leading : (i n : ℕ) (all : List Shard) → i < n → leads i all ≡ true → In i (leading_below n all)
to_leading i zero all lt h = absurd (omega (arith, lt))
to_leading i (suc n) all lt h =
    by_test (n == i) (In i (leading_below (suc n) all))
    (λ t. in_right i (leading_below n all) (if leads n all then n ∷ [] else []) (subst (λ b. In i (if b then n ∷ [] else [])) (sym (subst (λ k. leads k all ≡ true) (sym (eq_from n i t)) h)) (inl (eq_from n i t))))
    (λ f. in_left i (leading_below n all) (if leads n all then n ∷ [] else []) (to_leading i n all (below (ne_from n i f)) h))
  where
    below : (n ≡ i → ⊥) → i < n
    below ne = by_test (nat_lt i n) (i < n) (λ t. grind (arith, nat_tests)) (λ f. absurd (ne (grind (arith, nat_tests))))

-- a row among these whose primary has this place
abbrev Led : ℕ → List NodeAddress → List SlotRow → Type 0
Led i nodes rows = (row : SlotRow) × In row rows × (place_of nodes row.primary ≡ i)

led_further : (i : ℕ) (nodes : List NodeAddress) (r : SlotRow) (rs : List SlotRow) → Led i nodes rs → Led i nodes (r ∷ rs)
led_further i nodes r rs (row, m, e) = (row, inr m, e)

led_by : (i : ℕ) (nodes : List NodeAddress) (r : SlotRow) (rs : List SlotRow) (t : Bool) → (place_of nodes r.primary == i) ≡ t → (leads i (map (shard_of nodes) rs) ≡ true → Led i nodes rs) → (t || leads i (map (shard_of nodes) rs)) ≡ true → Led i nodes (r ∷ rs)
led_by i nodes r rs true e f h = (r, inl refl, eq_from (place_of nodes r.primary) i e)
led_by i nodes r rs false e f h = led_further i nodes r rs (f h)

leads_row : (i : ℕ) (nodes : List NodeAddress) (rows : List SlotRow) → leads i (map (shard_of nodes) rows) ≡ true → Led i nodes rows
leads_row i nodes [] h = absurd (cc)
leads_row i nodes (r ∷ rs) h = led_by i nodes r rs (place_of nodes r.primary == i) refl (leads_row i nodes rs) h

or_true : (t : Bool) → (t || true) ≡ true
or_true true = refl
or_true false = refl

row_leads : (i : ℕ) (nodes : List NodeAddress) (rows : List SlotRow) (row : SlotRow) → In row rows → place_of nodes row.primary ≡ i → leads i (map (shard_of nodes) rows) ≡ true
row_leads i nodes [] row m e = absurd m
row_leads i nodes (r ∷ rs) row (inl same) e =
    ap (λ t. t || leads i (map (shard_of nodes) rs)) (eq_test (place_of nodes r.primary) i (ap (λ q. place_of nodes q.primary) same ∙ e))
row_leads i nodes (r ∷ rs) row (inr m) e =
    ap (λ t. (place_of nodes r.primary == i) || t) (row_leads i nodes rs row m e) ∙ or_true (place_of nodes r.primary == i)

placed_in : (nodes : List NodeAddress) (rows : List SlotRow) (row : SlotRow) → ArePlaced nodes rows → In row rows → IsPlaced nodes row
placed_in nodes [] row h m = absurd m
placed_in nodes (r ∷ rs) row h (inl e) = subst (IsPlaced nodes) e h.0
placed_in nodes (r ∷ rs) row h (inr m) = placed_in nodes rs row h.1 m

leads_one : (rows : List SlotRow) (i : ℕ) → Led i (addresses rows) rows → LeadsARow rows i
leads_one rows i (row, m, e) =
    (row, contains_from row rows m, subst (λ k. slice_get (addresses rows) k ≡ Some row.primary) e (placed_in (addresses rows) rows row (each_placed [] rows) m).0)

led_one : (rows : List SlotRow) (i : ℕ) → LeadsARow rows i → In i (leading_below (length (addresses rows)) (shards rows))
led_one rows i (row, m, e) =
    let within = slice_get_within (addresses rows) i row.primary e in
    let place = at_its_place row.primary (addresses rows) i (are_in_order rows) within (λ d. get_or_from_slice_get (addresses rows) i row.primary d e) in
    to_leading i (length (addresses rows)) (shards rows) within (row_leads i (addresses rows) rows row (in_from row rows m) place)

pub are_leaders : (rows : List SlotRow) → AreLeaders rows (primaries rows)
unfolding primaries
are_leaders rows = λ i. (
  λ c. leads_one rows i (leads_row i (addresses rows) rows (in_leading i (length (addresses rows)) (shards rows) (in_from i (leading_below (length (addresses rows)) (shards rows)) c)).1),
  λ l. contains_from i (leading_below (length (addresses rows)) (shards rows)) (led_one rows i l),
)

pub leaders_by : (rows : List SlotRow) (places : List ℕ) → places ≡ primaries rows → AreLeaders rows places
leaders_by rows places e = subst (AreLeaders rows) (sym e) (are_leaders rows)
