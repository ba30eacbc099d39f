-- What a map keeps gives its rows again.
use Rattle.std.proofs.Common.{◌≡◌, ℕ, suc, ◌+◌, ◌<◌, ◌≤◌, nat_lt, Bool, true, false, List, [], ◌∷◌, map, length, Option, refl, ap, sym, subst, ◌∙◌, arith, if◌then◌else◌}
use Rattle.std.proofs.lemmas.Option.{get_or_from_slice_get}
use Rattle.containers.proofs.Choices.{both_true, lt_from}
use Rattle.slot_hash.specs.declared.address.NodeAddress.{NodeAddress}
use Rattle.mux_routing.specs.declared.range_table.SlotRange.{SlotRange}
use Rattle.mux_routing.specs.declared.rows.SlotRow.{SlotRow}
use Rattle.mux_routing.specs.Kept.{AreKept, AreRanges, address_at, row_kept, rows_kept}
use Rattle.mux_routing.specs.Reply.{are_rows, in_range, node_count}
use Rattle.mux_routing.specs.Shards.{Shard, address_less, addresses, addresses_from, all_inserted, inserted, leading_below, place_of, primaries, shard_of, shards}
use Rattle.mux_routing.proofs.Finding.{AreAt, IsAt, IsPlaced, row_comes, stay_with}

-- the nodes of all rows stand at their places
abbrev pub ArePlaced : List NodeAddress → List SlotRow → Type 0
ArePlaced nodes [] = Unit {0}
ArePlaced nodes (r ∷ rs) = IsPlaced nodes r × ArePlaced nodes rs

pub each_placed : (xs : List NodeAddress) (rows : List SlotRow) → ArePlaced (addresses_from xs rows) rows
each_placed xs [] = tt
each_placed xs (r ∷ rs) =
    let next = all_inserted (inserted r.primary xs) r.replicas in
    (stay_with (r.primary ∷ r.replicas) next rs (row_comes xs r), each_placed next rs)

at_again : (nodes : List NodeAddress) (a : NodeAddress) → IsAt nodes a → address_at nodes (place_of nodes a) ≡ a
at_again nodes a h = get_or_from_slice_get nodes (place_of nodes a) a (record { host = []; port = 0 }) h

all_again : (nodes ns : List NodeAddress) → AreAt nodes ns → map (address_at nodes) (map (place_of nodes) ns) ≡ ns
all_again nodes [] h = refl
all_again nodes (a ∷ ns) h = λ i. at_again nodes a h.0 i ∷ all_again nodes ns h.1 i

row_again : (nodes : List NodeAddress) (r : SlotRow) → IsPlaced nodes r → row_kept nodes (shard_of nodes r) ≡ r
row_again nodes r h = λ i. record { start = r.start; end = r.end; primary = at_again nodes r.primary h.0 i; replicas = all_again nodes r.replicas h.1 i }

rows_again : (nodes : List NodeAddress) (rows : List SlotRow) → ArePlaced nodes rows → rows_kept nodes (map (shard_of nodes) rows) ≡ rows
rows_again nodes [] h = refl
rows_again nodes (r ∷ rs) h = λ i. row_again nodes r h.0 i ∷ rows_again nodes rs h.1 i

pub same_rows : (nodes : List NodeAddress) (kept : List Shard) (rows : List SlotRow) → nodes ≡ addresses rows → kept ≡ map (shard_of nodes) rows → rows_kept nodes kept ≡ rows
same_rows nodes kept rows e f =
    ap (rows_kept nodes) f
    ∙ subst (λ ns. rows_kept ns (map (shard_of ns) rows) ≡ rows) (sym e) (rows_again (addresses rows) rows (each_placed [] rows))

-- there are at most as many addresses as rows name
one_longer : (a : NodeAddress) (xs : List NodeAddress) → length (inserted a xs) ≤ suc (length xs)
one_longer a [] = omega arith
one_longer a (x ∷ xs) = by (address_less x a) (one_longer a xs)
  where
    here : (t : Bool) → length (if t then a ∷ x ∷ xs else (x ∷ xs)) ≤ suc (length (x ∷ xs))
    here true = omega arith
    here false = omega arith

    by : (t : Bool) → length (inserted a xs) ≤ suc (length xs) → length (if t then x ∷ inserted a xs else (if address_less a x then a ∷ x ∷ xs else (x ∷ xs))) ≤ suc (length (x ∷ xs))
    by true h = omega (arith, h)
    by false h = here (address_less a x)

all_longer : (xs more : List NodeAddress) → length (all_inserted xs more) ≤ length xs + length more
all_longer xs [] = omega arith
all_longer xs (a ∷ more) = omega (arith, all_longer (inserted a xs) more, one_longer a xs)

from_longer : (xs : List NodeAddress) (rows : List SlotRow) → length (addresses_from xs rows) ≤ length xs + node_count rows
from_longer xs [] = omega arith
from_longer xs (r ∷ rs) = omega (arith, from_longer (all_inserted (inserted r.primary xs) r.replicas) rs, all_longer (inserted r.primary xs) r.replicas, one_longer r.primary xs)

few_nodes : (rows : List SlotRow) → are_rows rows ≡ true → length (addresses rows) < 4_294_967_296
few_nodes rows h =
    let few = lt_from (node_count rows) 4_294_967_296 (both_true (in_range rows) (nat_lt (node_count rows) 4_294_967_296) h).1 in
    omega (arith, from_longer [] rows, few)

-- each row has a primary at least
rows_counted : (rows : List SlotRow) → length rows ≤ node_count rows
rows_counted [] = omega arith
rows_counted (r ∷ rs) = omega (arith, rows_counted rs)

pub few_rows : (rows : List SlotRow) → are_rows rows ≡ true → length rows < 4_294_967_296
few_rows rows h =
    let few = lt_from (node_count rows) 4_294_967_296 (both_true (in_range rows) (nat_lt (node_count rows) 4_294_967_296) h).1 in
    omega (arith, rows_counted rows, few)

pub all_kept : (nodes : List NodeAddress) (kept : List Shard) (ranges : List SlotRange) (leaders : List ℕ) (rows : List SlotRow) → nodes ≡ addresses rows → kept ≡ map (shard_of nodes) rows → AreRanges ranges rows → leaders ≡ leading_below (length nodes) kept → are_rows rows ≡ true → AreKept nodes kept ranges leaders (rows_kept nodes kept)
unfolding primaries
all_kept nodes kept ranges leaders rows e f g h few =
    let shards_are : kept ≡ shards rows = f ∙ ap (λ ns. map (shard_of ns) rows) e in
    subst (λ rs. AreKept nodes kept ranges leaders rs) (sym (same_rows nodes kept rows e f)) (record {
      nodes_are = e;
      few = subst (λ ns. length ns < 4_294_967_296) (sym e) (few_nodes rows few);
      shards_are = shards_are;
      ranges_are = g;
      leaders_are = h ∙ ap (λ ns. leading_below (length ns) kept) e ∙ ap (leading_below (length (addresses rows))) shards_are;
    })
