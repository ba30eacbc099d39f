-- The range of a slot leads to the last row that holds it.
use Rattle.std.proofs.Common.{◌≡◌, ℕ, zero, suc, ◌+◌, ◌<◌, ◌≤◌, nat_le, nat_lt, ◌&&◌, Bool, true, false, List, [], ◌∷◌, ◌++◌, Option, Some, None, length, drop, take, map, refl, ap, sym, subst, ◌∙◌, arith, if◌then◌else◌}
use Rattle.std.specs.Prelude.{slice_get, option_map}
use Rattle.std.proofs.lemmas.Bool.Decides.{nat_tests}
use Rattle.std.proofs.lemmas.Option.{slice_get-map}
use Rattle.containers.proofs.Choices.{both_true, le_from, le_test, lt_from}
use Rattle.slot_hash.specs.declared.address.NodeAddress.{NodeAddress}
use Rattle.mux_routing.specs.declared.range_table.SlotRange.{SlotRange}
use Rattle.mux_routing.specs.declared.rows.SlotRow.{SlotRow}
use Rattle.mux_routing.specs.Kept.{AreKept, AreOwned, numbered, owner, owner_from}
use Rattle.mux_routing.specs.Ranges.{are_apart, are_maximal, row_in, with_range}
use Rattle.mux_routing.specs.Reply.{in_range}
use Rattle.mux_routing.specs.Shards.{Shard, addresses, holds, last_row, or_else, shard_at, shard_of}
use Rattle.mux_routing.proofs.Pushing.{apart_with, behind, behind_it, maximal_with, row_with}

here : (i : ℕ) (all : List SlotRow) (r : SlotRow) (rs : List SlotRow) → drop i all ≡ r ∷ rs → slice_get all i ≡ Some r
here zero [] r rs e = absurd (cc)
here (suc i) [] r rs e = absurd (cc)
here zero (x ∷ xs) r rs e = cc
here (suc i) (x ∷ xs) r rs e = here i xs r rs e

next : (i : ℕ) (all : List SlotRow) (r : SlotRow) (rs : List SlotRow) → drop i all ≡ r ∷ rs → drop (suc i) all ≡ rs
next zero [] r rs e = absurd (cc)
next (suc i) [] r rs e = absurd (cc)
next zero (x ∷ xs) r rs e = cc
next (suc i) (x ∷ xs) r rs e = next i xs r rs e

step : (later : Option SlotRow) (h : Bool) (found : Option ℕ) (i : ℕ) (all : List SlotRow) (r : SlotRow) → slice_get all i ≡ Some r → or_else later (numbered all (if h then Some i else found)) ≡ or_else (or_else later (if h then Some r else None)) (numbered all found)
step (Some row) h found i all r e = refl
step None true found i all r e = e
step None false found i all r e = refl

owned : (slot i : ℕ) (all rest : List SlotRow) (found : Option ℕ) → drop i all ≡ rest → numbered all (owner_from slot i found rest) ≡ or_else (last_row slot rest) (numbered all found)
owned slot i all [] found e = refl
owned slot i all (r ∷ rs) found e =
    owned slot (suc i) all rs (if holds slot r then Some i else found) (next i all r rs e)
    ∙ step (last_row slot rs) (holds slot r) found i all r (here i all r rs e)

last_of : (row : Option SlotRow) → or_else row None ≡ row
last_of None = refl
last_of (Some row) = refl

of_map : (f : SlotRow → Shard) (rows : List SlotRow) (number : Option ℕ) → numbered (map f rows) number ≡ option_map f (numbered rows number)
of_map f rows None = refl
of_map f rows (Some k) = slice_get-map f rows k

-- of what a map keeps, the nodes of a slot
pub kept_shard : (nodes : List NodeAddress) (kept : List Shard) (ranges : List SlotRange) (leaders : List ℕ) (rows : List SlotRow) (slot : ℕ) → AreKept nodes kept ranges leaders rows → numbered kept (row_in ranges slot) ≡ shard_at slot rows
unfolding shard_at
kept_shard nodes kept ranges leaders rows slot k =
    ap (numbered kept) (k.ranges_are.each slot)
    ∙ ap (λ ss. numbered ss (owner slot rows)) k.shards_are
    ∙ of_map (shard_of (addresses rows)) rows (owner slot rows)
    ∙ ap (option_map (shard_of (addresses rows))) (owned slot 0 rows rows None refl ∙ last_of (last_row slot rows))

-- rows behind others
owner_behind : (slot i : ℕ) (front back : List SlotRow) (found : Option ℕ) → owner_from slot i found (front ++ back) ≡ owner_from slot (i + length front) (owner_from slot i found front) back
owner_behind slot i [] back found = ap (λ k. owner_from slot k found back) (omega arith)
owner_behind slot i (r ∷ rs) back found =
    owner_behind slot (suc i) rs back (if holds slot r then Some i else found)
    ∙ ap (λ k. owner_from slot k (owner_from slot (suc i) (if holds slot r then Some i else found) rs) back) (omega arith)

or_else_twice : (a b c : Option ℕ) → or_else (or_else a b) c ≡ or_else a (or_else b c)
or_else_twice None b c = refl
or_else_twice (Some n) b c = refl

here_or : (h : Bool) (i : ℕ) (found : Option ℕ) → or_else (if h then Some i else None) found ≡ (if h then Some i else found)
here_or true i found = refl
here_or false i found = refl

owner_or : (slot i : ℕ) (rows : List SlotRow) (found : Option ℕ) → owner_from slot i found rows ≡ or_else (owner_from slot i None rows) found
owner_or slot i [] found = refl
owner_or slot i (r ∷ rs) found =
    owner_or slot (suc i) rs (if holds slot r then Some i else found)
    ∙ ap (or_else (owner_from slot (suc i) None rs)) (sym (here_or (holds slot r) i found))
    ∙ sym (or_else_twice (owner_from slot (suc i) None rs) (if holds slot r then Some i else None) found)
    ∙ ap (λ o. or_else o found) (sym (owner_or slot (suc i) rs (if holds slot r then Some i else None)))

-- the ranges of two halves, the later ones over the earlier ones
pub of_halves : (earlier later ranges : List SlotRange) (base next : ℕ) (front back rows : List SlotRow) → front ++ back ≡ rows → base + length front ≡ next → AreOwned earlier base front → AreOwned later next back → are_apart ranges ≡ true → are_maximal ranges ≡ true → ((slot : ℕ) → row_in ranges slot ≡ or_else (row_in later slot) (row_in earlier slot)) → AreOwned ranges base rows
of_halves earlier later ranges base next front back rows e n p q apart maximal f = record {
  apart = apart;
  maximal = maximal;
  each = λ slot.
      f slot
      ∙ ap (λ o. or_else o (row_in earlier slot)) (q.each slot)
      ∙ ap (or_else (owner_from slot next None back)) (p.each slot)
      ∙ sym (owner_or slot next back (owner_from slot base None front))
      ∙ ap (λ k. owner_from slot k (owner_from slot base None front) back) (sym n)
      ∙ sym (owner_behind slot base front back None)
      ∙ ap (owner_from slot base None) e;
}

-- with one row more, behind all before
pub one_row : (slot number next : ℕ) (found more : Option ℕ) (r : SlotRow) (left rest : List SlotRow) (all : Option ℕ) → left ≡ r ∷ rest → suc number ≡ next → more ≡ (if holds slot r then Some number else found) → owner_from slot number found left ≡ all → owner_from slot next more rest ≡ all
one_row slot number next found more r left rest all e n f h =
    ap (λ o. owner_from slot next o rest) f
    ∙ ap (λ k. owner_from slot k (if holds slot r then Some number else found) rest) (sym n)
    ∙ sym (ap (owner_from slot number found) e)
    ∙ h

in_range_parts : (r : SlotRow) (rs : List SlotRow) → in_range (r ∷ rs) ≡ true → (r.start ≤ r.end) × (r.end < 16_384) × (in_range rs ≡ true)
in_range_parts r rs h =
    let one = both_true (nat_le r.start r.end && nat_lt r.end 16_384) (in_range rs) h in
    let two = both_true (nat_le r.start r.end) (nat_lt r.end 16_384) one.0 in
    (le_from r.start r.end two.0, lt_from r.end 16_384 two.1, one.1)

lt_test : (n m : ℕ) → n < m → nat_lt n m ≡ true
lt_test n m l = grind (arith, nat_tests)

in_range_from : (r : SlotRow) (rs : List SlotRow) → r.start ≤ r.end → r.end < 16_384 → in_range rs ≡ true → in_range (r ∷ rs) ≡ true
in_range_from r rs a b c =
    ap (λ t. (t && nat_lt r.end 16_384) && in_range rs) (le_test r.start r.end a) ∙ ap (λ t. t && in_range rs) (lt_test r.end 16_384 b) ∙ c

pub front_in_range : (k : ℕ) (rows : List SlotRow) → in_range rows ≡ true → in_range (take k rows) ≡ true
front_in_range zero rows h = refl
front_in_range (suc k) [] h = refl
front_in_range (suc k) (r ∷ rs) h =
    let p = in_range_parts r rs h in
    in_range_from r (take k rs) p.0 p.1 (front_in_range k rs p.2)

pub back_in_range : (k : ℕ) (rows : List SlotRow) → in_range rows ≡ true → in_range (drop k rows) ≡ true
back_in_range zero rows h = h
back_in_range (suc k) [] h = refl
back_in_range (suc k) (r ∷ rs) h = back_in_range k rs (in_range_parts r rs h).2

-- what a range put behind others makes of them, if it is that of the next row
pub record Turned (ranges more : List SlotRange) (number : ℕ) (r : SlotRow) (rest : List SlotRow) : Type 0 where
  pub apart : are_apart more ≡ true
  pub maximal : are_maximal more ≡ true
  pub last : behind 0 more ≤ r.end + 1
  pub slots : r.end + 1 ≤ 16_384
  pub range : in_range rest ≡ true
  pub each : (slot : ℕ) → row_in more slot ≡ (if holds slot r then Some number else row_in ranges slot)

pub turned : (ranges more : List SlotRange) (number next : ℕ) (r : SlotRow) (left rest : List SlotRow) → left ≡ r ∷ rest → in_range left ≡ true → are_apart ranges ≡ true → are_maximal ranges ≡ true → behind 0 ranges ≤ next → next ≤ r.start → more ≡ with_range ranges (record { start = r.start; end = r.end; row = number }) → Turned ranges more number r rest
turned ranges more number next r left rest e range apart maximal last le is =
    let p = in_range_parts r rest (subst (λ rs. in_range rs ≡ true) e range) in
    let added : SlotRange = record { start = r.start; end = r.end; row = number } in
    let from : behind 0 ranges ≤ r.start = omega (arith, last, le) in
    subst (λ rs. Turned ranges rs number r rest) (sym is) (record {
      apart = apart_with 0 ranges added apart from p.0 p.1;
      maximal = maximal_with ranges added maximal;
      last = omega (arith, behind_it 0 ranges added);
      slots = omega (arith, p.1);
      range = p.2;
      each = λ slot. row_with 0 ranges added slot apart from p.0;
    })
