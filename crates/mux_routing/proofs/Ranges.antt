-- Rows that are read are rows from which a map can be made.
use Rattle.std.proofs.Common.{◌≡◌, ℕ, Bool, true, ◌&&◌, nat_le, nat_lt, List, [], ◌∷◌, Option, Some, None, refl, ap, ◌∙◌, arith}
use Rattle.std.specs.Prelude.{pos}
use Rattle.std.proofs.lemmas.Bool.Decides.{nat_tests}
use Rattle.resp_value.specs.Data.{Data, int}
use Rattle.slot_hash.specs.declared.address.NodeAddress.{NodeAddress}
use Rattle.mux_routing.specs.declared.rows.SlotRow.{SlotRow}
use Rattle.mux_routing.specs.Reply.{added, all_told, elements, in_range, number_to, node_of, row_of, row_parts, row_told}

abbrev is_in_range : SlotRow → Bool
is_in_range r = nat_le r.start r.end && nat_lt r.end 16_384

number_within : (most n : ℕ) (d : Data) → number_to most d ≡ Some n → nat_le n most ≡ true
number_within most n (int (pos k)) h = grind (arith, nat_tests)
number_within most n _ h = absurd (cc)

told_in_range : (start end : Option ℕ) (primary : Option (Option NodeAddress)) (replicas : Option (List NodeAddress)) (r : SlotRow) → ((n : ℕ) → end ≡ Some n → nat_le n 16_383 ≡ true) → row_told start end primary replicas ≡ Some (Some r) → is_in_range r ≡ true
told_in_range None end primary replicas r bound h = absurd (cc)
told_in_range (Some s) None primary replicas r bound h = absurd (cc)
told_in_range (Some s) (Some e) None replicas r bound h = absurd (cc)
told_in_range (Some s) (Some e) (Some primary) None r bound h = absurd (cc)
told_in_range (Some s) (Some e) (Some None) (Some replicas) r bound h = grind (arith, nat_tests)
told_in_range (Some s) (Some e) (Some (Some p)) (Some replicas) r bound h = grind (arith, nat_tests, bound e refl)

parts_in_range : (host : List ℕ) (ds : Option (List Data)) (r : SlotRow) → row_parts host ds ≡ Some (Some r) → is_in_range r ≡ true
parts_in_range host None r h = absurd (cc)
parts_in_range host (Some []) r h = absurd (cc)
parts_in_range host (Some (s ∷ [])) r h = absurd (cc)
parts_in_range host (Some (s ∷ e ∷ [])) r h = absurd (cc)
parts_in_range host (Some (s ∷ e ∷ p ∷ rs)) r h =
    told_in_range (number_to 16_383 s) (number_to 16_383 e) (node_of host p) (all_told (node_of host) rs) r (λ n. number_within 16_383 n e) h

row_in_range : (host : List ℕ) (d : Data) (r : SlotRow) → row_of host d ≡ Some (Some r) → is_in_range r ≡ true
unfolding row_of
row_in_range host d r h = parts_in_range host (elements d) r h

with_one : (x : Option (Option SlotRow)) (rest : Option (List SlotRow)) (rows : List SlotRow) → ((r : SlotRow) → x ≡ Some (Some r) → is_in_range r ≡ true) → ((rs : List SlotRow) → rest ≡ Some rs → in_range rs ≡ true) → added x rest ≡ Some rows → in_range rows ≡ true
with_one None rest rows f g h = absurd (cc)
with_one (Some x) None rows f g h = absurd (cc)
with_one (Some None) (Some rs) rows f g h =
    let e : rows ≡ rs = cc in
    ap in_range e ∙ g rs refl
with_one (Some (Some r)) (Some rs) rows f g h =
    let e : rows ≡ r ∷ rs = cc in
    ap in_range e ∙ ap (λ b. b && in_range rs) (f r refl) ∙ g rs refl

pub rows_in_range : (host : List ℕ) (ds : List Data) (rows : List SlotRow) → all_told (row_of host) ds ≡ Some rows → in_range rows ≡ true
rows_in_range host [] rows h =
    let e : rows ≡ [] = cc in
    ap in_range e
rows_in_range host (d ∷ ds) rows h = with_one (row_of host d) (all_told (row_of host) ds) rows (row_in_range host d) (rows_in_range host ds) h
