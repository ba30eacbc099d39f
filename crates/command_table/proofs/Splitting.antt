-- The places in the parts of a route are those of the command's keys.
use Rattle.std.proofs.Common.{◌≡◌, ℕ, zero, suc, ◌+◌, ◌/◌, ◌%◌, ◌<◌, ◌≤◌, nat_lt, Bool, true, false, ◌&&◌, ◌==◌, List, [], ◌∷◌, ◌++◌, map, length, get_or, Option, Some, None, IfSome, refl, ap, sym, ◌∙◌, arith, if◌then◌else◌}
use Rattle.std.specs.List.{list_all}
use Rattle.std.specs.Prelude.{slice_get}
use Rattle.std.specs.Str.Parse.{digits_value}
use Rattle.std.proofs.lemmas.List.{length-map}
use Rattle.std.proofs.lemmas.List.Folds.{list_all-append}
use Rattle.std.proofs.lemmas.Bool.Decides.{nat_tests}
use Rattle.slot_hash.specs.Tag.{slot_of}
use Rattle.command_table.specs.declared.routing.Route.{Route}
use Rattle.command_table.specs.declared.routing.SlotAddr.{SlotAddr}
use Rattle.command_table.specs.declared.routing.ResponsePolicy.{ResponsePolicy}
use Rattle.command_table.specs.declared.routing.MultipleNodeRoutingInfo.TheVariants.{MultiSlot}
use Rattle.command_table.specs.declared.routing.SingleNodeRoutingInfo.TheVariants.{RandomPrimary}
use Rattle.command_table.specs.declared.routing.RoutingInfo.{RoutingInfo}
use Rattle.command_table.specs.declared.routing.RoutingInfo.TheVariants.{SingleNode, MultiNode}
use Rattle.command_table.specs.declared.commands.Form.{Form}
use Rattle.command_table.specs.declared.commands.Form.TheVariants.{AllPrimaries, AllNodes, EachKey, EachPair, Random, CountedKey, AfterStreams, SecondKey, FirstKey}
use Rattle.command_table.specs.Lookup.{form_of}
use Rattle.command_table.specs.Routing.{after_streams, all_are, by_count, by_key, by_slots, is_number, keys_of_pairs, parts_of, placed, placed_all, random, routing_by, routing_of, to_slot}
use Rattle.command_table.specs.Selection.{is_several, key_count, may_be_several, width}
use Rattle.command_table.specs.Splitting.{are_within, can_be_split}

abbrev parts_within : ℕ → List (Route × List ℕ) → Bool
parts_within n ps = list_all (λ p. are_within n p.1) ps

placed_within : (addr : SlotAddr) (slot i n : ℕ) (ps : List (Route × List ℕ)) → i < n → parts_within n ps ≡ true → parts_within n (placed addr slot i ps) ≡ true
placed_within addr slot i n [] lt h = grind (arith, nat_tests)
placed_within addr slot i n (p ∷ ps) lt h = grind (arith, nat_tests, list_all-append (λ k. nat_lt k n) p.1 (i ∷ []), placed_within addr slot i n ps)

all_within : (addr : SlotAddr) (i n : ℕ) (slots : List ℕ) (ps : List (Route × List ℕ)) → i + length slots ≤ n → parts_within n ps ≡ true → parts_within n (placed_all addr i slots ps) ≡ true
all_within addr i n [] ps le h = h
all_within addr i n (s ∷ slots) ps le h = all_within addr (suc i) n slots (placed addr s i ps) (omega arith) (placed_within addr s i n ps (omega arith) h)

either : (b : Bool) (f : RoutingInfo → Bool) (x y : RoutingInfo) → f x ≡ true → f y ≡ true → f (if b then x else y) ≡ true
either true f x y h g = h
either false f x y h g = g

several : (args : List (List ℕ)) (addr : SlotAddr) (policy : ResponsePolicy) (slots : List ℕ) → may_be_several args ≡ true → length slots ≤ key_count args → can_be_split args (by_slots addr policy slots) ≡ true
unfolding can_be_split
several args addr policy [] h le = refl
several args addr policy (s ∷ slots) h le =
    either (all_are s slots) (can_be_split args) (to_slot addr s) (MultiNode (MultiSlot (parts_of addr (s ∷ slots))) (Some policy)) refl
    (ap (λ b. b && parts_within (key_count args) (parts_of addr (s ∷ slots))) h ∙ all_within addr 0 (key_count args) (s ∷ slots) [] (omega arith) refl)

one_key : (args : List (List ℕ)) (addr : SlotAddr) (key : Option (List ℕ)) → can_be_split args (by_key addr key) ≡ true
unfolding can_be_split
one_key args addr None = refl
one_key args addr (Some key) = refl

counted : (args : List (List ℕ)) (addr : SlotAddr) (count key : Option (List ℕ)) → can_be_split args (by_count addr count key) ≡ true
unfolding can_be_split
counted args addr None key = refl
counted args addr (Some count) key =
    either (is_number count) (can_be_split args) (if digits_value 10 count == 0 then SingleNode RandomPrimary else by_key addr key) random
    (either (digits_value 10 count == 0) (can_be_split args) (SingleNode RandomPrimary) (by_key addr key) refl (one_key args addr key))
    refl

pairs : (args : List (List ℕ)) → length (keys_of_pairs args) ≡ length args / 2
pairs [] = refl
pairs (key ∷ []) = refl
pairs (key ∷ value ∷ rest) = omega (arith, pairs rest)

by_form : (name : List ℕ) (args : List (List ℕ)) (form : Form) → form ≡ form_of name args → can_be_split (name ∷ args) (routing_by form args) ≡ true
unfolding can_be_split
by_form name args (AllPrimaries policy) e = refl
by_form name args (AllNodes policy) e = refl
by_form name args (EachKey addr policy) e =
    let one : length args / width (form_of name args) ≡ length args = sym (ap (λ f. length args / width f) e) ∙ omega arith in
    several (name ∷ args) addr policy (map slot_of args) (sym (ap is_several e)) (omega (arith, length-map args slot_of))
by_form name args (EachPair addr policy) e =
    let two : length args / width (form_of name args) ≡ length args / 2 = sym (ap (λ f. length args / width f) e) in
    either (length args % 2 == 1) (can_be_split (name ∷ args)) (by_key addr (slice_get args 0)) (by_slots addr policy (map slot_of (keys_of_pairs args)))
    (one_key (name ∷ args) addr (slice_get args 0))
    (several (name ∷ args) addr policy (map slot_of (keys_of_pairs args)) (sym (ap is_several e)) (omega (arith, length-map (keys_of_pairs args) slot_of, pairs args)))
by_form name args Random e = refl
by_form name args (CountedKey addr) e = counted (name ∷ args) addr (slice_get args 1) (slice_get args 2)
by_form name args (AfterStreams addr) e = one_key (name ∷ args) addr (after_streams args)
by_form name args (SecondKey addr) e = one_key (name ∷ args) addr (slice_get args 1)
by_form name args (FirstKey addr) e = one_key (name ∷ args) addr (slice_get args 0)

pub parts_are_of_keys : (args : List (List ℕ)) (r : Option RoutingInfo) → r ≡ routing_of args → IfSome r (λ to. can_be_split args to ≡ true)
parts_are_of_keys args None h = tt
parts_are_of_keys [] (Some to) h = absurd (cc)
parts_are_of_keys (name ∷ args) (Some to) h =
    let e : to ≡ routing_by (form_of name args) args = cc in
    ap (can_be_split (name ∷ args)) e ∙ by_form name args (form_of name args) refl

-- the places of one part
pub each_is_within : (n k : ℕ) (ps : List (Route × List ℕ)) (d : Route × List ℕ) → k < length ps → list_all (λ p. are_within n p.1) ps ≡ true → are_within n (get_or ps k d).1 ≡ true
each_is_within n k [] d lt h = absurd (omega arith)
each_is_within n zero (p ∷ ps) d lt h = grind (arith, nat_tests)
each_is_within n (suc k) (p ∷ ps) d lt h = each_is_within n k ps d (omega arith) (grind (arith, nat_tests))
