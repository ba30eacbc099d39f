-- One key after another is placed: each step keeps that the keys so far are split.
use Rattle.std.proofs.Common.{◌≡◌, ℕ, zero, suc, ◌+◌, ◌/◌, ◌%◌, ◌==◌, nat_lt, Bool, true, false, List, [], ◌∷◌, ◌++◌, map, length, length-append, append_assoc, slice_get, Option, Some, None, refl, sym, ap, ◌∙◌, subst, arith, if◌then◌else◌}
use Rattle.std.specs.Str.Parse.{digits_value}
use Rattle.std.proofs.lemmas.Bool.Decides.{nat_tests}
use Rattle.std.proofs.lemmas.List.{append-nil}
use Rattle.containers.proofs.Choices.{eq_from, ne_from}
use Rattle.slot_hash.specs.Tag.{slot_of}
use Rattle.command_table.specs.declared.routing.SlotAddr.{SlotAddr}
use Rattle.command_table.specs.declared.routing.ResponsePolicy.{ResponsePolicy}
use Rattle.command_table.specs.declared.routing.MultipleNodeRoutingInfo.TheVariants.{MultiSlot}
use Rattle.command_table.specs.declared.routing.SingleNodeRoutingInfo.TheVariants as single
use Rattle.command_table.specs.declared.routing.RoutingInfo.{RoutingInfo}
use Rattle.command_table.specs.declared.routing.RoutingInfo.TheVariants.{SingleNode, MultiNode}
use Rattle.command_table.specs.declared.commands.Form.{Form}
use Rattle.command_table.specs.declared.commands.Form.TheVariants.{AllPrimaries, AllNodes, EachKey, EachPair, Random, CountedKey, AfterStreams, SecondKey, FirstKey}
use Rattle.command_table.specs.Lookup.{form_of}
use Rattle.command_table.specs.Routing.{after_streams, all_are, by_count, by_key, by_slots, is_number, keys_of_pairs, parts_of, placed, placed_all, random, routing_by, to_slot}
use Rattle.command_table.specs.Selection.{is_several, width}
use Rattle.route_laws.specs.Split.{AreApart, AreFilled, AreInTheirSlots, EachKeyIsCounted, HaveSlot, NoneIsOf, Parts, RoutesHaveParts, RoutesSplitTheKeys, Splits, keys_by, occurrences, places_of}

-- how often a place stands among two lists
occurrences-append : (k : ℕ) (is js : List ℕ) → occurrences k (is ++ js) ≡ occurrences k is + occurrences k js
occurrences-append k [] js = omega arith
occurrences-append k (i ∷ is) js = omega (arith, occurrences-append k is js)

placed_once_more : (addr : SlotAddr) (slot i k : ℕ) (ps : Parts) → occurrences k (places_of (placed addr slot i ps)) ≡ (if i == k then 1 else 0) + occurrences k (places_of ps)
placed_once_more addr slot i k [] = refl
placed_once_more addr slot i k (p ∷ ps) = by (p.0.slot == slot) (placed_once_more addr slot i k ps)
  where
    by : (b : Bool) → occurrences k (places_of (placed addr slot i ps)) ≡ (if i == k then 1 else 0) + occurrences k (places_of ps) → occurrences k (places_of (if b then (p.0, p.1 ++ i ∷ []) ∷ ps else (p ∷ placed addr slot i ps))) ≡ (if i == k then 1 else 0) + occurrences k (places_of (p ∷ ps))
    by true rest = omega (arith, occurrences-append k (p.1 ++ i ∷ []) (places_of ps), occurrences-append k p.1 (i ∷ []), occurrences-append k p.1 (places_of ps))
    by false rest = omega (arith, occurrences-append k p.1 (places_of (placed addr slot i ps)), occurrences-append k p.1 (places_of ps), rest)

-- there is one place more
counted_more : (addr : SlotAddr) (slot i : ℕ) (ps : Parts) → length (places_of (placed addr slot i ps)) ≡ length (places_of ps) + 1
counted_more addr slot i [] = refl
counted_more addr slot i (p ∷ ps) = by (p.0.slot == slot) (counted_more addr slot i ps)
  where
    by : (b : Bool) → length (places_of (placed addr slot i ps)) ≡ length (places_of ps) + 1 → length (places_of (if b then (p.0, p.1 ++ i ∷ []) ∷ ps else (p ∷ placed addr slot i ps))) ≡ length (places_of (p ∷ ps)) + 1
    by true rest = omega (arith, length-append (p.1 ++ i ∷ []) (places_of ps), length-append p.1 (i ∷ []), length-append p.1 (places_of ps))
    by false rest = omega (arith, length-append p.1 (places_of (placed addr slot i ps)), length-append p.1 (places_of ps), rest)

below_more : (i k : ℕ) → (if i == k then 1 else 0) + (if nat_lt k i then 1 else 0) ≡ (if nat_lt k (i + 1) then 1 else 0)
below_more i k = grind (arith, nat_tests)

-- no part is empty
filled_more : (addr : SlotAddr) (slot i : ℕ) (ps : Parts) → AreFilled ps → AreFilled (placed addr slot i ps)
filled_more addr slot i [] h = (omega arith, tt)
filled_more addr slot i (p ∷ ps) h = by (p.0.slot == slot) (filled_more addr slot i ps h.1)
  where
    by : (b : Bool) → AreFilled (placed addr slot i ps) → AreFilled (if b then (p.0, p.1 ++ i ∷ []) ∷ ps else (p ∷ placed addr slot i ps))
    by true rest = (omega (arith, length-append p.1 (i ∷ []), h.0), h.1)
    by false rest = (h.0, rest)

-- no two parts are of one slot
none_more : (addr : SlotAddr) (other slot i : ℕ) (ps : Parts) → (slot ≡ other → ⊥) → NoneIsOf other ps → NoneIsOf other (placed addr slot i ps)
none_more addr other slot i [] ne h = (ne, tt)
none_more addr other slot i (p ∷ ps) ne h = by (p.0.slot == slot) (none_more addr other slot i ps ne h.1)
  where
    by : (b : Bool) → NoneIsOf other (placed addr slot i ps) → NoneIsOf other (if b then (p.0, p.1 ++ i ∷ []) ∷ ps else (p ∷ placed addr slot i ps))
    by true rest = h
    by false rest = (h.0, rest)

apart_more : (addr : SlotAddr) (slot i : ℕ) (ps : Parts) → AreApart ps → AreApart (placed addr slot i ps)
apart_more addr slot i [] h = (tt, tt)
apart_more addr slot i (p ∷ ps) h = by (p.0.slot == slot) refl (apart_more addr slot i ps h.1)
  where
    by : (b : Bool) → (p.0.slot == slot) ≡ b → AreApart (placed addr slot i ps) → AreApart (if b then (p.0, p.1 ++ i ∷ []) ∷ ps else (p ∷ placed addr slot i ps))
    by true e rest = h
    by false e rest = (none_more addr p.0.slot slot i ps (λ same. ne_from p.0.slot slot e (sym same)) h.0, rest)

-- the slots of the keys, with one more
get_left : (slots : List ℕ) (slot i : ℕ) (more : List ℕ) → slice_get slots i ≡ Some slot → slice_get (slots ++ more) i ≡ Some slot
get_left [] slot i more e = cc
get_left (s ∷ slots) slot zero more e = e
get_left (s ∷ slots) slot (suc i) more e = get_left slots slot i more e

get_next : (slots : List ℕ) (slot : ℕ) → slice_get (slots ++ slot ∷ []) (length slots) ≡ Some slot
get_next [] slot = refl
get_next (s ∷ slots) slot = get_next slots slot

have_still : (slots : List ℕ) (slot : ℕ) (is more : List ℕ) → HaveSlot slots slot is → HaveSlot (slots ++ more) slot is
have_still slots slot [] more h = tt
have_still slots slot (i ∷ is) more h = (get_left slots slot i more h.0, have_still slots slot is more h.1)

have_more : (slots : List ℕ) (slot i : ℕ) (is : List ℕ) → HaveSlot slots slot is → slice_get slots i ≡ Some slot → HaveSlot slots slot (is ++ i ∷ [])
have_more slots slot i [] h e = (e, tt)
have_more slots slot i (j ∷ is) h e = (h.0, have_more slots slot i is h.1 e)

still_in_slots : (slots more : List ℕ) (ps : Parts) → AreInTheirSlots slots ps → AreInTheirSlots (slots ++ more) ps
still_in_slots slots more [] h = tt
still_in_slots slots more (p ∷ ps) h = (have_still slots p.0.slot p.1 more h.0, still_in_slots slots more ps h.1)

in_slots_more : (addr : SlotAddr) (slots : List ℕ) (slot i : ℕ) (ps : Parts) → AreInTheirSlots slots ps → slice_get slots i ≡ Some slot → AreInTheirSlots slots (placed addr slot i ps)
in_slots_more addr slots slot i [] h e = ((e, tt), tt)
in_slots_more addr slots slot i (p ∷ ps) h e = by (p.0.slot == slot) refl (in_slots_more addr slots slot i ps h.1 e)
  where
    by : (b : Bool) → (p.0.slot == slot) ≡ b → AreInTheirSlots slots (placed addr slot i ps) → AreInTheirSlots slots (if b then (p.0, p.1 ++ i ∷ []) ∷ ps else (p ∷ placed addr slot i ps))
    by true t rest = (have_more slots p.0.slot i p.1 h.0 (e ∙ ap Some (sym (eq_from p.0.slot slot t))), h.1)
    by false t rest = (h.0, rest)

one_more : (addr : SlotAddr) (slots : List ℕ) (slot : ℕ) (ps : Parts) → Splits slots ps → Splits (slots ++ slot ∷ []) (placed addr slot (length slots) ps)
one_more addr slots slot ps s = record {
  count = counted_more addr slot (length slots) ps ∙ ap (λ n. n + 1) s.count ∙ sym (length-append slots (slot ∷ []));
  once = λ k.
      placed_once_more addr slot (length slots) k ps
      ∙ ap (λ n. (if length slots == k then 1 else 0) + n) (s.once k)
      ∙ below_more (length slots) k
      ∙ ap (λ n. if nat_lt k n then 1 else 0) (sym (length-append slots (slot ∷ [])));
  filled = filled_more addr slot (length slots) ps s.filled;
  apart = apart_more addr slot (length slots) ps s.apart;
  in_slots = in_slots_more addr (slots ++ slot ∷ []) slot (length slots) ps (still_in_slots slots (slot ∷ []) ps s.in_slots) (get_next slots slot);
}

all_more : (addr : SlotAddr) (i : ℕ) (slots more : List ℕ) (ps : Parts) → length slots ≡ i → Splits slots ps → Splits (slots ++ more) (placed_all addr i more ps)
all_more addr i slots [] ps e s = subst (λ xs. Splits xs ps) (sym (append-nil slots)) s
all_more addr i slots (slot ∷ more) ps e s =
    let next : Splits (slots ++ slot ∷ []) (placed addr slot i ps) = subst (λ n. Splits (slots ++ slot ∷ []) (placed addr slot n ps)) e (one_more addr slots slot ps s) in
    subst (λ xs. Splits xs (placed_all addr (suc i) more (placed addr slot i ps))) (append_assoc slots (slot ∷ []) more)
    (all_more addr (suc i) (slots ++ slot ∷ []) more (placed addr slot i ps) (length-append slots (slot ∷ []) ∙ omega (arith, e)) next)

none_below : (k : ℕ) → occurrences k [] ≡ (if nat_lt k 0 then 1 else 0)
none_below k = grind (arith, nat_tests)

nothing_split : Splits [] []
nothing_split = record { count = refl; once = none_below; filled = tt; apart = tt; in_slots = tt }

parts_split : (addr : SlotAddr) (slots : List ℕ) → Splits slots (parts_of addr slots)
parts_split addr slots = all_more addr 0 [] slots [] refl nothing_split

-- which routes are to several slots
abbrev several : Parts → Option ResponsePolicy → RoutingInfo
several parts policy = MultiNode (MultiSlot parts) policy

by_its_slots : (addr : SlotAddr) (rule : ResponsePolicy) (slots : List ℕ) (parts : Parts) (policy : Option ResponsePolicy) → by_slots addr rule slots ≡ several parts policy → parts ≡ parts_of addr slots
by_its_slots addr rule [] parts policy e = cc
by_its_slots addr rule (s ∷ slots) parts policy e = by (all_are s slots) e
  where
    by : (b : Bool) → (if b then to_slot addr s else MultiNode (MultiSlot (parts_of addr (s ∷ slots))) (Some rule)) ≡ several parts policy → parts ≡ parts_of addr (s ∷ slots)
    by true h = cc
    by false h = cc

not_by_key : (addr : SlotAddr) (key : Option (List ℕ)) (parts : Parts) (policy : Option ResponsePolicy) → by_key addr key ≡ several parts policy → ⊥
not_by_key addr None parts policy e = cc
not_by_key addr (Some key) parts policy e = cc

not_by_count : (addr : SlotAddr) (count key : Option (List ℕ)) (parts : Parts) (policy : Option ResponsePolicy) → by_count addr count key ≡ several parts policy → ⊥
not_by_count addr None key parts policy e = cc
not_by_count addr (Some count) key parts policy e = by (is_number count) (digits_value 10 count == 0) e
  where
    by : (b z : Bool) → (if b then (if z then SingleNode single.RandomPrimary else by_key addr key) else random) ≡ several parts policy → ⊥
    by true true h = cc
    by true false h = not_by_key addr key parts policy h
    by false z h = cc

by_form : (form : Form) (args : List (List ℕ)) (parts : Parts) (policy : Option ResponsePolicy) → routing_by form args ≡ several parts policy → Splits (map slot_of (keys_by form args)) parts
by_form (AllPrimaries rule) args parts policy e = cc
by_form (AllNodes rule) args parts policy e = cc
by_form (EachKey addr rule) args parts policy e = subst (Splits (map slot_of args)) (sym (by_its_slots addr rule (map slot_of args) parts policy e)) (parts_split addr (map slot_of args))
by_form (EachPair addr rule) args parts policy e = by (length args % 2 == 1) e
  where
    by : (b : Bool) → (if b then by_key addr (slice_get args 0) else by_slots addr rule (map slot_of (keys_of_pairs args))) ≡ several parts policy → Splits (map slot_of (keys_of_pairs args)) parts
    by true h = absurd (not_by_key addr (slice_get args 0) parts policy h)
    by false h = subst (Splits (map slot_of (keys_of_pairs args))) (sym (by_its_slots addr rule (map slot_of (keys_of_pairs args)) parts policy h)) (parts_split addr (map slot_of (keys_of_pairs args)))
by_form Random args parts policy e = cc
by_form (CountedKey addr) args parts policy e = absurd (not_by_count addr (slice_get args 1) (slice_get args 2) parts policy e)
by_form (AfterStreams addr) args parts policy e = absurd (not_by_key addr (after_streams args) parts policy e)
by_form (SecondKey addr) args parts policy e = absurd (not_by_key addr (slice_get args 1) parts policy e)
by_form (FirstKey addr) args parts policy e = absurd (not_by_key addr (slice_get args 0) parts policy e)

some_same : {A : Type 0} (x y : A) → Some x ≡ Some y → x ≡ y
some_same x y e = cc e

pub routes_split : RoutesSplitTheKeys
routes_split [] parts policy e = cc
routes_split (name ∷ args) parts policy e = by_form (form_of name args) args parts policy (some_same _ _ e)

-- a route to several slots has a part
none_of_slots : (addr : SlotAddr) (rule : ResponsePolicy) (slots : List ℕ) (policy : Option ResponsePolicy) → by_slots addr rule slots ≡ several [] policy → ⊥
none_of_slots addr rule [] policy e = cc
none_of_slots addr rule (s ∷ slots) policy e =
    let none : [] ≡ parts_of addr (s ∷ slots) = by_its_slots addr rule (s ∷ slots) [] policy e in
    let split : Splits (s ∷ slots) [] = subst (Splits (s ∷ slots)) (sym none) (parts_split addr (s ∷ slots)) in
    absurd (omega (arith, split.count))

none_by_form : (form : Form) (args : List (List ℕ)) (policy : Option ResponsePolicy) → routing_by form args ≡ several [] policy → ⊥
none_by_form (AllPrimaries rule) args policy e = cc
none_by_form (AllNodes rule) args policy e = cc
none_by_form (EachKey addr rule) args policy e = none_of_slots addr rule (map slot_of args) policy e
none_by_form (EachPair addr rule) args policy e = by (length args % 2 == 1) e
  where
    by : (b : Bool) → (if b then by_key addr (slice_get args 0) else by_slots addr rule (map slot_of (keys_of_pairs args))) ≡ several [] policy → ⊥
    by true h = not_by_key addr (slice_get args 0) [] policy h
    by false h = none_of_slots addr rule (map slot_of (keys_of_pairs args)) policy h
none_by_form Random args policy e = cc
none_by_form (CountedKey addr) args policy e = not_by_count addr (slice_get args 1) (slice_get args 2) [] policy e
none_by_form (AfterStreams addr) args policy e = not_by_key addr (after_streams args) [] policy e
none_by_form (SecondKey addr) args policy e = not_by_key addr (slice_get args 1) [] policy e
none_by_form (FirstKey addr) args policy e = not_by_key addr (slice_get args 0) [] policy e

pub have_parts : RoutesHaveParts
have_parts [] parts policy e = cc
have_parts (name ∷ args) [] policy e = absurd (none_by_form (form_of name args) args policy (some_same _ _ e))
have_parts (name ∷ args) (p ∷ ps) policy e = omega arith

-- how many keys a command has
pairs : (args : List (List ℕ)) → length (keys_of_pairs args) ≡ length args / 2
pairs [] = refl
pairs (key ∷ []) = refl
pairs (key ∷ value ∷ rest) = omega (arith, pairs rest)

counted : (form : Form) (args : List (List ℕ)) → is_several form ≡ true → length (keys_by form args) ≡ length args / width form
counted (EachKey addr rule) args h = omega arith
counted (EachPair addr rule) args h = pairs args
counted (AllPrimaries rule) args h = cc
counted (AllNodes rule) args h = cc
counted Random args h = cc
counted (CountedKey addr) args h = cc
counted (AfterStreams addr) args h = cc
counted (SecondKey addr) args h = cc
counted (FirstKey addr) args h = cc

pub each_key_is_counted : EachKeyIsCounted
each_key_is_counted [] h = cc
each_key_is_counted (name ∷ args) h = counted (form_of name args) args h
