-- The route of one command.
use Rattle.std.specs.Prelude.{ℕ, suc, ◌%◌, ◌==◌, ◌&&◌, nat_lt, Bool, true, List, [], ◌∷◌, ◌++◌, map, length, Option, Some, None, slice_get, codes, if◌then◌else◌}
use Rattle.std.specs.Str.{all_ascii_digits, str_eq_ignore_ascii_case}
use Rattle.std.specs.Str.Parse.{digits_value}
use Rattle.slot_hash.specs.Tag.{slot_of}
use Rattle.command_table.specs.declared.routing.Route.{Route}
use Rattle.command_table.specs.declared.routing.SlotAddr.{SlotAddr}
use Rattle.command_table.specs.declared.routing.ResponsePolicy.{ResponsePolicy}
use Rattle.command_table.specs.declared.routing.MultipleNodeRoutingInfo.TheVariants as many
use Rattle.command_table.specs.declared.routing.SingleNodeRoutingInfo.TheVariants as one
use Rattle.command_table.specs.declared.routing.RoutingInfo.{RoutingInfo}
use Rattle.command_table.specs.declared.routing.RoutingInfo.TheVariants.{SingleNode, MultiNode}
use Rattle.command_table.specs.declared.commands.Form.{Form}
use Rattle.command_table.specs.declared.commands.Form.TheVariants.{AllPrimaries, AllNodes, EachKey, EachPair, Random, CountedKey, AfterStreams, SecondKey, FirstKey}
use Rattle.command_table.specs.Lookup.{form_of}

abbrev pub random : RoutingInfo
random = SingleNode one.Random

abbrev pub to_slot : SlotAddr → ℕ → RoutingInfo
to_slot addr slot = SingleNode (one.SpecificNode (record { slot = slot; addr = addr }))

-- to the slot of a key; without one to a random node
abbrev pub by_key : SlotAddr → Option (List ℕ) → RoutingInfo
by_key addr None = random
by_key addr (Some key) = to_slot addr (slot_of key)

-- a number of keys: decimal digits
abbrev pub is_number : List ℕ → Bool
is_number text = nat_lt 0 (length text) && all_ascii_digits text

-- by the number of keys, and the first key: none of them, and any primary will do
abbrev pub by_count : SlotAddr → Option (List ℕ) → Option (List ℕ) → RoutingInfo
by_count addr None key = random
by_count addr (Some count) key = if is_number count then (if digits_value 10 count == 0 then SingleNode one.RandomPrimary else by_key addr key) else random

-- the argument after the first STREAMS
abbrev pub after_streams : List (List ℕ) → Option (List ℕ)
after_streams [] = None
after_streams (a ∷ rest) = if str_eq_ignore_ascii_case a (codes "STREAMS") then slice_get rest 0 else after_streams rest

-- the keys that have a value
abbrev pub keys_of_pairs : List (List ℕ) → List (List ℕ)
keys_of_pairs [] = []
keys_of_pairs (key ∷ []) = []
keys_of_pairs (key ∷ value ∷ rest) = key ∷ keys_of_pairs rest

-- the key of place i, of this slot, joins the part of its slot, or begins a new last part
abbrev pub placed : SlotAddr → ℕ → ℕ → List (Route × List ℕ) → List (Route × List ℕ)
placed addr slot i [] = (record { slot = slot; addr = addr }, i ∷ []) ∷ []
placed addr slot i (p ∷ ps) = if p.0.slot == slot then (p.0, p.1 ++ i ∷ []) ∷ ps else p ∷ placed addr slot i ps

-- the keys of these slots, of which the first has place i, one after another
abbrev pub placed_all : SlotAddr → ℕ → List ℕ → List (Route × List ℕ) → List (Route × List ℕ)
placed_all addr i [] parts = parts
placed_all addr i (slot ∷ slots) parts = placed_all addr (suc i) slots (placed addr slot i parts)

-- one part for each slot, in the order of the first key of each
abbrev pub parts_of : SlotAddr → List ℕ → List (Route × List ℕ)
parts_of addr slots = placed_all addr 0 slots []

abbrev pub all_are : ℕ → List ℕ → Bool
all_are slot [] = true
all_are slot (s ∷ slots) = s == slot && all_are slot slots

-- by the slots of all keys: one slot is a single route
abbrev pub by_slots : SlotAddr → ResponsePolicy → List ℕ → RoutingInfo
by_slots addr policy [] = random
by_slots addr policy (slot ∷ slots) =
    if all_are slot slots
    then to_slot addr slot
    else MultiNode (many.MultiSlot (parts_of addr (slot ∷ slots))) (Some policy)

-- by the arguments after the name
abbrev pub routing_by : Form → List (List ℕ) → RoutingInfo
routing_by (AllPrimaries policy) args = MultiNode many.AllMasters (Some policy)
routing_by (AllNodes policy) args = MultiNode many.AllNodes (Some policy)
routing_by (EachKey addr policy) args = by_slots addr policy (map slot_of args)
routing_by (EachPair addr policy) args =
    if length args % 2 == 1
    then by_key addr (slice_get args 0)
    else by_slots addr policy (map slot_of (keys_of_pairs args))
routing_by Random args = random
routing_by (CountedKey addr) args = by_count addr (slice_get args 1) (slice_get args 2)
routing_by (AfterStreams addr) args = by_key addr (after_streams args)
routing_by (SecondKey addr) args = by_key addr (slice_get args 1)
routing_by (FirstKey addr) args = by_key addr (slice_get args 0)

-- of a command, if it has a name
abbrev pub routing_of : List (List ℕ) → Option RoutingInfo
routing_of [] = None
routing_of (name ∷ args) = Some (routing_by (form_of name args) args)
