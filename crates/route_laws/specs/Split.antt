-- How the keys of a command are split over several slots.
use Rattle.std.specs.Prelude.{◌≡◌, ℕ, ◌+◌, ◌<◌, ◌==◌, nat_lt, true, List, [], ◌∷◌, map, length, Option, Some, slice_get, if◌then◌else◌}
use Rattle.std.specs.List.{flat_map}
use Rattle.slot_hash.specs.Tag.{slot_of}
use Rattle.command_table.specs.declared.routing.Route.{Route}
use Rattle.command_table.specs.declared.routing.ResponsePolicy.{ResponsePolicy}
use Rattle.command_table.specs.declared.routing.MultipleNodeRoutingInfo.TheVariants.{MultiSlot}
use Rattle.command_table.specs.declared.routing.RoutingInfo.TheVariants.{MultiNode}
use Rattle.command_table.specs.declared.commands.Form.{Form}
use Rattle.command_table.specs.declared.commands.Form.TheVariants.{EachPair}
use Rattle.command_table.specs.Lookup.{form_of}
use Rattle.command_table.specs.Routing.{keys_of_pairs, routing_of}
use Rattle.command_table.specs.Selection.{key_count, may_be_several}

-- the keys of a command that may have them in several slots: all arguments, or where each key has a value those that have one
abbrev pub keys_by : Form → List (List ℕ) → List (List ℕ)
keys_by (EachPair addr policy) args = keys_of_pairs args
keys_by form args = args

-- the same, of the name with the arguments
abbrev pub keys : List (List ℕ) → List (List ℕ)
keys [] = []
keys (name ∷ args) = keys_by (form_of name args) args

-- the routes of a command's parts, each with the places of its keys
abbrev pub Parts : Type 0
Parts = List (Route × List ℕ)

-- how often a place stands among these
abbrev pub occurrences : ℕ → List ℕ → ℕ
occurrences place [] = 0
occurrences place (i ∷ is) = (if i == place then 1 else 0) + occurrences place is

-- the places of all parts
abbrev pub places_of : Parts → List ℕ
places_of parts = flat_map (λ p. p.1) parts

-- each part has a key
abbrev pub AreFilled : Parts → Type 0
AreFilled [] = Unit {0}
AreFilled (p ∷ ps) = (0 < length p.1) × AreFilled ps

-- none of these parts is of this slot
abbrev pub NoneIsOf : ℕ → Parts → Type 0
NoneIsOf slot [] = Unit {0}
NoneIsOf slot (p ∷ ps) = (p.0.slot ≡ slot → ⊥) × NoneIsOf slot ps

-- no two parts are of one slot
abbrev pub AreApart : Parts → Type 0
AreApart [] = Unit {0}
AreApart (p ∷ ps) = NoneIsOf p.0.slot ps × AreApart ps

-- the keys of these places have this slot
abbrev pub HaveSlot : List ℕ → ℕ → List ℕ → Type 0
HaveSlot slots slot [] = Unit {0}
HaveSlot slots slot (i ∷ is) = (slice_get slots i ≡ Some slot) × HaveSlot slots slot is

-- each part's keys have its slot
abbrev pub AreInTheirSlots : List ℕ → Parts → Type 0
AreInTheirSlots slots [] = Unit {0}
AreInTheirSlots slots (p ∷ ps) = HaveSlot slots p.0.slot p.1 × AreInTheirSlots slots ps

-- the parts split the keys of these slots: their places together are the numbers below the count of the keys, each once; each key
-- has its place in the part of its slot; no part is empty, and no slot has two
pub record Splits (slots : List ℕ) (parts : Parts) : Type 0 where
  pub count : length (places_of parts) ≡ length slots
  pub once : (place : ℕ) → occurrences place (places_of parts) ≡ (if nat_lt place (length slots) then 1 else 0)
  pub filled : AreFilled parts
  pub apart : AreApart parts
  pub in_slots : AreInTheirSlots slots parts

-- every route to several slots splits the command's keys
abbrev pub RoutesSplitTheKeys : Type 0
RoutesSplitTheKeys =
    (args : List (List ℕ)) (parts : Parts) (policy : Option ResponsePolicy)
    → routing_of args ≡ Some (MultiNode (MultiSlot parts) policy) → Splits (map slot_of (keys args)) parts

-- every route to several slots has a part
abbrev pub RoutesHaveParts : Type 0
RoutesHaveParts =
    (args : List (List ℕ)) (parts : Parts) (policy : Option ResponsePolicy)
    → routing_of args ≡ Some (MultiNode (MultiSlot parts) policy) → 0 < length parts

-- a command that may have keys in several slots has as many keys as are counted of it
abbrev pub EachKeyIsCounted : Type 0
EachKeyIsCounted = (args : List (List ℕ)) → may_be_several args ≡ true → length (keys args) ≡ key_count args
