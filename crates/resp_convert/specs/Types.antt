-- Which values are what of each type.
use Rattle.std.specs.Prelude.{◌≡◌, ℕ, ◌<◌, ◌^◌, ℤ, pos, Bool, List, [], ◌∷◌, Option, Some, None, option_map, fold, codes, if◌then◌else◌}
use mir.Syntax.{Width}
use mir.Val.{SFits}
use Rattle.std.specs.List.{AllByRecursion}
use Rattle.std.specs.Str.{IsUtf8}
use Rattle.std.specs.Str.Parse.{IsNumeral, without_leading_plus, without_leading_sign, digits_value, signed_digits_value}
use Rattle.std.specs.declared.cmp.Ordering.{Ordering}
use Rattle.std.specs.BTreeMap.{BTreeMap, insert_entry}
use Rattle.std.specs.BTreeSet as ordered
use Rattle.std.specs.BTreeSet.{BTreeSet}
use Rattle.std.specs.HashMap as mapped
use Rattle.std.specs.HashMap.{HashMap}
use Rattle.std.specs.HashSet as hashed
use Rattle.std.specs.HashSet.{HashSet}
use Rattle.std.specs.Float.{Float, binary64}
use Rattle.std.specs.Float.Ieee.{of_int}
use Rattle.std.specs.Float.Parse.{parse_float}
use Rattle.resp_value.specs.Data.{Data, nil, int, bulk, array, simple, okay, dict, attribute, set, double, boolean, verbatim, error, list_of, pairs_of}

-- a value without the attributes that stand before it
abbrev pub bare : Data → Data
bare (attribute d ms) = bare d
bare d = d

-- the text of a value that is one
abbrev pub text_of : Data → Option (List ℕ)
text_of (bulk text) = Some text
text_of (simple text) = Some text
text_of (verbatim format text) = Some text
text_of okay = Some (codes "OK")
text_of _ = None

-- a text of these bytes
abbrev pub IsText : Data → List ℕ → Type 0
IsText d bytes = text_of (bare d) ≡ Some bytes

-- a text of these bytes, which are UTF-8
abbrev pub IsUnicode : Data → List ℕ → Type 0
IsUnicode d bytes = IsText d bytes × IsUtf8 bytes

-- decimal digits, one at least, with a sign or without, of this number
abbrev pub IsDecimal : List ℕ → ℤ → Type 0
IsDecimal text n = IsNumeral 10 (without_leading_sign text) × (n ≡ signed_digits_value 10 text)

-- decimal digits, one at least, with a plus or without, of this number
abbrev pub IsPlainDecimal : List ℕ → ℕ → Type 0
IsPlainDecimal text n = IsNumeral 10 (without_leading_plus text) × (n ≡ digits_value 10 (without_leading_plus text))

-- a number, or a text that is one in decimal
abbrev pub IsNumber : Data → ℤ → Type 0
IsNumber (int m) n = n ≡ m
IsNumber (bulk text) n = IsDecimal text n
IsNumber (simple text) n = IsDecimal text n
IsNumber (verbatim format text) n = IsDecimal text n
IsNumber _ n = ⊥

-- the same of a number that is not below 0
abbrev pub IsCount : Data → ℕ → Type 0
IsCount (int m) n = m ≡ pos n
IsCount (bulk text) n = IsPlainDecimal text n
IsCount (simple text) n = IsPlainDecimal text n
IsCount (verbatim format text) n = IsPlainDecimal text n
IsCount _ n = ⊥

-- a number that fits a type of this width, with a sign
abbrev pub IsInteger : Width → Data → ℤ → Type 0
IsInteger width d n = SFits width n × IsNumber (bare d) n

-- a number that fits a type of so many bits, without a sign
abbrev pub IsNatural : ℕ → Data → ℕ → Type 0
IsNatural bits d n = (n < 2 ^ bits) × IsCount (bare d) n

-- a truth value, or the number 0 or 1
abbrev pub IsTruth : Data → Bool → Type 0
IsTruth (boolean a) b = b ≡ a
IsTruth (int n) b = n ≡ (if b then pos 1 else pos 0)
IsTruth _ b = ⊥

-- Nil is none
abbrev pub IsOptional : {S : Type 0} → (Data → S → Type 0) → Data → Option S → Type 0
IsOptional reads nil o = o ≡ None
IsOptional reads d None = ⊥
IsOptional reads d (Some x) = reads d x

-- each is what stands at its place
abbrev pub IsEach : {A S : Type 0} → (A → S → Type 0) → List A → List S → Type 0
IsEach reads [] [] = Unit {0}
IsEach reads [] (x ∷ xs) = ⊥
IsEach reads (d ∷ ds) [] = ⊥
IsEach reads (d ∷ ds) (x ∷ xs) = reads d x × IsEach reads ds xs

-- the items of an array or a set
abbrev pub items_in : Data → Option (List Data)
items_in (array ds) = Some (list_of ds)
items_in (set ds) = Some (list_of ds)
items_in _ = None

-- the same of items that are there
abbrev pub IsEachOf : {A S : Type 0} → (A → S → Type 0) → Option (List A) → List S → Type 0
IsEachOf reads None xs = ⊥
IsEachOf reads (Some ds) xs = IsEach reads ds xs

-- an array or a set of such values
abbrev pub IsList : {S : Type 0} → (Data → S → Type 0) → Data → List S → Type 0
IsList reads d xs = IsEachOf reads (items_in (bare d)) xs

-- anything but a server error
abbrev pub IsDone : Data → Type 0
IsDone (error e) = ⊥
IsDone _ = Unit {0}

-- values that stand by twos: a key, and its value
abbrev pub paired : List Data → Option (List (Data × Data))
paired [] = Some []
paired (k ∷ []) = None
paired (k ∷ d ∷ ds) = option_map (λ ps. (k, d) ∷ ps) (paired ds)

-- the keys and values of a map, or of an array of even length
abbrev pub pairs_in : Data → Option (List (Data × Data))
pairs_in (dict ms) = Some (pairs_of ms)
pairs_in (array ds) = paired (list_of ds)
pairs_in _ = None

-- a key and its value
abbrev pub IsPair : {K V : Type 0} → (Data → K → Type 0) → (Data → V → Type 0) → Data × Data → K × V → Type 0
IsPair keys values p x = keys p.0 x.0 × values p.1 x.1

-- a map, or an array of even length, of such keys and values, in order
abbrev pub IsPairs : {K V : Type 0} → (Data → K → Type 0) → (Data → V → Type 0) → Data → List (K × V) → Type 0
IsPairs keys values d xs = IsEachOf (IsPair keys values) (pairs_in (bare d)) xs

-- the entries of a map into which pairs were put in order: of equal keys the last has the value
abbrev pub entries_of : {K V : Type 0} → (K → K → Ordering) → List (K × V) → List (K × V)
entries_of cmp xs = fold (λ es x. insert_entry cmp es x.0 x.1) [] xs

-- a map of such keys and values
abbrev pub IsMap : {K V : Type 0} → (K → K → Ordering) → (Data → K → Type 0) → (Data → V → Type 0) → Data → BTreeMap K V → Type 0
IsMap {K} {V} cmp keys values d m = (xs : List (K × V)) × IsPairs keys values d xs × (m.entries ≡ entries_of cmp xs)

-- a set of just the items of an array or a set
abbrev pub IsOrderedSet : {K : Type 0} → (K → K → Ordering) → (Data → K → Type 0) → Data → BTreeSet K → Type 0
IsOrderedSet {K} cmp reads d s = (xs : List K) × IsList reads d xs × ordered.IsFromIterResult cmp xs s

-- the same of a set without an order
abbrev pub IsHashSet : {K S : Type 0} → (K → K → Bool) → (Data → K → Type 0) → Data → HashSet K S → Type 0
IsHashSet {K} eq reads d s = (xs : List K) × IsList reads d xs × hashed.IsFromIterResult eq xs s

-- a map without an order, into which such keys and values were put in order: of equal keys the last has the value
abbrev pub IsHashMap : {K V S : Type 0} → (K → K → Bool) → (Data → K → Type 0) → (Data → V → Type 0) → Data → HashMap K V S → Type 0
IsHashMap {K} {V} eq keys values d m = (xs : List (K × V)) × IsPairs keys values d xs × mapped.IsFromIterResult eq xs m

-- the first is x, and the others are as `rest` says
abbrev pub Begins : {S : Type 0} → (Data → S → Type 0) → S → (List Data → Type 0) → List Data → Type 0
Begins reads x rest [] = ⊥
Begins reads x rest (d ∷ ds) = reads d x × rest ds

-- there are no others
abbrev pub Ends : List Data → Type 0
Ends [] = Unit {0}
Ends (d ∷ ds) = ⊥

-- just one value, of its type
abbrev pub AreOne : {A : Type 0} → (Data → A → Type 0) → List Data → A → Type 0
AreOne a ds x = Begins a x Ends ds

-- just two, each of its own type
abbrev pub AreTwo : {A B : Type 0} → (Data → A → Type 0) → (Data → B → Type 0) → List Data → A × B → Type 0
AreTwo a b ds x = Begins a x.0 (λ es. AreOne b es x.1) ds

-- just three, each of its own type
abbrev pub AreThree : {A B C : Type 0} → (Data → A → Type 0) → (Data → B → Type 0) → (Data → C → Type 0) → List Data → A × B × C → Type 0
AreThree a b c ds x = Begins a x.0 (λ es. AreTwo b c es (x.1, x.2)) ds

-- just four, each of its own type
abbrev pub AreFour : {A B C D : Type 0} → (Data → A → Type 0) → (Data → B → Type 0) → (Data → C → Type 0) → (Data → D → Type 0) → List Data → A × B × C × D → Type 0
AreFour a b c d ds x = Begins a x.0 (λ es. AreThree b c d es (x.1, x.2, x.3)) ds

-- just five, each of its own type
abbrev pub AreFive : {A B C D E : Type 0} → (Data → A → Type 0) → (Data → B → Type 0) → (Data → C → Type 0) → (Data → D → Type 0) → (Data → E → Type 0) → List Data → A × B × C × D × E → Type 0
AreFive a b c d e ds x = Begins a x.0 (λ es. AreFour b c d e es (x.1, x.2, x.3, x.4)) ds

-- just six, each of its own type
abbrev pub AreSix : {A B C D E F : Type 0} → (Data → A → Type 0) → (Data → B → Type 0) → (Data → C → Type 0) → (Data → D → Type 0) → (Data → E → Type 0) → (Data → F → Type 0) → List Data → A × B × C × D × E × F → Type 0
AreSix a b c d e f ds x = Begins a x.0 (λ es. AreFive b c d e f es (x.1, x.2, x.3, x.4, x.5)) ds

-- items that are there, and are as `are` says
abbrev pub AreThere : {S : Type 0} → (List Data → S → Type 0) → Option (List Data) → S → Type 0
AreThere are None x = ⊥
AreThere are (Some ds) x = are ds x

-- an array or a set, behind any attributes, whose items are as `are` says
abbrev pub HasItems : {S : Type 0} → (List Data → S → Type 0) → Data → S → Type 0
HasItems are d x = AreThere are (items_in (bare d)) x

-- Which values can be moved: nil into an option, and what can be moved into its own type.
abbrev pub FitsOption : (Data → Type 0) → Data → Type 0
FitsOption fits nil = Unit {0}
FitsOption fits d = fits d

-- what is there, and can all be moved
abbrev pub AllFit : {A : Type 0} → (A → Type 0) → Option (List A) → Type 0
AllFit fits None = ⊥
AllFit fits (Some ds) = AllByRecursion fits ds

-- an array or a set of such values
abbrev pub FitsList : (Data → Type 0) → Data → Type 0
FitsList fits d = AllFit fits (items_in (bare d))

-- such a key and such a value
abbrev pub FitsPair : (Data → Type 0) → (Data → Type 0) → Data × Data → Type 0
FitsPair keys values p = keys p.0 × values p.1

-- the keys and values of a map
abbrev pub members_in : Data → Option (List (Data × Data))
members_in (dict ms) = Some (pairs_of ms)
members_in _ = None

-- a map of such keys and values
abbrev pub FitsPairs : (Data → Type 0) → (Data → Type 0) → Data → Type 0
FitsPairs keys values d = AllFit (FitsPair keys values) (members_in (bare d))

-- a number, or a text of one: the float that is nearest to it
abbrev pub IsFloat : Data → Float → Type 0
IsFloat (int n) x = x ≡ of_int binary64 n
IsFloat (double text) x = parse_float binary64 text ≡ Some x
IsFloat (bulk text) x = parse_float binary64 text ≡ Some x
IsFloat (simple text) x = parse_float binary64 text ≡ Some x
IsFloat (verbatim format text) x = parse_float binary64 text ≡ Some x
IsFloat _ x = ⊥
