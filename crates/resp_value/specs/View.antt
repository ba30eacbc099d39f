-- The tree that a value stands for, and the value that a tree stands for.
use Rattle.std.specs.Prelude.{◌≡◌, List, [], ◌∷◌, map, refl}
use Rattle.std.proofs.Common.{ap}
use Rattle.resp_value.specs.Data.{Data, nil, int, bulk, array, simple, okay, dict, attribute, set, double, boolean, verbatim, big, push, error, Items, no_items, item, items_of, list_of, Members, no_members, member, members_of, pairs_of}
use Rattle.resp_value.specs.declared.value.Value.{Value}
use Rattle.resp_value.specs.declared.value.Value.TheVariants.{Nil, Int, BulkString, Array, SimpleString, Okay, Map, Attribute, Set, Double, Boolean, VerbatimString, BigNumber, Push, ServerError}

abbrev pub data_of : Value → Data
data_of Nil = nil
data_of (Int n) = int n
data_of (BulkString t) = bulk t
data_of (Array ds) = array (items_of ds)
data_of (SimpleString t) = simple t
data_of Okay = okay
data_of (Map ps) = dict (members_of ps)
data_of (Attribute d ps) = attribute d (members_of ps)
data_of (Set ds) = set (items_of ds)
data_of (Double t) = double t
data_of (Boolean b) = boolean b
data_of (VerbatimString s t) = verbatim s t
data_of (BigNumber t) = big t
data_of (Push k ds) = push k (items_of ds)
data_of (ServerError e) = error e

abbrev pub list_view : List Value → List Data
list_view vs = map data_of vs

abbrev pub pair_of : Value × Value → Data × Data
pair_of p = (data_of p.0, data_of p.1)

abbrev pub pairs_view : List (Value × Value) → List (Data × Data)
pairs_view ps = map pair_of ps

abbrev pub value_of : Data → Value
value_of nil = Nil
value_of (int n) = Int n
value_of (bulk t) = BulkString t
value_of (array ds) = Array (list_of ds)
value_of (simple t) = SimpleString t
value_of okay = Okay
value_of (dict ms) = Map (pairs_of ms)
value_of (attribute d ms) = Attribute d (pairs_of ms)
value_of (set ds) = Set (list_of ds)
value_of (double t) = Double t
value_of (boolean b) = Boolean b
value_of (verbatim s t) = VerbatimString s t
value_of (big t) = BigNumber t
value_of (push k ds) = Push k (list_of ds)
value_of (error e) = ServerError e

pub list_of-items_of : (ds : List Data) → list_of (items_of ds) ≡ ds
list_of-items_of [] = refl
list_of-items_of (d ∷ ds) = ap (λ es. d ∷ es) (list_of-items_of ds)

items_of-list_of : (ds : Items) → items_of (list_of ds) ≡ ds
items_of-list_of no_items = refl
items_of-list_of (item d ds) = ap (item d) (items_of-list_of ds)

pub pairs_of-members_of : (ps : List (Data × Data)) → pairs_of (members_of ps) ≡ ps
pairs_of-members_of [] = refl
pairs_of-members_of (p ∷ ps) = ap (λ qs. p ∷ qs) (pairs_of-members_of ps)

members_of-pairs_of : (ms : Members) → members_of (pairs_of ms) ≡ ms
members_of-pairs_of no_members = refl
members_of-pairs_of (member k d ms) = ap (member k d) (members_of-pairs_of ms)

pub value_of-data_of : (v : Value) → value_of (data_of v) ≡ v
value_of-data_of Nil = refl
value_of-data_of (Int n) = refl
value_of-data_of (BulkString t) = refl
value_of-data_of (Array ds) = ap Array (list_of-items_of ds)
value_of-data_of (SimpleString t) = refl
value_of-data_of Okay = refl
value_of-data_of (Map ps) = ap Map (pairs_of-members_of ps)
value_of-data_of (Attribute d ps) = ap (Attribute d) (pairs_of-members_of ps)
value_of-data_of (Set ds) = ap Set (list_of-items_of ds)
value_of-data_of (Double t) = refl
value_of-data_of (Boolean b) = refl
value_of-data_of (VerbatimString s t) = refl
value_of-data_of (BigNumber t) = refl
value_of-data_of (Push k ds) = ap (Push k) (list_of-items_of ds)
value_of-data_of (ServerError e) = refl

pub data_of-value_of : (d : Data) → data_of (value_of d) ≡ d
data_of-value_of nil = refl
data_of-value_of (int n) = refl
data_of-value_of (bulk t) = refl
data_of-value_of (array ds) = ap array (items_of-list_of ds)
data_of-value_of (simple t) = refl
data_of-value_of okay = refl
data_of-value_of (dict ms) = ap dict (members_of-pairs_of ms)
data_of-value_of (attribute d ms) = ap (attribute d) (members_of-pairs_of ms)
data_of-value_of (set ds) = ap set (items_of-list_of ds)
data_of-value_of (double t) = refl
data_of-value_of (boolean b) = refl
data_of-value_of (verbatim s t) = refl
data_of-value_of (big t) = refl
data_of-value_of (push k ds) = ap (push k) (items_of-list_of ds)
data_of-value_of (error e) = refl
