-- What a value is: the tree that contracts see inside an aggregate.
use Rattle.resp_value.specs.declared.push_kind.PushKind.{PushKind}
use Rattle.resp_value.specs.declared.server_error.ServerError.{ServerError}
use Rattle.std.specs.Prelude.{ℕ, suc, ◌+◌, ℤ, Bool, List, [], ◌∷◌}

mutual
  pub data Data : Type 0 where
    nil : Data
    int : ℤ → Data
    bulk : List ℕ → Data
    array : Items → Data
    simple : List ℕ → Data
    okay : Data
    dict : Members → Data
    attribute : Data → Members → Data
    set : Items → Data
    double : List ℕ → Data
    boolean : Bool → Data
    verbatim : List ℕ → List ℕ → Data
    big : List ℕ → Data
    push : PushKind → Items → Data
    error : ServerError → Data

  pub data Items : Type 0 where
    no_items : Items
    item : Data → Items → Items

  pub data Members : Type 0 where
    no_members : Members
    member : Data → Data → Members → Members

-- the elements in order, and back
abbrev pub items_of : List Data → Items
items_of [] = no_items
items_of (d ∷ ds) = item d (items_of ds)

abbrev pub list_of : Items → List Data
list_of no_items = []
list_of (item d ds) = d ∷ list_of ds

abbrev pub members_of : List (Data × Data) → Members
members_of [] = no_members
members_of (p ∷ ps) = member p.0 p.1 (members_of ps)

abbrev pub pairs_of : Members → List (Data × Data)
pairs_of no_members = []
pairs_of (member k d ms) = (k, d) ∷ pairs_of ms

-- how many nodes it has
abbrev mutual
  pub weight : Data → ℕ
  weight nil = 1
  weight (int n) = 1
  weight (bulk t) = 1
  weight (array ds) = suc (items_weight ds)
  weight (simple t) = 1
  weight okay = 1
  weight (dict ms) = suc (members_weight ms)
  weight (attribute d ms) = suc (weight d + members_weight ms)
  weight (set ds) = suc (items_weight ds)
  weight (double t) = 1
  weight (boolean b) = 1
  weight (verbatim s t) = 1
  weight (big t) = 1
  weight (push k ds) = suc (items_weight ds)
  weight (error e) = 1

  pub items_weight : Items → ℕ
  items_weight no_items = 0
  items_weight (item d ds) = suc (weight d + items_weight ds)

  pub members_weight : Members → ℕ
  members_weight no_members = 0
  members_weight (member k d ms) = suc (weight k + weight d + members_weight ms)

abbrev pub list_weight : List Data → ℕ
list_weight ds = items_weight (items_of ds)

abbrev pub pairs_weight : List (Data × Data) → ℕ
pairs_weight ps = members_weight (members_of ps)
