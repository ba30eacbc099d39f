-- The code of a tree, by which a proof tells two apart.
use Rattle.std.specs.Prelude.{◌≡◌, ℕ, pos, negsuc, true, false, List, [], ◌∷◌, Some, None, refl}
use Rattle.std.specs.Coded.{Coded, code_by}
use base.Stored.{Gv, gnil, gnum, gcons, num}
use denote.Struct.Codes.{itself}
use Rattle.std.proofs.Common.{Option, ap, get_or}
use Rattle.resp_value.specs.declared.push_kind.PushKind.{PushKind}
use Rattle.resp_value.specs.declared.push_kind.PushKind.TheVariants.{Disconnection, Other, Invalidate, Message, PMessage, SMessage, Unsubscribe, PUnsubscribe, SUnsubscribe, Subscribe, PSubscribe, SSubscribe}
use Rattle.resp_value.specs.Data.{Data, nil, int, bulk, array, simple, okay, dict, attribute, set, double, boolean, verbatim, big, push, error, Items, no_items, item, Members, no_members, member}

-- a text, and back
abbrev pub text_to : List ℕ → Gv
text_to [] = gnil
text_to (x ∷ xs) = gcons (gnum x) (text_to xs)

abbrev pub text_from : Gv → List ℕ
text_from gnil = []
text_from (gnum n) = []
text_from (gcons a b) = num a ∷ text_from b

pub text_back : (xs : List ℕ) → text_from (text_to xs) ≡ xs
text_back [] = refl
text_back (x ∷ xs) = ap (λ ys. x ∷ ys) (text_back xs)

abbrev pub option_to : Option (List ℕ) → Gv
option_to None = gnil
option_to (Some t) = gcons gnil (text_to t)

abbrev pub option_from : Gv → Option (List ℕ)
option_from gnil = None
option_from (gnum n) = None
option_from (gcons a b) = Some (text_from b)

pub option_back : (o : Option (List ℕ)) → option_from (option_to o) ≡ o
option_back None = refl
option_back (Some t) = ap Some (text_back t)

abbrev pub kind_to : PushKind → Gv
kind_to (Other t) = gcons gnil (text_to t)
kind_to Disconnection = gnum 0
kind_to Invalidate = gnum 1
kind_to Message = gnum 2
kind_to PMessage = gnum 3
kind_to SMessage = gnum 4
kind_to Unsubscribe = gnum 5
kind_to PUnsubscribe = gnum 6
kind_to SUnsubscribe = gnum 7
kind_to Subscribe = gnum 8
kind_to PSubscribe = gnum 9
kind_to SSubscribe = gnum 10

-- the kinds without a text, by their numbers
abbrev plain_kinds : List PushKind
plain_kinds = Disconnection ∷ Invalidate ∷ Message ∷ PMessage ∷ SMessage ∷ Unsubscribe ∷ PUnsubscribe ∷ SUnsubscribe ∷ Subscribe ∷ PSubscribe ∷ SSubscribe ∷ []

abbrev pub kind_from : Gv → PushKind
kind_from gnil = Disconnection
kind_from (gnum n) = get_or plain_kinds n Disconnection
kind_from (gcons a b) = Other (text_from b)

pub kind_back : (k : PushKind) → kind_from (kind_to k) ≡ k
kind_back (Other t) = ap Other (text_back t)
kind_back Disconnection = refl
kind_back Invalidate = refl
kind_back Message = refl
kind_back PMessage = refl
kind_back SMessage = refl
kind_back Unsubscribe = refl
kind_back PUnsubscribe = refl
kind_back SUnsubscribe = refl
kind_back Subscribe = refl
kind_back PSubscribe = refl
kind_back SSubscribe = refl

abbrev mutual
  pub data_to : Data → Gv
  data_to nil = gcons (gnum 0) gnil
  data_to (int (pos n)) = gcons (gnum 1) (gnum n)
  data_to (int (negsuc n)) = gcons (gnum 2) (gnum n)
  data_to (bulk t) = gcons (gnum 3) (text_to t)
  data_to (array ds) = gcons (gnum 4) (items_to ds)
  data_to (simple t) = gcons (gnum 5) (text_to t)
  data_to okay = gcons (gnum 6) gnil
  data_to (dict ms) = gcons (gnum 7) (members_to ms)
  data_to (attribute d ms) = gcons (gnum 8) (gcons (data_to d) (members_to ms))
  data_to (set ds) = gcons (gnum 9) (items_to ds)
  data_to (double t) = gcons (gnum 10) (text_to t)
  data_to (boolean true) = gcons (gnum 11) gnil
  data_to (boolean false) = gcons (gnum 12) gnil
  data_to (verbatim s t) = gcons (gnum 13) (gcons (text_to s) (text_to t))
  data_to (big t) = gcons (gnum 14) (text_to t)
  data_to (push k ds) = gcons (gnum 15) (gcons (kind_to k) (items_to ds))
  data_to (error e) = gcons (gnum 16) (gcons (text_to e.code) (option_to e.detail))

  pub items_to : Items → Gv
  items_to no_items = gnil
  items_to (item d ds) = gcons (data_to d) (items_to ds)

  pub members_to : Members → Gv
  members_to no_members = gnil
  members_to (member k d ms) = gcons (data_to k) (gcons (data_to d) (members_to ms))

-- what a code stands for, whichever of these it is the code of
pub record Back : Type 0 where
  pub as_data : Data
  pub as_items : Items
  pub as_tail : Items
  pub as_pair : Data × Members
  pub as_members : Members

abbrev left : Gv → Gv
left (gcons a b) = a
left _ = gnil

abbrev right : Gv → Gv
right (gcons a b) = b
right _ = gnil

abbrev choices : Gv → Back → List Data
choices g b =
    nil ∷ int (pos (num g)) ∷ int (negsuc (num g)) ∷ bulk (text_from g) ∷ array b.as_items ∷ simple (text_from g) ∷ okay ∷ dict b.as_members
    ∷ attribute b.as_pair.0 b.as_pair.1 ∷ set b.as_items ∷ double (text_from g) ∷ boolean true ∷ boolean false ∷ verbatim (text_from (left g)) (text_from (right g))
    ∷ big (text_from g) ∷ push (kind_from (left g)) b.as_tail ∷ error (record { code = text_from (left g); detail = option_from (right g) }) ∷ []

abbrev both : Gv → Gv → Back → Back → Back
both a g ra rb = record {
  as_data = get_or (choices g rb) (num a) nil;
  as_items = item ra.as_data rb.as_items;
  as_tail = rb.as_items;
  as_pair = (ra.as_data, rb.as_members);
  as_members = member ra.as_data rb.as_pair.0 rb.as_pair.1;
}

abbrev nothing : Back
nothing = record { as_data = nil; as_items = no_items; as_tail = no_items; as_pair = (nil, no_members); as_members = no_members }

abbrev pub back : Gv → Back
back gnil = nothing
back (gnum n) = nothing
back (gcons a g) = both a g (back a) (back g)

abbrev pub data_from : Gv → Data
data_from g = (back g).as_data

mutual
  pub data_back : (d : Data) → (back (data_to d)).as_data ≡ d
  data_back nil = refl
  data_back (int (pos n)) = refl
  data_back (int (negsuc n)) = refl
  data_back (bulk t) = ap bulk (text_back t)
  data_back (array ds) = ap array (items_back ds)
  data_back (simple t) = ap simple (text_back t)
  data_back okay = refl
  data_back (dict ms) = ap dict (members_back ms)
  data_back (attribute d ms) = λ i. attribute (data_back d i) (members_back ms i)
  data_back (set ds) = ap set (items_back ds)
  data_back (double t) = ap double (text_back t)
  data_back (boolean true) = refl
  data_back (boolean false) = refl
  data_back (verbatim s t) = λ i. verbatim (text_back s i) (text_back t i)
  data_back (big t) = ap big (text_back t)
  data_back (push k ds) = λ i. push (kind_back k i) (items_back ds i)
  data_back (error e) = λ i. error (record { code = text_back e.code i; detail = option_back e.detail i })

  pub items_back : (ds : Items) → (back (items_to ds)).as_items ≡ ds
  items_back no_items = refl
  items_back (item d ds) = λ i. item (data_back d i) (items_back ds i)

  pub members_back : (ms : Members) → (back (members_to ms)).as_members ≡ ms
  members_back no_members = refl
  members_back (member k d ms) = λ i. member (data_back k i) (data_back d i) (members_back ms i)

abbrev pub data_code : Coded Data
data_code = code_by Gv itself data_to data_from data_back
