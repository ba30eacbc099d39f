-- That `==` answers true exactly where two values are the same, and so is an equivalence.
use Rattle.std.proofs.Common.{◌≡◌, ℕ, Bool, true, false, ◌&&◌, true≢false, List, Option, Some, None, bytes_eq, refl, sym, ap, ◌∙◌, subst}
use Rattle.std.specs.Bool.{Decides}
use Rattle.std.specs.Cmp.{IsEquivalence, signed_Decides}
use Rattle.std.specs.Option.{option_eq}
use Rattle.std.proofs.lemmas.Bool.Decides.{same_from_decides, Decides-like}
use Rattle.std.proofs.lemmas.Slice.Eq.{bytes_eq-Decides}
use Rattle.resp_value.specs.declared.push_kind.PushKind.{PushKind}
use Rattle.resp_value.specs.declared.push_kind.PushKind.TheVariants.{Disconnection, Other, Invalidate, Message, PMessage, SMessage, Unsubscribe, PUnsubscribe, SUnsubscribe, Subscribe, PSubscribe, SSubscribe}
use Rattle.resp_value.specs.declared.server_error.ServerError.{ServerError}
use Rattle.resp_value.specs.Data.{Data, nil, int, bulk, array, simple, okay, dict, attribute, set, double, boolean, verbatim, big, push, error, Items, no_items, item, items_of, list_of, Members, no_members, member, members_of, pairs_of}
use Rattle.resp_value.specs.View.{data_of, value_of, value_of-data_of, list_of-items_of, pairs_of-members_of}
use Rattle.resp_value.specs.declared.value.Value.{Value}
use Rattle.resp_value.specs.Same.{same_kind, same_error, same_truth, same, same_items, same_members}

-- what is the same of both of two tests
first : (a b : Bool) → (a && b) ≡ true → a ≡ true
first true b h = refl
first false b h = absurd (true≢false (sym h))

second : (a b : Bool) → (a && b) ≡ true → b ≡ true
second true b h = h
second false b h = absurd (true≢false (sym h))

both : (a b : Bool) → a ≡ true → b ≡ true → (a && b) ≡ true
both a b p q = ap (λ x. x && b) p ∙ q

text_is : (a b : List ℕ) → bytes_eq a b ≡ true → a ≡ b
text_is a b h = (bytes_eq-Decides a b).0 h

text_self : (a : List ℕ) → bytes_eq a a ≡ true
text_self a = (bytes_eq-Decides a a).1 refl

kind_is : (j k : PushKind) → same_kind j k ≡ true → j ≡ k
kind_is (Other a) (Other b) h = ap Other (text_is a b h)
kind_is Disconnection Disconnection h = refl
kind_is Invalidate Invalidate h = refl
kind_is Message Message h = refl
kind_is PMessage PMessage h = refl
kind_is SMessage SMessage h = refl
kind_is Unsubscribe Unsubscribe h = refl
kind_is PUnsubscribe PUnsubscribe h = refl
kind_is SUnsubscribe SUnsubscribe h = refl
kind_is Subscribe Subscribe h = refl
kind_is PSubscribe PSubscribe h = refl
kind_is SSubscribe SSubscribe h = refl
kind_is _ _ h = absurd (true≢false (sym h))

kind_self : (k : PushKind) → same_kind k k ≡ true
kind_self (Other a) = text_self a
kind_self Disconnection = refl
kind_self Invalidate = refl
kind_self Message = refl
kind_self PMessage = refl
kind_self SMessage = refl
kind_self Unsubscribe = refl
kind_self PUnsubscribe = refl
kind_self SUnsubscribe = refl
kind_self Subscribe = refl
kind_self PSubscribe = refl
kind_self SSubscribe = refl

detail_is : (a b : Option (List ℕ)) → option_eq bytes_eq a b ≡ true → a ≡ b
detail_is None None h = refl
detail_is (Some a) (Some b) h = ap Some (text_is a b h)
detail_is _ _ h = absurd (true≢false (sym h))

detail_self : (a : Option (List ℕ)) → option_eq bytes_eq a a ≡ true
detail_self None = refl
detail_self (Some a) = text_self a

error_is : (a b : ServerError) → same_error a b ≡ true → a ≡ b
error_is a b h =
    let code = text_is a.code b.code (first (bytes_eq a.code b.code) (option_eq bytes_eq a.detail b.detail) h) in
    let detail = detail_is a.detail b.detail (second (bytes_eq a.code b.code) (option_eq bytes_eq a.detail b.detail) h) in
    λ i. record { code = code i; detail = detail i }

error_self : (e : ServerError) → same_error e e ≡ true
error_self e = both (bytes_eq e.code e.code) (option_eq bytes_eq e.detail e.detail) (text_self e.code) (detail_self e.detail)

truth_is : (a b : Bool) → same_truth a b ≡ true → a ≡ b
truth_is true true h = refl
truth_is false false h = refl
truth_is _ _ h = absurd (true≢false (sym h))

truth_self : (a : Bool) → same_truth a a ≡ true
truth_self true = refl
truth_self false = refl

mutual
  data_is : (d e : Data) → same d e ≡ true → d ≡ e
  data_is nil nil h = refl
  data_is (int m) (int n) h = ap int ((signed_Decides m n).0 h)
  data_is (bulk a) (bulk b) h = ap bulk (text_is a b h)
  data_is (array ds) (array es) h = ap array (items_is ds es h)
  data_is (simple a) (simple b) h = ap simple (text_is a b h)
  data_is okay okay h = refl
  data_is (dict ms) (dict ns) h = ap dict (members_is ms ns h)
  data_is (attribute d ms) (attribute e ns) h =
      let inner = data_is d e (first (same d e) (same_members ms ns) h) in
      let members = members_is ms ns (second (same d e) (same_members ms ns) h) in
      λ i. attribute (inner i) (members i)
  data_is (set ds) (set es) h = ap set (items_is ds es h)
  data_is (double a) (double b) h = ap double (text_is a b h)
  data_is (boolean a) (boolean b) h = ap boolean (truth_is a b h)
  data_is (verbatim s a) (verbatim t b) h =
      let format = text_is s t (first (bytes_eq s t) (bytes_eq a b) h) in
      let text = text_is a b (second (bytes_eq s t) (bytes_eq a b) h) in
      λ i. verbatim (format i) (text i)
  data_is (big a) (big b) h = ap big (text_is a b h)
  data_is (push j ds) (push k es) h =
      let kind = kind_is j k (first (same_kind j k) (same_items ds es) h) in
      let items = items_is ds es (second (same_kind j k) (same_items ds es) h) in
      λ i. push (kind i) (items i)
  data_is (error d) (error e) h = ap error (error_is d e h)
  data_is _ _ h = absurd (true≢false (sym h))

  items_is : (ds es : Items) → same_items ds es ≡ true → ds ≡ es
  items_is no_items no_items h = refl
  items_is (item d ds) (item e es) h =
      let head = data_is d e (first (same d e) (same_items ds es) h) in
      let tail = items_is ds es (second (same d e) (same_items ds es) h) in
      λ i. item (head i) (tail i)
  items_is _ _ h = absurd (true≢false (sym h))

  members_is : (ms ns : Members) → same_members ms ns ≡ true → ms ≡ ns
  members_is no_members no_members h = refl
  members_is (member j d ms) (member k e ns) h =
      let front = first (same j k && same d e) (same_members ms ns) h in
      let key = data_is j k (first (same j k) (same d e) front) in
      let value = data_is d e (second (same j k) (same d e) front) in
      let tail = members_is ms ns (second (same j k && same d e) (same_members ms ns) h) in
      λ i. member (key i) (value i) (tail i)
  members_is _ _ h = absurd (true≢false (sym h))

mutual
  data_self : (d : Data) → same d d ≡ true
  data_self nil = refl
  data_self (int n) = (signed_Decides n n).1 refl
  data_self (bulk a) = text_self a
  data_self (array ds) = items_self ds
  data_self (simple a) = text_self a
  data_self okay = refl
  data_self (dict ms) = members_self ms
  data_self (attribute d ms) = both (same d d) (same_members ms ms) (data_self d) (members_self ms)
  data_self (set ds) = items_self ds
  data_self (double a) = text_self a
  data_self (boolean b) = truth_self b
  data_self (verbatim s a) = both (bytes_eq s s) (bytes_eq a a) (text_self s) (text_self a)
  data_self (big a) = text_self a
  data_self (push k ds) = both (same_kind k k) (same_items ds ds) (kind_self k) (items_self ds)
  data_self (error e) = error_self e

  items_self : (ds : Items) → same_items ds ds ≡ true
  items_self no_items = refl
  items_self (item d ds) = both (same d d) (same_items ds ds) (data_self d) (items_self ds)

  members_self : (ms : Members) → same_members ms ms ≡ true
  members_self no_members = refl
  members_self (member k d ms) =
      both (same k k && same d d) (same_members ms ms) (both (same k k) (same d d) (data_self k) (data_self d)) (members_self ms)

exact : {A : Type 0} (E : A → A → Bool) → ((a b : A) → E a b ≡ true → a ≡ b) → ((a : A) → E a a ≡ true) → (a b : A) → Decides (E a b) (a ≡ b)
exact E is self a b = (is a b, λ p. subst (λ c. E a c ≡ true) p (self a))

pub kind_Decides : (j k : PushKind) → Decides (same_kind j k) (j ≡ k)
kind_Decides = exact same_kind kind_is kind_self

pub error_Decides : (d e : ServerError) → Decides (same_error d e) (d ≡ e)
error_Decides = exact same_error error_is error_self

pub data_Decides : (d e : Data) → Decides (same d e) (d ≡ e)
data_Decides = exact same data_is data_self

-- the same of what stands for such a tree and is had back from it
by_tree : {A B : Type 0} (E : B → B → Bool) → ((a b : B) → Decides (E a b) (a ≡ b)) → (to : A → B) (from : B → A) → ((a : A) → from (to a) ≡ a) → (a b : A) → Decides (E (to a) (to b)) (a ≡ b)
by_tree E decides to from back a b =
    let d = decides (to a) (to b) in
    (λ h. sym (back a) ∙ ap from (d.0 h) ∙ back b, λ p. d.1 (ap to p))

pub value_Decides : (a b : Value) → Decides (same (data_of a) (data_of b)) (a ≡ b)
value_Decides = by_tree same data_Decides data_of value_of value_of-data_of

pub list_Decides : (a b : List Data) → Decides (same_items (items_of a) (items_of b)) (a ≡ b)
list_Decides = by_tree same_items (exact same_items items_is items_self) items_of list_of list_of-items_of

pub pairs_Decides : (a b : List (Data × Data)) → Decides (same_members (members_of a) (members_of b)) (a ≡ b)
pairs_Decides = by_tree same_members (exact same_members members_is members_self) members_of pairs_of pairs_of-members_of

-- a test that answers true exactly where two are the same is an equivalence
equivalence_of : {A : Type 0} (E : A → A → Bool) → ((a b : A) → Decides (E a b) (a ≡ b)) → IsEquivalence E
equivalence_of E decides = record {
  refl = λ a. (decides a a).1 refl;
  symm = λ a b. same_from_decides (E a b) (E b a) (decides a b) (Decides-like (E b a) sym sym (decides b a));
  congr = λ a b c h. ap (λ x. E x c) ((decides a b).0 h);
}

pub kind_equivalence : IsEquivalence same_kind
kind_equivalence = equivalence_of same_kind kind_Decides

pub error_equivalence : IsEquivalence same_error
error_equivalence = equivalence_of same_error error_Decides

pub value_equivalence : IsEquivalence (λ (a b : Value). same (data_of a) (data_of b))
value_equivalence = equivalence_of (λ (a b : Value). same (data_of a) (data_of b)) value_Decides

pub list_equivalence : IsEquivalence (λ (a b : List Data). same_items (items_of a) (items_of b))
list_equivalence = equivalence_of (λ (a b : List Data). same_items (items_of a) (items_of b)) list_Decides

pub pairs_equivalence : IsEquivalence (λ (a b : List (Data × Data)). same_members (members_of a) (members_of b))
pairs_equivalence = equivalence_of (λ (a b : List (Data × Data)). same_members (members_of a) (members_of b)) pairs_Decides
