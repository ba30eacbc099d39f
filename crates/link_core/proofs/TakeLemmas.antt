-- Values that are taken one after another, into lists that held something before.
use Rattle.std.proofs.Common.{◌≡◌, ℕ, ◌-◌, ◌≤◌, Bool, true, false, List, [], ◌∷◌, ◌++◌, length, take, drop, refl, sym, ap, ◌∙◌, arith}
use Rattle.std.specs.Prelude.{◌==◌, ◌||◌, not, nat_lt, if◌then◌else◌}
use Rattle.std.proofs.lemmas.List.{take-append-drop, take-append-le, drop-append-le, take_all, drop_all, length-drop, append-nil}
use Rattle.containers.proofs.Choices.{taken_if}
use Rattle.resp_value.specs.Data.{Data}
use Rattle.driver_model.specs.Hearing.{Taking, taken_by, taking}
use Rattle.driver_model.specs.Shape.{need_of}
use Rattle.driver_model.specs.declared.hearing.Hearing.{Hearing}
use Rattle.driver_model.specs.declared.hearing.Hearing.TheVariants.{Nothing}
use Rattle.link_core.specs.declared.message.Entry.{Entry}
use Rattle.link_core.specs.declared.message.NoticeAt.{NoticeAt}
use Rattle.link_core.specs.declared.message.Settled.{Settled}
use Rattle.link_core.specs.Dealing.{Dealing, dealing_with, dealing_on, with_item, settled_by, dealt_if, is_awaiting, taking_in, noticed_behind, taken_as, taken, taken_each}

-- a message with one item more, beside what was settled before
given_parts : (more : Bool) (before : List Entry) (e : Entry) (es : List Entry) (out : List Settled) (notices : List NoticeAt) (strange : Bool)
    → let d = if more then dealing_on (e ∷ es) [] [] false else dealing_on es (settled_by e) [] false in
    dealing_on d.row (out ++ d.out) notices strange ≡ (if more then dealing_on (e ∷ es) out notices strange else dealing_on es (out ++ settled_by e) notices strange)
given_parts true before e es out notices strange = ap (λ (xs : List Settled). dealing_on (e ∷ es) xs notices strange) (append-nil out)
given_parts false before e es out notices strange = refl

-- an item is dealt, or isn't, whatever was settled and told before
dealt_parts : (is : Bool) (row : List Entry) (out : List Settled) (notices : List NoticeAt) (strange : Bool) (v : Data)
    → let d = dealt_if is (dealing_with row) v in
    dealing_on d.row (out ++ d.out) notices strange ≡ dealt_if is (dealing_on row out notices strange) v
dealt_parts false row out notices strange v = ap (λ (xs : List Settled). dealing_on row xs notices strange) (append-nil out)
dealt_parts true [] out notices strange v = ap (λ (xs : List Settled). dealing_on [] xs notices strange) (append-nil out)
dealt_parts true (e ∷ es) out notices strange v =
    let full = with_item e v in
    given_parts (nat_lt (length full.got) (need_of full.shape)) (e ∷ es) full es out notices strange

-- what is heard now says what becomes of a value
heard_taken : (h : Hearing) (ready awaited : Bool) (v : Data) → taken_by (if ready then h else Nothing) awaited v ≡ taking h ready awaited v
heard_taken h true awaited v = refl
heard_taken h false awaited v = refl

-- this becomes of a value
taken_so : (t : Taking) (row now : List Entry) (out later : List Settled) (notices told : List NoticeAt) (ends : Bool) (v : Data)
    → now ≡ (dealt_if t.dealt (dealing_with row) v).row
    → later ≡ out ++ (dealt_if t.dealt (dealing_with row) v).out
    → told ≡ notices ++ noticed_behind (length out) t.told
    → ends ≡ t.ends
    → dealing_on now later told ends ≡ taken_as (dealing_on row out notices false) t v
taken_so t row now out later notices told ends v row_is out_is told_is ends_is =
    (λ i. dealing_on (row_is i) (out_is i) (told_is i) (ends_is i))
    ∙ dealt_parts t.dealt row out (notices ++ noticed_behind (length out) t.told) t.ends v

-- what is put behind a list leaves its front
pub front_stays : {X : Type 0} (n : ℕ) (before more now : List X) → n ≤ length before → now ≡ before ++ more → take n now ≡ take n before
front_stays n before more now there is = ap (take n) is ∙ take-append-le n before more there

pub front_within : {X : Type 0} (n : ℕ) (before more now : List X) → n ≤ length before → now ≡ before ++ more → n ≤ length now
front_within n before more now there is = omega (arith, there, ap length is, length_more before more)
  where
    length_more : {X : Type 0} (xs ys : List X) → length xs ≤ length (xs ++ ys)
    length_more [] ys = omega arith
    length_more (x ∷ xs) ys = let more = length_more xs ys in omega (arith, more)

-- one value is taken by a call that began with n settled messages and k notices
module _ (h : Hearing) (ready : Bool) (n k : ℕ) (row now : List Entry) (out later : List Settled) (notices told : List NoticeAt) (settled : ℕ) (heard : Hearing) (ends : Bool) (v : Data) where
  pub one_taken : n ≤ length out → k ≤ length notices
      → settled ≡ length out - n
      → heard ≡ (if ready || not (settled == 0) then h else Nothing)
      → now ≡ (dealt_if (taken_by heard (is_awaiting row) v).dealt (dealing_with row) v).row
      → later ≡ out ++ (dealt_if (taken_by heard (is_awaiting row) v).dealt (dealing_with row) v).out
      → told ≡ notices ++ noticed_behind settled (taken_by heard (is_awaiting row) v).told
      → ends ≡ (taken_by heard (is_awaiting row) v).ends
      → dealing_on now (drop n later) (drop k told) ends ≡ taken h ready (dealing_on row (drop n out) (drop k notices) false) v
  one_taken there noted count heard_is row_is out_is told_is ends_is =
      let t = taken_by heard (is_awaiting row) v in
      let count_is : settled ≡ length (drop n out) = count ∙ sym (length-drop n out) in
      let more = (dealt_if t.dealt (dealing_with row) v).out in
      let later_is : drop n later ≡ drop n out ++ more = ap (drop n) out_is ∙ drop-append-le n out more there in
      let notice = noticed_behind settled t.told in
      let noticed : drop k told ≡ drop k notices ++ notice = ap (drop k) told_is ∙ drop-append-le k notices notice noted in
      let told_now = noticed ∙ ap (λ (m : ℕ). drop k notices ++ noticed_behind m t.told) count_is in
      let same : t ≡ taking h (ready || not (length (drop n out) == 0)) (is_awaiting row) v =
      ap (λ (x : Hearing). taken_by x (is_awaiting row) v) heard_is ∙ heard_taken h (ready || not (settled == 0)) (is_awaiting row) v
      ∙ ap (λ (m : ℕ). taking h (ready || not (m == 0)) (is_awaiting row) v) count_is in
      taken_so t row now (drop n out) (drop n later) (drop k notices) (drop k told) ends v row_is later_is told_now ends_is
      ∙ ap (λ (x : Taking). taken_as (dealing_on row (drop n out) (drop k notices) false) x v) same

-- behind a value that ends the link none is taken
pub none_behind : (h : Hearing) (ready : Bool) (d : Dealing) (vs : List Data) → d.strange ≡ true → taken_each h ready d vs ≡ d
none_behind h ready d [] ended = refl
none_behind h ready d (v ∷ vs) ended =
    ap (λ (x : Dealing). taken_each h ready x vs) (taken_if d.strange d (taken_as d (taking_in h ready d v) v) ended) ∙ none_behind h ready d vs ended

-- a call that began with all that the lists held
module _ (h : Hearing) (ready : Bool) (n k : ℕ) (row now : List Entry) (out later : List Settled) (notices told : List NoticeAt) (strange : Bool) (vs : List Data)
    (n_is : n ≡ length out) (k_is : k ≡ length notices)
    (all : dealing_on now (drop n later) (drop k told) strange ≡ taken_each h ready (dealing_on row (drop n out) (drop k notices) false) vs) where
  all_is : dealing_on now (drop n later) (drop k told) strange ≡ taken_each h ready (dealing_with row) vs
  all_is = all ∙ (λ i. taken_each h ready (dealing_on row (drop_all n out (omega (arith, n_is)) i) (drop_all k notices (omega (arith, k_is)) i) false) vs)

  pub row_after : now ≡ (taken_each h ready (dealing_with row) vs).row
  row_after = ap (λ (d : Dealing). d.row) all_is

  pub strange_after : strange ≡ (taken_each h ready (dealing_with row) vs).strange
  strange_after = ap (λ (d : Dealing). d.strange) all_is

  pub out_after : take n later ≡ take n out → later ≡ out ++ (taken_each h ready (dealing_with row) vs).out
  out_after same =
      sym (take-append-drop n later) ∙ (λ i. (same ∙ take_all n out (omega (arith, n_is))) i ++ (ap (λ (d : Dealing). d.out) all_is) i)

  pub notices_after : take k told ≡ take k notices → told ≡ notices ++ (taken_each h ready (dealing_with row) vs).notices
  notices_after same =
      sym (take-append-drop k told) ∙ (λ i. (same ∙ take_all k notices (omega (arith, k_is))) i ++ (ap (λ (d : Dealing). d.notices) all_is) i)
