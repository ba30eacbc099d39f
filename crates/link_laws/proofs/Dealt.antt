-- Items that are dealt fill the started messages in the order of their starts.
use Rattle.std.proofs.Common.{◌≡◌, ℕ, suc, ◌+◌, ◌-◌, ◌<◌, ◌≤◌, nat_le, nat_lt, true, false, List, [], ◌∷◌, ◌++◌, length, take, drop, refl, sym, ap, ◌∙◌, subst, arith, length-drop, length-append}
use Rattle.std.specs.List.{AllByRecursion}
use Rattle.std.proofs.lemmas.List.{append-nil, drop-append-le, take_all, take-append-le, length_push, drop-drop}
use Rattle.containers.proofs.Places.{get_within}
use Rattle.containers.proofs.Choices.{by_test, chosen, if_true, if_false, le_from, not_le_from, le_test, not_le_test, lt_from, not_lt_from}
use Rattle.resp_value.specs.Data.{Data, nil}
use Rattle.driver_model.specs.declared.action.Owner.{Owner}
use Rattle.driver_model.specs.declared.outcome.Shape.{Shape}
use Rattle.driver_model.specs.Shape.{need_of, verdict_of}
use Rattle.link_core.specs.declared.message.Entry.{Entry}
use Rattle.link_core.specs.declared.message.Settled.{Settled}
use Rattle.link_core.specs.Dealing.{Dealing, with_item, settled_by, given, dealt_to, is_awaiting}
use Rattle.legal_trace.specs.Ledger.{Start, need_in, reach}
use Rattle.link_laws.specs.Settles.{StandsAs}
use Rattle.link_laws.proofs.Choices.{lt_test, not_lt_test}
use Rattle.link_laws.proofs.Lists.{heads_same, get_before, take_none}
use Rattle.legal_trace.proofs.Ledgers.{reach_alike}
use Rattle.link_laws.proofs.Rows.{reach_next, Open, open_rows, open_of, open_list, open_rows-item, none_open}

-- the items of the message that started as number k
abbrev pub cut_at : List Start → List Data → ℕ → Shape → List Data
cut_at ss items k of_shape = let from = drop (reach (take k ss) items) items in take (need_in of_shape from) from

-- a start of this owner and of this shape has all its items, which are these
pub record HasCut (ss : List Start) (items : List Data) (who : Owner) (of_shape : Shape) (got : List Data) : Type 0 where
  pub number : ℕ
  pub place : StandsAs ss who of_shape number
  pub full : reach (take (suc number) ss) items ≤ length items
  pub cut_is : got ≡ cut_at ss items number of_shape

-- a start that just these last items filled has its cut, and reached further than what was dealt before them
pub record IsJustFull (ss : List Start) (before items : List Data) (who : Owner) (of_shape : Shape) (got : List Data) : Type 0 where
  pub cut : HasCut ss items who of_shape got
  pub late : length before < reach (take (suc cut.number) ss) before

-- a message whose last item comes has its cut, and had not before
pub full_cut : (ss : List Start) (items : List Data) (item : Data) (o : Open) (rows : List Open) → open_rows ss items ≡ o ∷ rows → nat_le (need_of o.shape) (length o.got + 1) ≡ true
    → IsJustFull ss items (items ++ item ∷ []) o.owner o.shape (o.got ++ item ∷ [])
full_cut [] items item o rows e t = cc
full_cut (s ∷ ss) items item o rows e t =
    let n = need_of s.shape in
    let more : length (items ++ item ∷ []) ≡ length items + 1 = length_push items item in
    by_test (nat_le n (length items)) _
    (λ u.
    let l : n ≤ length items = le_from _ _ u in
    let j = full_cut ss (drop n items) item o rows (rw u at e) t in
    let h = j.cut in
    let past : drop n (items ++ item ∷ []) ≡ drop n items ++ item ∷ [] = drop-append-le n items (item ∷ []) l in
    record {
      cut = record {
        number = suc h.number;
        place = record { start = h.place.start; stands = h.place.stands; owned = h.place.owned; shaped = h.place.shaped };
        full = rw past (omega (arith, h.full, length_push (drop n items) item, length-drop n items));
        cut_is = rw (← drop-drop (reach (take h.number ss) (drop n (items ++ item ∷ []))) n (items ++ item ∷ []), past) h.cut_is;
      };
      late = omega (arith, j.late, length-drop n items);
    })
    (λ f.
    let l : length items < n = not_le_from _ _ f in
    let h = heads_same _ _ _ _ (rw f at e) in
    let got : items ≡ o.got = ap (λ (x : Open). x.got) h.0 in
    let same : n ≡ need_of o.shape = ap (λ (x : Open). need_of x.shape) h.0 in
    let k : need_of o.shape ≤ length o.got + 1 = le_from _ _ t in
    let m : length items ≡ length o.got = ap length got in
    record {
      cut = record {
        number = 0;
        place = record { start = s; stands = refl; owned = ap (λ (x : Open). x.owner) h.0; shaped = ap (λ (x : Open). x.shape) h.0 };
        full = omega arith;
        cut_is = rw (← got) (sym (take_all (need_of o.shape) (items ++ item ∷ []) (omega arith)));
      };
      late = omega arith;
    })

-- how far the starts up to a full one reach
pub cut_within : (ss : List Start) (items : List Data) (who : Owner) (of_shape : Shape) (k : ℕ) → StandsAs ss who of_shape k → reach (take (suc k) ss) items ≤ length items → reach (take k ss) items + need_of of_shape ≤ length items
cut_within ss items who of_shape k h full =
    let next = reach_next ss k items h.start h.stands in
    let same : need_of h.start.shape ≡ need_of of_shape = ap need_of h.shaped in
    omega arith

-- more items leave the cut of a start that has all its items as it is
pub cut_more : (ss : List Start) (items more : List Data) (of_shape : Shape) (k : ℕ) → reach (take k ss) items + need_of of_shape ≤ length items → cut_at ss (items ++ more) k of_shape ≡ cut_at ss items k of_shape
cut_more ss items more of_shape k far =
    let m = reach (take k ss) items in
    rw (reach_alike (take k ss) (items ++ more) items, drop-append-le m items more (omega arith), take-append-le (need_of of_shape) (drop m items) more (omega (arith, length-drop m items))) refl

-- so it has its cut still
unfoldable pub cut_stays : (ss : List Start) (items more : List Data) (who : Owner) (of_shape : Shape) (got : List Data) → HasCut ss items who of_shape got → HasCut ss (items ++ more) who of_shape got
cut_stays ss items more who of_shape got h =
    let k = h.number in
    let far = cut_within ss items who of_shape k h.place h.full in
    let next : reach (take (suc k) ss) (items ++ more) ≡ reach (take (suc k) ss) items = reach_alike (take (suc k) ss) (items ++ more) items in
    record {
      number = k;
      place = h.place;
      full = omega (arith, next, h.full, length-append items more);
      cut_is = h.cut_is ∙ sym (cut_more ss items more of_shape k far);
    }

-- and so do more starts
pub cut_kept : (ss : List Start) (s : Start) (items : List Data) (who : Owner) (of_shape : Shape) (got : List Data) → HasCut ss items who of_shape got → HasCut (ss ++ s ∷ []) items who of_shape got
cut_kept ss s items who of_shape got h =
    let k = h.number in
    let l : k < length ss = get_within ss k h.place.start h.place.stands in
    record {
      number = k;
      place = record { start = h.place.start; stands = get_before ss (s ∷ []) k l ∙ h.place.stands; owned = h.place.owned; shaped = h.place.shaped };
      full = rw (take-append-le (suc k) ss (s ∷ []) (omega arith)) h.full;
      cut_is = rw (take-append-le k ss (s ∷ []) (omega arith)) h.cut_is;
    }

-- the verdict of a settled message is that of its cut
pub record IsCutOf (name : ℕ → Owner) (ss : List Start) (items : List Data) (s : Settled) : Type 0 where
  pub of_shape : Shape
  pub got : List Data
  pub cut : HasCut ss items (name s.id) of_shape got
  pub verdict_is : s.verdict ≡ verdict_of of_shape got

-- the verdicts of settled messages are those of their cuts
abbrev pub AreCuts : (ℕ → Owner) → List Start → List Data → List Settled → Type 0
AreCuts name ss items out = AllByRecursion (IsCutOf name ss items) out

-- they stay so when more items are dealt
pub cuts_stay : (name : ℕ → Owner) (ss : List Start) (items more : List Data) (out : List Settled) → AreCuts name ss items out → AreCuts name ss (items ++ more) out
cuts_stay name ss items more [] all = tt
cuts_stay name ss items more (s ∷ out) all = (
  record { of_shape = all.0.of_shape; got = all.0.got; cut = cut_stays ss items more (name s.id) all.0.of_shape all.0.got all.0.cut; verdict_is = all.0.verdict_is },
  cuts_stay name ss items more out all.1,
)

-- and when one more message starts
pub cuts_kept : (name : ℕ → Owner) (ss : List Start) (x : Start) (items : List Data) (out : List Settled) → AreCuts name ss items out → AreCuts name (ss ++ x ∷ []) items out
cuts_kept name ss x items [] all = tt
cuts_kept name ss x items (s ∷ out) all = (
  record { of_shape = all.0.of_shape; got = all.0.got; cut = cut_kept ss x items (name s.id) all.0.of_shape all.0.got all.0.cut; verdict_is = all.0.verdict_is },
  cuts_kept name ss x items out all.1,
)

-- what holds of each of two lists holds of each of both
pub all_append : {X : Type 0} (P : X → Type 0) (xs ys : List X) → AllByRecursion P xs → AllByRecursion P ys → AllByRecursion P (xs ++ ys)
all_append P [] ys all also = also
all_append P (x ∷ xs) ys all also = (all.0, all_append P xs ys all.1 also)

-- what a row has been dealt: the row is that of the ledger, and each settled message has its cut
pub record IsDealt (name : ℕ → Owner) (ss : List Start) (items : List Data) (d : Dealing) : Type 0 where
  pub row : open_list name d.row ≡ open_rows ss items
  pub within : length items ≤ reach ss items
  pub cuts : AreCuts name ss items d.out

-- a full entry settles its cut
settled_cuts : (name : ℕ → Owner) (ss : List Start) (items : List Data) (e : Entry) → HasCut ss items (name e.id) e.shape e.got → AreCuts name ss items (settled_by e)
settled_cuts name ss items e h =
    chosen (AreCuts name ss items) e.awaited _ _
    (λ t. (record { of_shape = e.shape; got = e.got; cut = h; verdict_is = refl }, tt))
    (λ f. tt)

-- an entry that an item fills
pub full_from : (e : Entry) (item : Data) → nat_lt (length (with_item e item).got) (need_of e.shape) ≡ false → nat_le (need_of e.shape) (length e.got + 1) ≡ true
full_from e item f = le_test _ _ (omega (arith, not_lt_from _ _ f, length_push e.got item))

-- an entry that takes more behind an item
open_from : (e : Entry) (item : Data) → nat_lt (length (with_item e item).got) (need_of e.shape) ≡ true → nat_le (need_of e.shape) (length e.got + 1) ≡ false
open_from e item t = not_le_test _ _ (omega (arith, lt_from _ _ t, length_push e.got item))

-- the first row gets an item
given_dealt : (name : ℕ → Owner) (ss : List Start) (items : List Data) (d : Dealing) (item : Data) (e : Entry) (es : List Entry) → d.row ≡ e ∷ es → IsDealt name ss items d
    → (length items < reach ss items) × IsDealt name ss (items ++ item ∷ []) (given d (with_item e item) es)
given_dealt name ss items d item e es is h =
    let r : open_rows ss items ≡ open_of name e ∷ open_list name es = sym h.row ∙ ap (open_list name) is in
    let k = open_rows-item ss items item (open_of name e) (open_list name es) r in
    let w : length (items ++ item ∷ []) ≤ reach ss (items ++ item ∷ []) = omega (arith, k.0, reach_alike ss items (items ++ item ∷ []), length_push items item) in
    let cuts = cuts_stay name ss items (item ∷ []) d.out h.cuts in (
      k.0,
      chosen (IsDealt name ss (items ++ item ∷ [])) (nat_lt (length (with_item e item).got) (need_of e.shape)) _ _
          (λ t. record {
            row = sym (k.1 ∙ if_false (λ os. os ≡ open_of name (with_item e item) ∷ open_list name es) _ (open_list name es) _ (open_from e item t) refl);
            within = w;
            cuts = cuts;
          })
          (λ f.
          let full = full_from e item f in
          let cut = (full_cut ss items item (open_of name e) (open_list name es) r full).cut in
          record {
            row = sym (k.1 ∙ if_true (λ os. os ≡ open_list name es) _ (open_list name es) _ full refl);
            within = w;
            cuts = all_append (IsCutOf name ss (items ++ item ∷ [])) d.out (settled_by (with_item e item)) cuts (settled_cuts name ss (items ++ item ∷ []) (with_item e item) cut);
          }),
    )

-- the items dealt, with as many more as are wanted
abbrev pub items_with : ℕ → List Data → List Data → List Data
items_with all items more = items ++ take (all - length items) more

-- where all are dealt, no more are taken
none_wanted : (all : ℕ) (items more : List Data) → all ≤ length items → items_with all items more ≡ items
none_wanted all items more l = let z : all - length items ≡ 0 = omega arith in rw z (append-nil items)

-- where more are wanted, an item is taken
pub one_wanted : (all : ℕ) (items : List Data) (item : Data) → length items < all → items_with all items (item ∷ []) ≡ items ++ item ∷ []
one_wanted all items item l =
    let z : all - length items ≡ suc (all - (length items + 1)) = omega arith in
    rw z (ap (λ xs. items ++ item ∷ xs) (take_none (all - (length items + 1))))

-- an item is dealt alike
pub one_dealt : (name : ℕ → Owner) (ss : List Start) (items : List Data) (d : Dealing) (item : Data) (row : List Entry) → d.row ≡ row → IsDealt name ss items d
    → IsDealt name ss (items_with (reach ss items) items (item ∷ [])) (dealt_to d item row)
one_dealt name ss items d item [] is h =
    let n = none_open ss items (sym h.row ∙ ap (open_list name) is) in
    subst (λ xs. IsDealt name ss xs d) (sym (none_wanted (reach ss items) items (item ∷ []) n)) h
one_dealt name ss items d item (e ∷ es) is h =
    let g = given_dealt name ss items d item e es is h in
    subst (λ xs. IsDealt name ss xs (given d (with_item e item) es)) (sym (one_wanted (reach ss items) items item g.0)) g.1

-- messages take items in a row and in a ledger alike
pub awaits_alike : (name : ℕ → Owner) (ss : List Start) (items : List Data) (row : List Entry) → open_list name row ≡ open_rows ss items → is_awaiting row ≡ nat_lt (length items) (reach ss items)
awaits_alike name ss items [] is = sym (not_lt_test _ _ (none_open ss items (sym is)))
awaits_alike name ss items (e ∷ es) is = sym (lt_test _ _ (open_rows-item ss items nil (open_of name e) (open_list name es) (sym is)).0)
