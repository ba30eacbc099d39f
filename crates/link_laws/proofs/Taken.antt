-- Values that come one after another are taken alike by a link and by its ledger, and what is told of them stands where it came.
use Rattle.std.proofs.Common.{◌≡◌, ◌⊎◌, inl, inr, ℕ, suc, ◌+◌, ◌-◌, ◌<◌, ◌≤◌, nat_le, nat_lt, Bool, true, false, List, [], ◌∷◌, ◌++◌, length, take, Option, Some, None, refl, sym, ap, ◌∙◌, subst, append_assoc, arith, length-append}
use Rattle.std.specs.List.{AllByRecursion}
use Rattle.std.proofs.lemmas.List.{append-nil}
use Rattle.containers.proofs.Choices.{chosen, left_if, taken_if, le_test, not_le_test}
use Rattle.resp_value.specs.Data.{Data}
use Rattle.driver_model.specs.Hearing.{Taking, taking}
use Rattle.driver_model.specs.declared.action.Owner.{Owner}
use Rattle.driver_model.specs.declared.hearing.Hearing.{Hearing}
use Rattle.driver_model.specs.declared.hearing.Notice.{Notice}
use Rattle.driver_model.specs.Shape.{need_of, verdict_of}
use Rattle.link_core.specs.declared.message.Entry.{Entry}
use Rattle.link_core.specs.declared.message.NoticeAt.{NoticeAt}
use Rattle.link_core.specs.declared.message.Settled.{Settled}
use Rattle.link_core.specs.Dealing.{Dealing, dealing_with, with_item, settled_by, dealt_to, dealt, dealt_if, is_set_up_in, taking_in, noticed_behind, taken_as, taken, taken_each}
use Rattle.legal_trace.specs.Ledger.{Ledger, Start, Heard, reach, items_came, is_set_up, is_awaiting as ledger_awaits, taking_of, heard_at, dealt_if as ledger_deals, value_by, value_came, values_came}
use Rattle.legal_trace.proofs.Ledgers.{reach_alike}
use Rattle.link_laws.specs.Notices.{SayTheSame}
use Rattle.link_laws.proofs.Choices.{lt_test, not_lt_test}
use Rattle.link_laws.proofs.Dealt.{IsCutOf, IsDealt, all_append, awaits_alike, cut_stays, full_cut, full_from, items_with, one_dealt, one_wanted}
use Rattle.link_laws.proofs.Rows.{open_list, open_of, open_rows, open_rows-item}

-- where a notice stands
--
-- what was settled as number place of a call stands before its notices exactly where these came behind so many items
abbrev pub ApartFrom : ℕ → ℕ → List NoticeAt → List Heard → Type 0
ApartFrom place far [] [] = Unit {0}
ApartFrom place far [] (h ∷ hs) = ⊥
ApartFrom place far (p ∷ ps) [] = ⊥
ApartFrom place far (p ∷ ps) (h ∷ hs) = (nat_lt place p.settled ≡ nat_le far h.after) × ApartFrom place far ps hs

-- a settled message has its cut, and stands apart from these notices
pub record IsAmong (name : ℕ → Owner) (ss : List Start) (items : List Data) (ps : List NoticeAt) (hs : List Heard) (place : ℕ) (s : Settled) : Type 0 where
  pub cut : IsCutOf name ss items s
  pub apart : ApartFrom place (reach (take (suc cut.cut.number) ss) items) ps hs

-- so do all of these, from this place on
abbrev pub AreAmong : (ℕ → Owner) → List Start → List Data → List NoticeAt → List Heard → ℕ → List Settled → Type 0
AreAmong name ss items ps hs place [] = Unit {0}
AreAmong name ss items ps hs place (s ∷ out) = IsAmong name ss items ps hs place s × AreAmong name ss items ps hs (suc place) out

-- what a link has taken: it is dealt as in its ledger; whether a value ends the link is the same; what is to be told since is the
-- same, no notice stands behind more messages than were settled, or behind more items than were dealt, and each stands among the
-- settled messages where it came
pub record IsTaken (name : ℕ → Owner) (before : List Heard) (l : Ledger) (d : Dealing) : Type 0 where
  pub deals : IsDealt name l.starts l.dealt d
  pub strange : l.strange ≡ d.strange
  pub heard : List Heard
  pub notices : l.notices ≡ before ++ heard
  pub same : SayTheSame d.notices heard
  pub settled : AllByRecursion (λ (p : NoticeAt). p.settled ≤ length d.out) d.notices
  pub within : AllByRecursion (λ (h : Heard). h.after ≤ length l.dealt) heard
  pub among : AreAmong name l.starts l.dealt d.notices heard 0 d.out

-- a notice more
--
-- notices and then one more say the same
pub say_more : (ps : List NoticeAt) (hs : List Heard) (p : NoticeAt) (h : Heard) → SayTheSame ps hs → p.notice ≡ h.what → SayTheSame (ps ++ p ∷ []) (hs ++ h ∷ [])
say_more [] [] p h same one = (one, tt)
say_more [] (k ∷ hs) p h same one = absurd same
say_more (q ∷ ps) [] p h same one = absurd same
say_more (q ∷ ps) (k ∷ hs) p h same one = (same.0, say_more ps hs p h same.1 one)

-- and stand apart
apart_more : (place far : ℕ) (ps : List NoticeAt) (hs : List Heard) (p : NoticeAt) (h : Heard) → ApartFrom place far ps hs → nat_lt place p.settled ≡ nat_le far h.after → ApartFrom place far (ps ++ p ∷ []) (hs ++ h ∷ [])
apart_more place far [] [] p h all one = (one, tt)
apart_more place far [] (k ∷ hs) p h all one = absurd all
apart_more place far (q ∷ ps) [] p h all one = absurd all
apart_more place far (q ∷ ps) (k ∷ hs) p h all one = (all.0, apart_more place far ps hs p h all.1 one)

-- one that stands behind all that were settled
among_more : (name : ℕ → Owner) (ss : List Start) (items : List Data) (ps : List NoticeAt) (hs : List Heard) (p : NoticeAt) (h : Heard) (place : ℕ) (out : List Settled) → h.after ≡ length items → p.settled ≡ place + length out
    → AreAmong name ss items ps hs place out → AreAmong name ss items (ps ++ p ∷ []) (hs ++ h ∷ []) place out
among_more name ss items ps hs p h place [] after settled all = tt
among_more name ss items ps hs p h place (s ∷ out) after settled all =
    let far = reach (take (suc all.0.cut.cut.number) ss) items in
    let one : nat_lt place p.settled ≡ nat_le far h.after = lt_test place p.settled (omega arith) ∙ sym (le_test far h.after (omega (arith, all.0.cut.cut.full, after))) in (
      record { cut = all.0.cut; apart = apart_more place far ps hs p h all.0.apart one },
      among_more name ss items ps hs p h (suc place) out after (omega arith) all.1,
    )

-- what is told of a value
noticed : (name : ℕ → Owner) (before : List Heard) (l : Ledger) (d : Dealing) (told : Option Notice) (ends : Bool) → IsTaken name before l d
    → IsTaken name before (record l { notices = l.notices ++ heard_at l told; strange = ends }) (record d { notices = d.notices ++ noticed_behind (length d.out) told; strange = ends })
noticed name before l d None ends h = record {
  deals = record { row = h.deals.row; within = h.deals.within; cuts = h.deals.cuts };
  strange = refl;
  heard = h.heard;
  notices = append-nil l.notices ∙ h.notices;
  same = subst (λ (ps : List NoticeAt). SayTheSame ps h.heard) (sym (append-nil d.notices)) h.same;
  settled = subst (AllByRecursion (λ (p : NoticeAt). p.settled ≤ length d.out)) (sym (append-nil d.notices)) h.settled;
  within = h.within;
  among = subst (λ (ps : List NoticeAt). AreAmong name l.starts l.dealt ps h.heard 0 d.out) (sym (append-nil d.notices)) h.among;
}
noticed name before l d (Some n) ends h =
    let p : NoticeAt = record { settled = length d.out; notice = n } in
    let x : Heard = record { after = length l.dealt; what = n } in
    record {
      deals = record { row = h.deals.row; within = h.deals.within; cuts = h.deals.cuts };
      strange = refl;
      heard = h.heard ++ x ∷ [];
      notices = ap (λ (hs : List Heard). hs ++ x ∷ []) h.notices ∙ append_assoc before h.heard (x ∷ []);
      same = say_more d.notices h.heard p x h.same refl;
      settled = all_append (λ (q : NoticeAt). q.settled ≤ length d.out) d.notices (p ∷ []) h.settled (omega arith, tt);
      within = all_append (λ (y : Heard). y.after ≤ length l.dealt) h.heard (x ∷ []) h.within (omega arith, tt);
      among = among_more name l.starts l.dealt d.notices h.heard p x 0 d.out refl (omega arith) h.among;
    }

-- an item
--
-- a message that the last of these items settles
pub record IsNew (name : ℕ → Owner) (ss : List Start) (before now : List Data) (s : Settled) : Type 0 where
  pub cut : IsCutOf name ss now s
  pub late : length before < reach (take (suc cut.cut.number) ss) before

-- an item settles one message, or none
abbrev pub SettlesOne : (ℕ → Owner) → List Start → List Data → List Data → List Settled → List Settled → Type 0
SettlesOne name ss before now was out = (out ≡ was) ⊎ ((s : Settled) × (out ≡ was ++ s ∷ []) × IsNew name ss before now s)

-- it goes to the first of the row
pub item_settles : (name : ℕ → Owner) (ss : List Start) (before : List Data) (d : Dealing) (item : Data) (row : List Entry) → d.row ≡ row → IsDealt name ss before d
    → SettlesOne name ss before (items_with (reach ss before) before (item ∷ [])) d.out (dealt_to d item row).out
item_settles name ss before d item [] is h = inl refl
item_settles name ss before d item (e ∷ es) is h =
    let f = with_item e item in
    let r : open_rows ss before ≡ open_of name e ∷ open_list name es = sym h.row ∙ ap (open_list name) is in
    let wanted = (open_rows-item ss before item (open_of name e) (open_list name es) r).0 in
    let now = items_with (reach ss before) before (item ∷ []) in
    let now_is : now ≡ before ++ item ∷ [] = one_wanted (reach ss before) before item wanted in
    chosen (λ (x : Dealing). SettlesOne name ss before now d.out x.out) (nat_lt (length f.got) (need_of f.shape)) (record d { row = f ∷ es }) (record d { row = es; out = d.out ++ settled_by f })
    (λ t. inl refl)
    (λ n.
    let j = full_cut ss before item (open_of name e) (open_list name es) r (full_from e item n) in
    let x : Settled = record { id = e.id; verdict = verdict_of e.shape f.got } in
    let new : IsNew name ss before (before ++ item ∷ []) x = record { cut = record { of_shape = e.shape; got = f.got; cut = j.cut; verdict_is = refl }; late = j.late } in
    chosen (λ (more : List Settled). SettlesOne name ss before now d.out (d.out ++ more)) e.awaited (x ∷ []) []
    (λ w. inr (x, refl, subst (λ (ds : List Data). IsNew name ss before ds x) (sym now_is) new))
    (λ w. inl (append-nil d.out)))

-- what is told, and whether a value ends the link, stays
pub item_tells : (d : Dealing) (item : Data) (row : List Entry) → ((dealt_to d item row).notices ≡ d.notices) × ((dealt_to d item row).strange ≡ d.strange)
item_tells d item [] = (refl, refl)
item_tells d item (e ∷ es) =
    let f = with_item e item in
    chosen (λ (x : Dealing). (x.notices ≡ d.notices) × (x.strange ≡ d.strange)) (nat_lt (length f.got) (need_of f.shape)) (record d { row = f ∷ es }) (record d { row = es; out = d.out ++ settled_by f }) (λ t. (refl, refl)) (λ n. (refl, refl))

-- who stands among the notices does so where more items are dealt
among_stays : (name : ℕ → Owner) (ss : List Start) (items more : List Data) (ps : List NoticeAt) (hs : List Heard) (place : ℕ) (out : List Settled) → AreAmong name ss items ps hs place out → AreAmong name ss (items ++ more) ps hs place out
unfolding cut_stays
among_stays name ss items more ps hs place [] all = tt
among_stays name ss items more ps hs place (s ∷ out) all =
    let c = all.0.cut in
    let far = reach_alike (take (suc c.cut.number) ss) items (items ++ more) in (
      record {
        cut = record { of_shape = c.of_shape; got = c.got; cut = cut_stays ss items more (name s.id) c.of_shape c.got c.cut; verdict_is = c.verdict_is };
        apart = subst (λ (n : ℕ). ApartFrom place n ps hs) far all.0.apart;
      },
      among_stays name ss items more ps hs (suc place) out all.1,
    )

-- a message that was not full when they came stands behind all notices
apart_behind : (place far : ℕ) (ps : List NoticeAt) (hs : List Heard) → SayTheSame ps hs → AllByRecursion (λ (p : NoticeAt). p.settled ≤ place) ps → AllByRecursion (λ (h : Heard). h.after < far) hs → ApartFrom place far ps hs
apart_behind place far [] [] same early before = tt
apart_behind place far [] (h ∷ hs) same early before = absurd same
apart_behind place far (p ∷ ps) [] same early before = absurd same
apart_behind place far (p ∷ ps) (h ∷ hs) same early before =
    (not_lt_test place p.settled early.0 ∙ sym (not_le_test far h.after before.0), apart_behind place far ps hs same.1 early.1 before.1)

-- what holds of each holds of each by what follows
pub all_by : {X : Type 0} (P Q : X → Type 0) (xs : List X) → ((x : X) → P x → Q x) → AllByRecursion P xs → AllByRecursion Q xs
all_by P Q [] f all = tt
all_by P Q (x ∷ xs) f all = (f x all.0, all_by P Q xs f all.1)

-- one more message stands behind those that stand so
among_push : (name : ℕ → Owner) (ss : List Start) (items : List Data) (ps : List NoticeAt) (hs : List Heard) (place : ℕ) (out : List Settled) (s : Settled) → AreAmong name ss items ps hs place out → IsAmong name ss items ps hs (place + length out) s
    → AreAmong name ss items ps hs place (out ++ s ∷ [])
among_push name ss items ps hs place [] s all one = let same : place + 0 ≡ place = omega arith in (subst (λ (n : ℕ). IsAmong name ss items ps hs n s) same one, tt)
among_push name ss items ps hs place (x ∷ out) s all one =
    let same : place + suc (length out) ≡ suc place + length out = omega arith in
    (all.0, among_push name ss items ps hs (suc place) out s all.1 (subst (λ (n : ℕ). IsAmong name ss items ps hs n s) same one))

-- what an item settles stands among the notices
among_item : (name : ℕ → Owner) (ss : List Start) (items more : List Data) (ps : List NoticeAt) (hs : List Heard) (was out : List Settled) → SayTheSame ps hs → AllByRecursion (λ (p : NoticeAt). p.settled ≤ length was) ps
    → AllByRecursion (λ (h : Heard). h.after ≤ length items) hs → SettlesOne name ss items (items ++ more) was out → AreAmong name ss items ps hs 0 was → AreAmong name ss (items ++ more) ps hs 0 out
among_item name ss items more ps hs was out same settled within (inl none) all = subst (AreAmong name ss (items ++ more) ps hs 0) (sym none) (among_stays name ss items more ps hs 0 was all)
among_item name ss items more ps hs was out same settled within (inr one) all =
    let s = one.0 in
    let new = one.2 in
    let far = reach (take (suc new.cut.cut.number) ss) (items ++ more) in
    let far_is = reach_alike (take (suc new.cut.cut.number) ss) (items ++ more) items in
    let place : length was ≡ 0 + length was = omega arith in
    subst (AreAmong name ss (items ++ more) ps hs 0) (sym one.1)
    (among_push name ss (items ++ more) ps hs 0 was s (among_stays name ss items more ps hs 0 was all)
    (record {
      cut = new.cut;
      apart = subst (λ (n : ℕ). ApartFrom n far ps hs) place
          (apart_behind (length was) far ps hs same settled (all_by (λ (h : Heard). h.after ≤ length items) (λ (h : Heard). h.after < far) hs (λ h l. omega (arith, l, far_is, new.late)) within));
    }))

-- no settled message is taken back
pub settled_grows : (d : Dealing) (item : Data) (row : List Entry) → length d.out ≤ length (dealt_to d item row).out
settled_grows d item [] = omega arith
settled_grows d item (e ∷ es) =
    let f = with_item e item in
    chosen (λ (x : Dealing). length d.out ≤ length x.out) (nat_lt (length f.got) (need_of f.shape)) (record d { row = f ∷ es }) (record d { row = es; out = d.out ++ settled_by f })
    (λ t. omega arith)
    (λ n. omega (arith, length-append d.out (settled_by f)))

-- an item is dealt
item_taken : (name : ℕ → Owner) (before : List Heard) (l : Ledger) (d : Dealing) (v : Data) → IsTaken name before l d → IsTaken name before (items_came l (v ∷ [])) (dealt d v)
item_taken name before l d v h =
    let more = take (reach l.starts l.dealt - length l.dealt) (v ∷ []) in
    let x = dealt d v in
    let tells = item_tells d v d.row in
    let grown = settled_grows d v d.row in
    let among = among_item name l.starts l.dealt more d.notices h.heard d.out x.out h.same h.settled h.within (item_settles name l.starts l.dealt d v d.row refl h.deals) h.among in
    record {
      deals = one_dealt name l.starts l.dealt d v d.row refl h.deals;
      strange = h.strange ∙ sym tells.1;
      heard = h.heard;
      notices = h.notices;
      same = subst (λ (ps : List NoticeAt). SayTheSame ps h.heard) (sym tells.0) h.same;
      settled = subst (AllByRecursion (λ (p : NoticeAt). p.settled ≤ length x.out)) (sym tells.0)
          (all_by (λ (p : NoticeAt). p.settled ≤ length d.out) (λ (p : NoticeAt). p.settled ≤ length x.out) d.notices (λ p few. omega (arith, few, grown)) h.settled);
      within = all_by (λ (y : Heard). y.after ≤ length l.dealt) (λ (y : Heard). y.after ≤ length (l.dealt ++ more)) h.heard (λ y few. omega (arith, few, length-append l.dealt more)) h.within;
      among = subst (λ (ps : List NoticeAt). AreAmong name l.starts (l.dealt ++ more) ps h.heard 0 x.out) (sym tells.0) among;
    }

-- a value
--
-- of which this becomes in both
pub as_taken : (name : ℕ → Owner) (before : List Heard) (l : Ledger) (d : Dealing) (t : Taking) (v : Data) → IsTaken name before l d → IsTaken name before (value_by l t v) (taken_as d t v)
as_taken name before l d t v h =
    let m : Ledger = record l { notices = l.notices ++ heard_at l t.told; strange = t.ends } in
    let e : Dealing = record d { notices = d.notices ++ noticed_behind (length d.out) t.told; strange = t.ends } in
    let told = noticed name before l d t.told t.ends h in
    by_dealt t.dealt m e told
  where
    by_dealt : (is : Bool) (m : Ledger) (e : Dealing) → IsTaken name before m e → IsTaken name before (ledger_deals is m v) (dealt_if is e v)
    by_dealt true m e k = item_taken name before m e v k
    by_dealt false m e k = k

-- the same becomes of a value on a link and in its ledger
abbrev pub TakesAlike : Hearing → Bool → Ledger → Dealing → Data → Type 0
TakesAlike h ready l d v = (awaited : Bool) → taking l.hearing (is_set_up l) awaited v ≡ taking h (is_set_up_in ready d) awaited v

-- so a value is taken alike
pub value_taken : (name : ℕ → Owner) (before : List Heard) (h : Hearing) (ready : Bool) (l : Ledger) (d : Dealing) (v : Data) → TakesAlike h ready l d v → IsTaken name before l d → IsTaken name before (value_came l v) (taken h ready d v)
value_taken name before h ready l d v alike k =
    let t = taking_of l v in
    let same : t ≡ taking_in h ready d v = alike (ledger_awaits l) ∙ ap (λ (b : Bool). taking h (is_set_up_in ready d) b v) (sym (awaits_alike name l.starts l.dealt d.row k.deals.row)) in
    let goes : d.strange ≡ false → IsTaken name before (value_by l t v) (taken h ready d v) = (λ f.
    subst (IsTaken name before (value_by l t v)) (ap (λ (x : Taking). taken_as d x v) same ∙ sym (left_if d.strange d (taken_as d (taking_in h ready d v) v) f)) (as_taken name before l d t v k)) in
    chosen (λ (x : Ledger). IsTaken name before x (taken h ready d v)) l.strange l (value_by l t v)
    (λ y. subst (IsTaken name before l) (sym (taken_if d.strange d (taken_as d (taking_in h ready d v) v) (sym k.strange ∙ y))) k)
    (λ n. goes (sym k.strange ∙ n))

-- so at each of these values
abbrev pub TakeAlike : Hearing → Bool → Ledger → Dealing → List Data → Type 0
TakeAlike h ready l d [] = Unit {0}
TakeAlike h ready l d (v ∷ vs) = TakesAlike h ready l d v × TakeAlike h ready (value_came l v) (taken h ready d v) vs

-- and all are taken alike
pub values_taken : (name : ℕ → Owner) (before : List Heard) (h : Hearing) (ready : Bool) (l : Ledger) (d : Dealing) (vs : List Data) → TakeAlike h ready l d vs → IsTaken name before l d → IsTaken name before (values_came l vs) (taken_each h ready d vs)
values_taken name before h ready l d [] alike k = k
values_taken name before h ready l d (v ∷ vs) alike k =
    values_taken name before h ready (value_came l v) (taken h ready d v) vs alike.1 (value_taken name before h ready l d v alike.0 k)

-- where nothing was taken
pub none_taken : (name : ℕ → Owner) (l : Ledger) (row : List Entry) → open_list name row ≡ open_rows l.starts l.dealt → length l.dealt ≤ reach l.starts l.dealt → l.strange ≡ false → IsTaken name l.notices l (dealing_with row)
none_taken name l row is within tame = record {
  deals = record { row = is; within = within; cuts = tt };
  strange = tame;
  heard = [];
  notices = sym (append-nil l.notices);
  same = tt;
  settled = tt;
  within = tt;
  among = tt;
}
