-- Replies to what is subscribed again: what bytes that come make of it.
use Rattle.std.proofs.Common.{◌≡◌, inl, inr, ℕ, suc, ◌+◌, ◌<◌, ◌≤◌, ◌==◌, Bool, true, false, ◌||◌, not, if◌then◌else◌, List, [], ◌∷◌, ◌++◌, length, take, Option, Some, None, slice_get, refl, sym, ap, ◌∙◌, subst, arith}
use Rattle.std.specs.List.{AllByRecursion}
use Rattle.containers.proofs.Choices.{by_test, taken_if, left_if, not_both, le_test, eq_from}
use Rattle.containers.proofs.Places.{get_within}
use Rattle.resp_value.specs.Data.{Data}
use Rattle.resp_read.specs.Values.{values}
use Rattle.sub_tracker.specs.Subscribed.{Request as Call}
use Rattle.driver_model.specs.declared.action.Owner.{Owner}
use Rattle.driver_model.specs.declared.action.Owner.TheVariants as owner
use Rattle.driver_model.specs.declared.hearing.Hearing.{Hearing}
use Rattle.driver_model.specs.News.{came}
use Rattle.link_core.specs.declared.message.Settled.{Settled}
use Rattle.link_core.specs.Dealing.{Dealing, dealing_with}
use Rattle.link_core.specs.Link.{LinkState}
use Rattle.link_laws.specs.Settles.{settled_ids, wanted}
use Rattle.link_laws.proofs.Dealt.{IsDealt}
use Rattle.link_laws.proofs.Once.{taken_keeps}
use Rattle.link_laws.proofs.Started.{full_or_open, row_open}
use Rattle.link_laws.proofs.Taken.{IsNew}
use Rattle.link_laws.proofs.TiedLink.{ReadsAlike, TiedLink, deals, has_heard, read_taken}
use Rattle.mux_conn.specs.declared.again.Again.{Again}
use Rattle.mux_conn.specs.declared.again.Again.TheVariants as again
use Rattle.mux_conn.specs.declared.request.Request.{Request}
use Rattle.mux_conn.specs.Connection.{is_outstanding}
use Rattle.mux_conn.specs.Repeats.{repeat_id}
use Rattle.legal_trace.specs.Ledger.{Ledger, Start, again_among, again_of, bytes_came, is_answered, is_full, is_of_again, is_served, reach}
use Rattle.legal_trace.proofs.Came.{bytes_are, grown, holds_came}
use Rattle.conn_laws.proofs.Ties.InLine.{wanted_in}
use Rattle.conn_laws.proofs.Ties.More.{full_more}
use Rattle.conn_laws.proofs.Ties.Names.{owner_of_repeat, repeat_owner}
use Rattle.conn_laws.proofs.Ties.New.{read_new}
use Rattle.conn_laws.proofs.Ties.Numbers.{IsIn, in_either, is_own, repeat_is_own}
use Rattle.conn_laws.proofs.Internal.Own.{again_after, has_repeat, repeat_in}
use Rattle.conn_laws.proofs.Ties.Owes.{wanted_entry}
use Rattle.conn_laws.proofs.Internal.Repeats.{IsRepeatSent, IsRepeated, none_again, repeated_alike}
use Rattle.conn_laws.proofs.Internal.Replies.{entry_at, row_tied, wanted_at, with_items}
use Rattle.conn_laws.proofs.Ties.Tied.{IsEntry, owner_of}

-- its message
--
-- the first start that subscribes again is there
again_at : (ss : List Start) (n k : ℕ) → again_among ss n ≡ Some k → (j : ℕ) × (s : Start) × (k ≡ n + j) × (slice_get ss j ≡ Some s) × (is_of_again s.owner ≡ true)
again_at [] n k e = cc
again_at (x ∷ ss) n k e = by_test (is_of_again x.owner) ((j : ℕ) × (s : Start) × (k ≡ n + j) × (slice_get (x ∷ ss) j ≡ Some s) × (is_of_again s.owner ≡ true))
    (λ t.
    let so = sym (taken_if (is_of_again x.owner) (Some n) (again_among ss (suc n)) t) ∙ e in
    let same : n ≡ k = cc in
    (0, x, omega (arith, same), refl, t))
    (λ f.
    let m = again_at ss (suc n) k (sym (left_if (is_of_again x.owner) (Some n) (again_among ss (suc n)) f) ∙ e) in
    let far = m.2 in
    (suc m.0, m.1, omega (arith, far), m.3, m.4))

-- of a link
again_start : (l : Ledger) (k : ℕ) → again_of l ≡ Some k → (s : Start) × (slice_get l.starts k ≡ Some s) × (is_of_again s.owner ≡ true)
again_start l k e =
    let m = again_at l.starts 0 k e in
    let far = m.2 in
    let same : k ≡ m.0 = omega (arith, far) in
    (m.1, ap (slice_get l.starts) same ∙ m.3, m.4)

-- whose it is
again_is : (o : Owner) → is_of_again o ≡ true → o ≡ owner.Resub
again_is owner.Resub e = refl
again_is owner.Setup e = cc
again_is (owner.Try n round) e = cc
again_is owner.Auth e = cc
again_is owner.Monitor e = cc

-- the owner of its number
again_name : (requests : List Request) (p : ℕ) → p ≡ repeat_id → is_of_again (owner_of requests p) ≡ true
again_name requests p is = ap is_of_again (owner_of_repeat requests p is)

-- what is settled
--
-- a start that subscribes again is full, once these items are dealt
record IsRepeatFull (l : Ledger) (more : List Data) : Type 0 where
  pub number : ℕ
  pub start : Start
  pub at : slice_get l.starts number ≡ Some start
  pub is : is_of_again start.owner ≡ true
  pub full : is_full (with_items l more) number ≡ true

-- one is whose message was settled
repeat_full : (requests : List Request) (l : Ledger) (more : List Data) (s : Settled) → s.id ≡ repeat_id → IsNew (owner_of requests) l.starts l.dealt (with_items l more).dealt s → IsRepeatFull l more
repeat_full requests l more s is h =
    let c = h.cut.cut in
    let n = c.number in
    let one : suc n ≡ n + 1 = omega arith in
    record {
      number = n;
      start = c.place.start;
      at = c.place.stands;
      is = ap is_of_again c.place.owned ∙ again_name requests s.id is;
      full = le_test (reach (take (n + 1) l.starts) (with_items l more).dealt) (length (with_items l more).dealt) (subst (λ m. reach (take m l.starts) (with_items l more).dealt ≤ length (with_items l more).dealt) one c.full);
    }

-- where its reply is among these
some_full : (requests : List Request) (l : Ledger) (more : List Data) (out : List Settled) → has_repeat out ≡ true → AllByRecursion (IsNew (owner_of requests) l.starts l.dealt (with_items l more).dealt) out → IsRepeatFull l more
some_full requests l more [] some all = cc
some_full requests l more (s ∷ out) some all = by_test (s.id == repeat_id) (IsRepeatFull l more)
    (λ t. repeat_full requests l more s (eq_from s.id repeat_id t) all.0)
    (λ f. some_full requests l more out (sym (ap (λ b. b || has_repeat out) f) ∙ some) all.1)

-- so where none has started, none is
none_replied : (requests : List Request) (l : Ledger) (more : List Data) (out : List Settled) → again_of l ≡ None → AllByRecursion (IsNew (owner_of requests) l.starts l.dealt (with_items l more).dealt) out → has_repeat out ≡ false
none_replied requests l more out none new = by_test (has_repeat out) (has_repeat out ≡ false)
    (λ t. let x = some_full requests l more out t new in absurd (not_both (is_of_again x.start.owner) (none_again l.starts 0 x.number x.start none x.at) x.is))
    (λ f. f)

-- one that has started and takes items is in the row
sent_in_row : (requests : List Request) (l : Ledger) (link : LinkState) → l.end ≡ None → TiedLink (owner_of requests) l link → AllByRecursion (IsEntry requests) link.row → ((p : ℕ) → p < length requests → is_own p ≡ false) → IsRepeatSent l → IsIn repeat_id (wanted link.row)
sent_in_row requests l link lives tied entries few h =
    let m = again_start l h.k h.sent in
    elim (full_or_open (owner_of requests) l link h.k (get_within l.starts h.k m.0 m.1) lives tied) [
      | inl full ↦ absurd (not_both (is_full l h.k) h.open_is full)
      | inr row ↦
          let place = row.open_as.place in
          let one : place.start ≡ m.0 = one_start place.start m.0 (sym place.stands ∙ m.1) in
          let id = repeat_owner requests row.entry.id (sym place.owned ∙ ap (λ (x : Start). x.owner) one ∙ again_is m.0.owner m.2) in
          elim (entry_at (IsEntry requests) link.row row.index row.entry entries row.at) [
            | inl request ↦ absurd (not_both (is_own row.entry.id) (few row.entry.id request.below) (repeat_is_own row.entry.id id))
            | inr own ↦ subst (λ n. IsIn n (wanted link.row)) id (wanted_at link.row row.index row.entry row.at own.awaited_is)
          ]
    ]
  where
    one_start : (x y : Start) → ◌≡◌ {A = Option Start} (Some x) (Some y) → x ≡ y
    one_start x y e = cc

-- and one that is in the row behind these items takes more
row_unfull : (requests : List Request) (l : Ledger) (link : LinkState) (more : List Data) (d : Dealing) → l.end ≡ None → TiedLink (owner_of requests) l link → IsDealt (owner_of requests) l.starts (l.dealt ++ more) d → (h : IsRepeatSent l) → IsIn repeat_id (wanted d.row) → is_full (with_items l more) h.k ≡ false
row_unfull requests l link more d lives tied dealt_so h i =
    let after = with_items l more in
    let rows = row_open (owner_of requests) after (record link { row = d.row }) lives (row_tied (owner_of requests) l link more d dealt_so tied) in
    let w = wanted_entry (owner_of requests) after _ d.row repeat_id rows (wanted_in repeat_id d.row i) in
    let place = w.open_as.place in
    let same = h.only w.number place.start place.stands (ap is_of_again place.owned ∙ again_name requests w.entry.id w.is) in
    subst (λ n. is_full after n ≡ false) same w.open_as.takes_more

-- what is made of it
--
-- what is answered stays so
answered_more : (l : Ledger) (more : List Data) (o : Option ℕ) → is_answered l o ≡ true → is_answered (with_items l more) o ≡ true
answered_more l more None e = cc
answered_more l more (Some k) e = full_more l more k e

-- a link that takes requests takes them still
served_more : (l : Ledger) (more : List Data) → is_served l ≡ true → is_served (with_items l more) ≡ true
served_more l more h = by_tests l.again.wanted l.again.over (is_answered l (again_of l)) (is_answered (with_items l more) (again_of l)) (answered_more l more (again_of l)) h
  where
    by_tests : (wanted over was now : Bool) → (was ≡ true → now ≡ true) → (not wanted || (over || was)) ≡ true → (not wanted || (over || now)) ≡ true
    by_tests false over was now stays e = refl
    by_tests true true was now stays e = refl
    by_tests true false was now stays e = stays e

-- and one on which all is answered takes them
answered_served : (l : Ledger) (k : ℕ) → again_of l ≡ Some k → is_full l k ≡ true → is_served l ≡ true
answered_served l k sent full = (λ i. not l.again.wanted || (l.again.over || is_answered l (sent i))) ∙ ap (λ b. not l.again.wanted || (l.again.over || b)) full ∙ by_tests l.again.wanted l.again.over
  where
    by_tests : (wanted over : Bool) → (not wanted || (over || true)) ≡ true
    by_tests false over = refl
    by_tests true true = refl
    by_tests true false = refl

-- more items are dealt
items_repeated : (requests : List Request) (l : Ledger) (link : LinkState) (more : List Data) (d : Dealing) (calls : List Call) (within : Option ℕ) (a : Again) → l.end ≡ None → TiedLink (owner_of requests) l link → AllByRecursion (IsEntry requests) link.row → ((p : ℕ) → p < length requests → is_own p ≡ false)
    → IsDealt (owner_of requests) l.starts (l.dealt ++ more) d → AllByRecursion (IsNew (owner_of requests) l.starts l.dealt (l.dealt ++ more)) d.out → settled_ids d.out ++ wanted d.row ≡ wanted link.row → IsRepeated l calls within a
    → IsRepeated (with_items l more) calls within (again_after (is_outstanding a) a d.out)
items_repeated requests l link more d calls within again.Nothing lives tied entries few dealt_so new kept h = served_more l more h
items_repeated requests l link more d calls within (again.Due packed of_shape timed) lives tied entries few dealt_so new kept h =
    subst (IsRepeated (with_items l more) calls within) (sym (left_if (has_repeat d.out) again.Nothing (again.Due packed of_shape timed) (none_replied requests l more d.out h.unstarted new)))
    (record { wanted = h.wanted; in_time = h.in_time; unstarted = h.unstarted; timed_is = h.timed_is; message = h.message; some = h.some; needs = h.needs })
items_repeated requests l link more d calls within again.Sent lives tied entries few dealt_so new kept h =
    by_test (has_repeat d.out) (IsRepeated after calls within (if has_repeat d.out then again.Nothing else again.Sent)) answered open_still
  where
    after : Ledger
    after = with_items l more

    answered : has_repeat d.out ≡ true → IsRepeated after calls within (if has_repeat d.out then again.Nothing else again.Sent)
    answered t =
        let x = some_full requests l more d.out t new in
        let same = h.only x.number x.start x.at x.is in
        subst (IsRepeated after calls within) (sym (taken_if (has_repeat d.out) again.Nothing again.Sent t)) (answered_served after h.k h.sent (subst (λ n. is_full after n ≡ true) same x.full))

    in_row : has_repeat d.out ≡ false → IsIn repeat_id (wanted d.row)
    in_row f = elim (in_either repeat_id (settled_ids d.out) (wanted d.row) (subst (IsIn repeat_id) (sym kept) (sent_in_row requests l link lives tied entries few h))) [
      | inl i ↦ absurd (not_both (has_repeat d.out) f (repeat_in d.out i))
      | inr i ↦ i
    ]

    open_still : has_repeat d.out ≡ false → IsRepeated after calls within (if has_repeat d.out then again.Nothing else again.Sent)
    open_still f = subst (IsRepeated after calls within) (sym (left_if (has_repeat d.out) again.Nothing again.Sent f))
        (record { wanted = h.wanted; in_time = h.in_time; k = h.k; sent = h.sent; open_is = row_unfull requests l link more d lives tied dealt_so h (in_row f); only = h.only })

-- bytes come
pub read_repeated : (requests : List Request) (h : Hearing) (l : Ledger) (link : LinkState) (piece : List ℕ) (calls : List Call) (within : Option ℕ) (a : Again) → l.end ≡ None → ReadsAlike h true l link piece → TiedLink (owner_of requests) l link → AllByRecursion (IsEntry requests) link.row
    → ((p : ℕ) → p < length requests → is_own p ≡ false) → IsRepeated l calls within a → IsRepeated (has_heard l piece) calls within (again_after (is_outstanding a) a (deals h true link piece).out)
read_repeated requests h l link piece calls within a lives alike tied entries few repeated =
    let name = owner_of requests in
    let d = deals h true link piece in
    let now = again_after (is_outstanding a) a d.out in
    holds_came (λ (m : Ledger). IsDealt name m.starts m.dealt d → AllByRecursion (IsNew name l.starts l.dealt m.dealt) d.out → IsRepeated (record m { heard = came piece }) calls within now) l (bytes_came l piece) (bytes_are l piece)
    (λ rest strange told more dealt_so new.
    repeated_alike (with_items l more) (record (grown l rest strange told more) { heard = came piece }) calls within now refl refl refl
    (items_repeated requests l link more d calls within a lives tied entries few dealt_so new (taken_keeps h true (dealing_with link.row) (values (link.rest ++ piece))) repeated))
    (read_taken name h true l link piece lives alike tied).deals (read_new name h true l link piece lives alike tied)
