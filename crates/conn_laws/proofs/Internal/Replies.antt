-- Replies to new credentials: what bytes that come make of them.
use Rattle.std.proofs.Common.{◌≡◌, ◌≢◌, ◌⊎◌, inl, inr, ℕ, zero, suc, ◌+◌, ◌<◌, ◌≤◌, ◌==◌, nat_le, Bool, true, false, ◌&&◌, ◌||◌, not, if◌then◌else◌, List, [], ◌∷◌, ◌++◌, length, take, drop, Option, Some, None, slice_get, refl, sym, ap, ◌∙◌, subst, arith}
use Rattle.std.specs.List.{AllByRecursion}
use Rattle.containers.proofs.Choices.{by_test, chosen, taken_if, left_if, not_both, not_le_from, not_le_test, eq_from, ne_from}
use Rattle.containers.proofs.Places.{get_within}
use Rattle.resp_value.specs.Data.{Data}
use Rattle.resp_read.specs.Values.{values}
use Rattle.driver_model.specs.declared.action.Owner.{Owner}
use Rattle.driver_model.specs.declared.action.Owner.TheVariants as owner
use Rattle.driver_model.specs.declared.outcome.Shape.{Shape}
use Rattle.driver_model.specs.declared.outcome.Shape.TheVariants.{Confirmation}
use Rattle.driver_model.specs.declared.outcome.Verdict.{Verdict}
use Rattle.driver_model.specs.declared.outcome.Verdict.TheVariants as verdict
use Rattle.driver_model.specs.Shape.{need_of, verdict_of}
use Rattle.link_core.specs.declared.message.Entry.{Entry}
use Rattle.link_core.specs.declared.message.Settled.{Settled}
use Rattle.driver_model.specs.declared.hearing.Hearing.{Hearing}
use Rattle.driver_model.specs.News.{came}
use Rattle.link_core.specs.Dealing.{Dealing, dealing_with}
use Rattle.link_core.specs.Link.{LinkState}
use Rattle.link_laws.specs.Settles.{settled_ids, wanted}
use Rattle.link_laws.proofs.Dealt.{IsDealt}
use Rattle.link_laws.proofs.Once.{taken_keeps}
use Rattle.link_laws.proofs.Taken.{IsNew}
use Rattle.link_laws.proofs.Started.{full_or_open, row_open}
use Rattle.link_laws.proofs.TiedLink.{ReadsAlike, TiedLink, deals, has_heard, read_taken}
use Rattle.mux_conn.specs.declared.renewal.Renewal.{Renewal}
use Rattle.mux_conn.specs.declared.request.Request.{Request}
use Rattle.mux_conn.specs.Renewals.{is_done, renewal_id, replied}
use Rattle.legal_trace.specs.Ledger.{Ledger, Start, bytes_came, cut, is_full, is_of_renewal, is_taken, last_renewal, reach, is_done as is_taken_so}
use Rattle.legal_trace.proofs.Came.{bytes_are, grown, holds_came}
use Rattle.legal_trace.proofs.Renewals.{last_told, taken_more}
use Rattle.legal_trace.proofs.Setups.{full_stays}
use Rattle.conn_laws.proofs.Ties.InLine.{row_ids, wanted_in}
use Rattle.conn_laws.proofs.Ties.Names.{auth_owner, owner_of_auth}
use Rattle.conn_laws.proofs.Ties.Numbers.{IsIn, in_left, in_right, in_either, is_own, auth_is_own}
use Rattle.conn_laws.proofs.Ties.Owes.{wanted_entry}
use Rattle.conn_laws.proofs.Requests.Settle.{replied_each}
use Rattle.conn_laws.proofs.Links.Server.{AreFullBefore, AreRenewed, IsLost, IsTold}
use Rattle.conn_laws.proofs.Ties.Tied.{IsEntry, owner_of}
use Rattle.conn_laws.proofs.Ties.More.{full_more}
use Rattle.conn_laws.proofs.Ties.New.{read_new}
use Rattle.conn_laws.proofs.Internal.Renewals.{renewed_alike}

-- AUTH's number
--
-- the last start that tells new credentials is there
last_at : (ss : List Start) (k n : ℕ) (old : Option ℕ) → last_renewal ss k old ≡ Some n → (old ≡ Some n) ⊎ ((j : ℕ) × (s : Start) × (n ≡ k + j) × (slice_get ss j ≡ Some s) × (is_of_renewal s.owner ≡ true))
last_at [] k n old e = inl e
last_at (x ∷ ss) k n old e = elim (last_at ss (suc k) n (if is_of_renewal x.owner then Some k else old) e) [
  | inl o ↦ by_test (is_of_renewal x.owner) ((old ≡ Some n) ⊎ ((j : ℕ) × (s : Start) × (n ≡ k + j) × (slice_get (x ∷ ss) j ≡ Some s) × (is_of_renewal s.owner ≡ true)))
      (λ t. inr (0, x, first_here (sym (taken_if (is_of_renewal x.owner) (Some k) old t) ∙ o), refl, t))
      (λ f. inl (sym (left_if (is_of_renewal x.owner) (Some k) old f) ∙ o))
  | inr m ↦ inr (suc m.0, m.1, (let far = m.2 in omega arith), m.3, m.4)
]
  where
    first_here : ◌≡◌ {A = Option ℕ} (Some k) (Some n) → n ≡ k + 0
    first_here is = let same : k ≡ n = cc in omega arith

-- of a link
pub last_start : (l : Ledger) (k : ℕ) → last_renewal l.starts 0 None ≡ Some k → (s : Start) × (slice_get l.starts k ≡ Some s) × (is_of_renewal s.owner ≡ true)
last_start l k e = elim (last_at l.starts 0 k None e) [
  | inl none ↦ absurd (cc none)
  | inr m ↦ (m.1, ap (slice_get l.starts) (let far = m.2 in let same : k ≡ m.0 = omega arith in same) ∙ m.3, m.4)
]

-- it tells new credentials where it is AUTH
auth_is : (o : Owner) → is_of_renewal o ≡ true → o ≡ owner.Auth
auth_is owner.Auth e = refl
auth_is owner.Setup e = cc
auth_is (owner.Try n round) e = cc
auth_is owner.Resub e = cc
auth_is owner.Monitor e = cc

-- and none is behind the last
last_behind : (l : Ledger) (k j : ℕ) (s : Start) → last_renewal l.starts 0 None ≡ Some k → slice_get l.starts j ≡ Some s → is_of_renewal s.owner ≡ true → j ≤ k
last_behind l k j s last at is =
    let t = last_told l j s at is in
    let same : 0 + t.0 ≡ k = one_number (0 + t.0) k (sym t.2 ∙ last) in
    let most : j ≤ t.0 = t.5 in
    omega arith
  where
    one_number : (m n : ℕ) → ◌≡◌ {A = Option ℕ} (Some m) (Some n) → m ≡ n
    one_number m n e = cc

-- the owner of AUTH's number
auth_name : (requests : List Request) (p : ℕ) → p ≡ renewal_id → is_of_renewal (owner_of requests p) ≡ true
auth_name requests p is = ap is_of_renewal (owner_of_auth requests p is)

-- what more items leave
--
-- a ledger with more items
abbrev pub with_items : Ledger → List Data → Ledger
with_items l more = record l { dealt = l.dealt ++ more }

-- what a start that is full took
cut_after : (l : Ledger) (more : List Data) (k : ℕ) (s : Start) → slice_get l.starts k ≡ Some s → s.shape ≡ Confirmation → is_full l k ≡ true → cut (with_items l more) k Confirmation ≡ cut l k Confirmation
cut_after l more k s at shaped full =
    subst (λ n. take n (drop (reach (take k l.starts) (l.dealt ++ more)) (l.dealt ++ more)) ≡ take n (drop (reach (take k l.starts) l.dealt) l.dealt)) (ap need_of shaped) (full_stays l l.rest more k s at full).1

-- all before a start
before_after : (l : Ledger) (more : List Data) (k : ℕ) → AreFullBefore l k → AreFullBefore (with_items l more) k
before_after l more k h j s less at is = full_more l more j (h j s less at is)

-- those that were lost are
lost_after : (l : Ledger) (more : List Data) → ((k : ℕ) (s : Start) → slice_get l.starts k ≡ Some s → is_of_renewal s.owner ≡ true → s.shape ≡ Confirmation) → IsLost l → IsLost (with_items l more)
lost_after l more shaped (inl lost) = inl lost
lost_after l more shaped (inr (k, last, full, undone)) =
    let m = last_start l k last in
    inr (k, last, full_more l more k full, ap (λ ds. is_taken_so (verdict_of Confirmation ds)) (cut_after l more k m.0 m.1 (shaped k m.0 m.1 m.2) full) ∙ undone)

-- and those that were taken
taken_after : (l : Ledger) (more : List Data) (o : Option ℕ) → last_renewal l.starts 0 None ≡ o → ((k : ℕ) (s : Start) → slice_get l.starts k ≡ Some s → is_of_renewal s.owner ≡ true → s.shape ≡ Confirmation) → is_taken l o ≡ true → is_taken (with_items l more) o ≡ true
taken_after l more None e shaped h = refl
taken_after l more (Some k) e shaped h =
    let m = last_start l k e in
    taken_more l l.rest more k m.0 m.1 (shaped k m.0 m.1 m.2) h

-- what replies make of them
--
-- nothing, where none is AUTH's
none_replied : (r : Renewal) (ss : List Settled) → ((n : ℕ) → IsIn n (settled_ids ss) → n ≢ renewal_id) → replied_each r ss ≡ r
none_replied r [] none = refl
none_replied r (s ∷ ss) none =
    ap (λ x. replied_each x ss) (chosen (λ (x : Renewal). x ≡ r) (s.id == renewal_id) (replied r (is_done s.verdict)) r (λ t. absurd (none s.id (inl refl) (eq_from s.id renewal_id t))) (λ f. refl))
    ∙ none_replied r ss (λ n i. none n (inr i))

-- the same twice
replied_twice : (r : Renewal) (done : Bool) → replied (replied r done) done ≡ replied r done
replied_twice r done = ap (λ (x : Bool). record r { unanswered = false; lost = x }) (or_twice r.lost done)
  where
    or_twice : (a b : Bool) → ((a || not b) || not b) ≡ (a || not b)
    or_twice true b = refl
    or_twice false true = refl
    or_twice false false = refl

-- where each of AUTH's says the same
all_replied : (r : Renewal) (done : Bool) (ss : List Settled) → AllByRecursion (λ (x : Settled). x.id ≡ renewal_id → is_done x.verdict ≡ done) ss → (replied_each r ss ≡ r) ⊎ (replied_each r ss ≡ replied r done)
all_replied r done [] all = inl refl
all_replied r done (s ∷ ss) all =
    by_test (s.id == renewal_id) ((replied_each r (s ∷ ss) ≡ r) ⊎ (replied_each r (s ∷ ss) ≡ replied r done))
    (λ t.
    let now = ap (λ x. replied_each x ss) (taken_if (s.id == renewal_id) (replied r (is_done s.verdict)) r t ∙ ap (replied r) (all.0 (eq_from s.id renewal_id t))) in
    inr (now ∙ elim (all_replied (replied r done) done ss all.1) [ inl same ↦ same | inr so ↦ so ∙ replied_twice r done ]))
    (λ f.
    let now = ap (λ x. replied_each x ss) (left_if (s.id == renewal_id) (replied r (is_done s.verdict)) r f) in
    elim (all_replied r done ss all.1) [ inl same ↦ inl (now ∙ same) | inr so ↦ inr (now ∙ so) ])

-- there is one
some_replied : (r : Renewal) (done : Bool) (ss : List Settled) → IsIn renewal_id (settled_ids ss) → AllByRecursion (λ (x : Settled). x.id ≡ renewal_id → is_done x.verdict ≡ done) ss → replied_each r ss ≡ replied r done
some_replied r done [] i all = absurd i
some_replied r done (s ∷ ss) i all =
    by_test (s.id == renewal_id) (replied_each r (s ∷ ss) ≡ replied r done)
    (λ t.
    let now = ap (λ x. replied_each x ss) (taken_if (s.id == renewal_id) (replied r (is_done s.verdict)) r t ∙ ap (replied r) (all.0 (eq_from s.id renewal_id t))) in
    now ∙ elim (all_replied (replied r done) done ss all.1) [ inl same ↦ same | inr so ↦ so ∙ replied_twice r done ])
    (λ f.
    let now = ap (λ x. replied_each x ss) (left_if (s.id == renewal_id) (replied r (is_done s.verdict)) r f) in
    now ∙ some_replied r done ss (elim i [ inl same ↦ absurd (ne_from s.id renewal_id f same) | inr j ↦ j ]) all.1)

-- an entry of a row, by its place
pub entry_at : (P : Entry → Type 0) (row : List Entry) (n : ℕ) (e : Entry) → AllByRecursion P row → slice_get row n ≡ Some e → P e
entry_at P [] n e all at = cc
entry_at P (x ∷ row) zero e all at = let same : x ≡ e = cc in subst P same all.0
entry_at P (x ∷ row) (suc n) e all at = entry_at P row n e all.1 at

-- that is awaited is wanted
pub wanted_at : (row : List Entry) (n : ℕ) (e : Entry) → slice_get row n ≡ Some e → e.awaited ≡ true → IsIn e.id (wanted row)
wanted_at [] n e at is = cc
wanted_at (x ∷ row) zero e at is =
    let same : x ≡ e = cc in
    in_left e.id (if x.awaited then x.id ∷ [] else []) (wanted row) (subst (λ (y : Entry). IsIn e.id (if y.awaited then y.id ∷ [] else [])) (sym same) (subst (λ (b : Bool). IsIn e.id (if b then e.id ∷ [] else [])) (sym is) (inl refl)))
wanted_at (x ∷ row) (suc n) e at is = in_right e.id (if x.awaited then x.id ∷ [] else []) (wanted row) (wanted_at row n e at is)

-- AUTH that was settled, of a link on which one may be
record IsReplied (l : Ledger) (more : List Data) (s : Settled) : Type 0 where
  pub number : ℕ
  pub start : Start
  pub at : slice_get l.starts number ≡ Some start
  pub is : is_of_renewal start.owner ≡ true
  pub was : is_full l number ≡ false
  pub full : is_full (with_items l more) number ≡ true
  pub says : is_done s.verdict ≡ is_taken_so (verdict_of Confirmation (cut (with_items l more) number Confirmation))

-- one definition is the other
done_same : (v : Verdict) → is_done v ≡ is_taken_so v
done_same verdict.Done = refl
done_same (verdict.One x) = refl
done_same (verdict.Many xs) = refl
done_same (verdict.Fault e) = refl

-- it was open before
auth_replied : (requests : List Request) (l : Ledger) (more : List Data) (s : Settled) → ((k : ℕ) (x : Start) → slice_get l.starts k ≡ Some x → is_of_renewal x.owner ≡ true → x.shape ≡ Confirmation) → s.id ≡ renewal_id
    → IsNew (owner_of requests) l.starts l.dealt (with_items l more).dealt s → IsReplied l more s
auth_replied requests l more s shaped auth h =
    let c = h.cut.cut in
    let n = c.number in
    let is = ap is_of_renewal c.place.owned ∙ auth_name requests s.id auth in
    let one : suc n ≡ n + 1 = omega arith in
    let of_shape : h.cut.of_shape ≡ Confirmation = sym c.place.shaped ∙ shaped n c.place.start c.place.stands is in
    record {
      number = n;
      start = c.place.start;
      at = c.place.stands;
      is = is;
      was = not_le_test (reach (take (n + 1) l.starts) l.dealt) (length l.dealt) (let late = h.late in subst (λ m. length l.dealt < reach (take m l.starts) l.dealt) one late);
      full = le_so (reach (take (n + 1) l.starts) (with_items l more).dealt) (length (with_items l more).dealt) (subst (λ m. reach (take m l.starts) (with_items l more).dealt ≤ length (with_items l more).dealt) one c.full);
      says = ap is_done h.cut.verdict_is ∙ (λ i. is_done (verdict_of (of_shape i) (c.cut_is i))) ∙ says_so n h.cut.of_shape of_shape ∙ done_same (verdict_of Confirmation (cut (with_items l more) n Confirmation));
    }
  where
    le_so : (a b : ℕ) → a ≤ b → nat_le a b ≡ true
    le_so a b l = by_test (nat_le a b) _ (λ t. t) (λ f. absurd (let no = not_le_from a b f in omega arith))

    says_so : (n : ℕ) (of_shape : Shape) → of_shape ≡ Confirmation
        → is_done (verdict_of Confirmation (let from = drop (reach (take n l.starts) (with_items l more).dealt) (with_items l more).dealt in take (need_of of_shape) from)) ≡ is_done (verdict_of Confirmation (cut (with_items l more) n Confirmation))
    says_so n of_shape is = ap (λ x. is_done (verdict_of Confirmation (let from = drop (reach (take n l.starts) (with_items l more).dealt) (with_items l more).dealt in take (need_of x) from))) is

-- so no reply of AUTH is settled where all are answered
none_settled : (requests : List Request) (l : Ledger) (more : List Data) (out : List Settled) → ((k : ℕ) (x : Start) → slice_get l.starts k ≡ Some x → is_of_renewal x.owner ≡ true → x.shape ≡ Confirmation) → ((s : Settled) → IsReplied l more s → ⊥)
    → AllByRecursion (IsNew (owner_of requests) l.starts l.dealt (with_items l more).dealt) out → (n : ℕ) → IsIn n (settled_ids out) → n ≢ renewal_id
none_settled requests l more [] shaped never all n i = absurd i
none_settled requests l more (s ∷ out) shaped never all n (inl same) = λ is. never s (auth_replied requests l more s shaped (same ∙ is) all.0)
none_settled requests l more (s ∷ out) shaped never all n (inr i) = none_settled requests l more out shaped never all.1 n i

-- and each says what the last was answered
all_say : (requests : List Request) (l : Ledger) (more : List Data) (out : List Settled) (k : ℕ) → ((k : ℕ) (x : Start) → slice_get l.starts k ≡ Some x → is_of_renewal x.owner ≡ true → x.shape ≡ Confirmation) → ((s : Settled) (h : IsReplied l more s) → h.number ≡ k)
    → AllByRecursion (IsNew (owner_of requests) l.starts l.dealt (with_items l more).dealt) out
    → AllByRecursion (λ (x : Settled). x.id ≡ renewal_id → is_done x.verdict ≡ is_taken_so (verdict_of Confirmation (cut (with_items l more) k Confirmation))) out
all_say requests l more [] k shaped only all = tt
all_say requests l more (s ∷ out) k shaped only all = (
  (λ is.
      let h = auth_replied requests l more s shaped is all.0 in
      h.says ∙ ap (λ n. is_taken_so (verdict_of Confirmation (cut (with_items l more) n Confirmation))) (only s h)),
  all_say requests l more out k shaped only all.1,
)

-- those that were told last, and aren't answered, are in the row
told_in_row : (requests : List Request) (l : Ledger) (link : LinkState) (k : ℕ) → l.end ≡ None → TiedLink (owner_of requests) l link → AllByRecursion (IsEntry requests) link.row → ((p : ℕ) → p < length requests → is_own p ≡ false) → last_renewal l.starts 0 None ≡ Some k → is_full l k ≡ false
    → IsIn renewal_id (wanted link.row)
told_in_row requests l link k lives tied entries few last open_is =
    let m = last_start l k last in
    elim (full_or_open (owner_of requests) l link k (get_within l.starts k m.0 m.1) lives tied) [
      | inl full ↦ absurd (not_both (is_full l k) open_is full)
      | inr row ↦
          let place = row.open_as.place in
          let one : place.start ≡ m.0 = one_start place.start m.0 (sym place.stands ∙ m.1) in
          let auth : owner_of requests row.entry.id ≡ owner.Auth = sym place.owned ∙ ap (λ (x : Start). x.owner) one ∙ auth_is m.0.owner m.2 in
          let id = auth_owner requests row.entry.id auth in
          elim (entry_at (IsEntry requests) link.row row.index row.entry entries row.at) [
            | inl request ↦ absurd (not_both (is_own row.entry.id) (few row.entry.id request.below) (auth_is_own row.entry.id id))
            | inr renewal ↦ subst (λ n. IsIn n (wanted link.row)) id (wanted_at link.row row.index row.entry row.at renewal.awaited_is)
          ]
    ]
  where
    one_start : (x y : Start) → ◌≡◌ {A = Option Start} (Some x) (Some y) → x ≡ y
    one_start x y e = cc

-- a link with a row and more items
pub row_tied : (name : ℕ → Owner) (l : Ledger) (link : LinkState) (more : List Data) (d : Dealing) → IsDealt name l.starts (l.dealt ++ more) d → TiedLink name l link → TiedLink name (with_items l more) (record link { row = d.row })
row_tied name l link more d dealt_so h = record {
  sent = h.sent;
  offer = h.offer;
  bound = h.bound;
  rest = h.rest;
  broken = h.broken;
  started = h.started;
  within = dealt_so.within;
  bytes = h.bytes;
  row = λ e. dealt_so.row;
}

-- more items are dealt
items_renewed : (requests : List Request) (l : Ledger) (link : LinkState) (more : List Data) (d : Dealing) (r : Renewal) → l.end ≡ None → TiedLink (owner_of requests) l link → AllByRecursion (IsEntry requests) link.row → ((p : ℕ) → p < length requests → is_own p ≡ false)
    → IsDealt (owner_of requests) l.starts (l.dealt ++ more) d → AllByRecursion (IsNew (owner_of requests) l.starts l.dealt (l.dealt ++ more)) d.out → settled_ids d.out ++ wanted d.row ≡ wanted link.row → AreRenewed l r
    → AreRenewed (with_items l more) (replied_each r d.out)
items_renewed requests l link more d r lives tied entries few dealt_so new kept h =
    by_test r.unanswered (AreRenewed after (replied_each r out)) waiting_reply all_answered
  where
    after : Ledger
    after = with_items l more

    out : List Settled
    out = d.out

    lost_still : r.lost ≡ true → IsLost after
    lost_still x = lost_after l more h.shaped (h.lost x)

    -- all were answered before
    all_answered : r.unanswered ≡ false → AreRenewed after (replied_each r out)
    all_answered u =
        let none : (s : Settled) → IsReplied l more s → ⊥ = λ s x. not_both (is_full l x.number) x.was (h.answered u x.number x.start (get_within l.starts x.number x.start x.at) x.at x.is) in
        subst (AreRenewed after) (sym (none_replied r out (none_settled requests l more out h.shaped none new))) (record {
          over_is = h.over_is;
          waits = h.waits;
          some = h.some;
          asked_is = h.asked_is;
          timed_is = h.timed_is;
          next = h.next;
          shaped = h.shaped;
          answered = λ w. before_after l more (length l.starts) (h.answered w);
          unanswered = λ w. absurd (not_both r.unanswered u w);
          kept = h.kept;
          taken = λ k w. taken_after l more (last_renewal l.starts 0 None) refl h.shaped (h.taken k w);
          lost = lost_still;
        })

    -- the last weren't
    waiting_reply : r.unanswered ≡ true → AreRenewed after (replied_each r out)
    waiting_reply u =
        let t = h.unanswered u in
        by_test (is_full after t.k) (AreRenewed after (replied_each r out)) (λ full. answered_now u t full) (λ open_is. open_still u t open_is)
      where
        only_last : (t : IsTold l) (s : Settled) (x : IsReplied l more s) → x.number ≡ t.k
        only_last t s x =
            let most = last_behind l t.k x.number x.start t.last x.at x.is in
            by_test (x.number == t.k) (x.number ≡ t.k) (eq_from x.number t.k)
            (λ f.
            let other = ne_from x.number t.k f in
            absurd (not_both (is_full l x.number) x.was (t.earlier x.number x.start (omega arith) x.at x.is)))

        open_still : r.unanswered ≡ true → (t : IsTold l) → is_full after t.k ≡ false → AreRenewed after (replied_each r out)
        open_still u t open_is =
            let none : (s : Settled) → IsReplied l more s → ⊥ = λ s x. not_both (is_full after t.k) open_is (subst (λ n. is_full after n ≡ true) (only_last t s x) x.full) in
            subst (AreRenewed after) (sym (none_replied r out (none_settled requests l more out h.shaped none new))) (record {
              over_is = h.over_is;
              waits = h.waits;
              some = h.some;
              asked_is = h.asked_is;
              timed_is = h.timed_is;
              next = h.next;
              shaped = h.shaped;
              answered = λ w. absurd (not_both r.unanswered w u);
              unanswered = λ w. record { k = t.k; last = t.last; open_is = open_is; earlier = before_after l more t.k t.earlier };
              kept = h.kept;
              taken = λ k w. absurd (not_both r.unanswered w u);
              lost = lost_still;
            })

        still_open : (t : IsTold l) → is_full after t.k ≡ true → IsIn renewal_id (row_ids d.row) → ⊥
        still_open t full i =
            let rows = row_open (owner_of requests) after (record link { row = d.row }) lives (row_tied (owner_of requests) l link more d dealt_so tied) in
            let w = wanted_entry (owner_of requests) after _ d.row renewal_id rows i in
            let place = w.open_as.place in
            let is : is_of_renewal place.start.owner ≡ true = ap is_of_renewal place.owned ∙ auth_name requests w.entry.id w.is in
            let most = last_behind l t.k w.number place.start t.last place.stands is in
            by_test (w.number == t.k) ⊥
            (λ same. not_both (is_full after w.number) w.open_as.takes_more (subst (λ n. is_full after n ≡ true) (sym (eq_from w.number t.k same)) full))
            (λ f.
            let other = ne_from w.number t.k f in
            not_both (is_full after w.number) w.open_as.takes_more (full_more l more w.number (t.earlier w.number place.start (omega arith) place.stands is)))

        first_not : (a b : Bool) → (a || not b) ≡ false → a ≡ false
        first_not true b e = cc
        first_not false b e = refl

        second_not : (a b : Bool) → (a || not b) ≡ false → b ≡ true
        second_not true b e = cc
        second_not false true e = refl
        second_not false false e = cc

        third_not : (a b : Bool) → a ≡ false → (a || not b) ≡ true → b ≡ false
        third_not true b f e = cc
        third_not false true f e = cc
        third_not false false f e = refl

        answered_now : r.unanswered ≡ true → (t : IsTold l) → is_full after t.k ≡ true → AreRenewed after (replied_each r out)
        answered_now u t full =
            let done = is_taken_so (verdict_of Confirmation (cut after t.k Confirmation)) in
            let before = told_in_row requests l link t.k lives tied entries few t.last t.open_is in
            let there : IsIn renewal_id (settled_ids out) = elim (in_either renewal_id (settled_ids out) (wanted d.row) (subst (IsIn renewal_id) (sym kept) before)) [
              | inl i ↦ i
              | inr i ↦ absurd (still_open t full (wanted_in renewal_id d.row i))
            ] in
            subst (AreRenewed after) (sym (some_replied r done out there (all_say requests l more out t.k h.shaped (λ s x. only_last t s x) new))) (record {
              over_is = h.over_is;
              waits = h.waits;
              some = h.some;
              asked_is = h.asked_is;
              timed_is = h.timed_is;
              next = λ p. (refl, (h.next p).1);
              shaped = h.shaped;
              answered = λ w j s less at is.
                  let most = last_behind l t.k j s t.last at is in
                  by_test (j == t.k) (is_full after j ≡ true) (λ same. subst (λ n. is_full after n ≡ true) (sym (eq_from j t.k same)) full)
                  (λ f. let other = ne_from j t.k f in full_more l more j (t.earlier j s (omega arith) at is));
              unanswered = λ w. cc w;
              kept = λ k. h.kept (first_not r.lost done k);
              taken = λ k w. ap (is_taken after) t.last ∙ (λ i. full i && second_not r.lost done k i);
              lost = λ x. by_test r.lost (IsLost after) lost_still (λ f. inr (t.k, t.last, full, third_not r.lost done f x));
            })

-- bytes come
pub read_renewed : (requests : List Request) (h : Hearing) (l : Ledger) (link : LinkState) (piece : List ℕ) (r : Renewal) → l.end ≡ None → ReadsAlike h true l link piece → TiedLink (owner_of requests) l link → AllByRecursion (IsEntry requests) link.row
    → ((p : ℕ) → p < length requests → is_own p ≡ false) → AreRenewed l r → AreRenewed (has_heard l piece) (replied_each r (deals h true link piece).out)
read_renewed requests h l link piece r lives alike tied entries few renewed =
    let name = owner_of requests in
    let d = deals h true link piece in
    let now = replied_each r d.out in
    holds_came (λ (m : Ledger). IsDealt name m.starts m.dealt d → AllByRecursion (IsNew name l.starts l.dealt m.dealt) d.out → AreRenewed (record m { heard = came piece }) now) l (bytes_came l piece) (bytes_are l piece)
    (λ rest strange told more dealt_so new.
    renewed_alike (with_items l more) (record (grown l rest strange told more) { heard = came piece }) now refl refl refl
    (items_renewed requests l link more d r lives tied entries few dealt_so new (taken_keeps h true (dealing_with link.row) (values (link.rest ++ piece))) renewed))
    (read_taken name h true l link piece lives alike tied).deals (read_new name h true l link piece lives alike tied)
