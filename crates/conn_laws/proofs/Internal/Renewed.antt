-- News of new credentials: some came, no more come, or some are not answered in time.
use Rattle.std.proofs.Common.{◌≡◌, ◌⊎◌, inl, inr, ℕ, suc, ◌+◌, ◌==◌, Bool, true, false, ◌&&◌, ◌||◌, not, is_some, if◌then◌else◌, List, [], ◌∷◌, ◌++◌, Option, Some, None, refl, sym, ap, ◌∙◌, arith, length-append}
use Rattle.std.proofs.lemmas.List.{drop-append-le}
use Rattle.containers.proofs.Choices.{by_test, taken_if, left_if, not_both, eq_from, eq_test, ne_from, ne_test, both_left}
use Rattle.credentials.specs.Credentials.{Credentials}
use Rattle.driver_model.specs.declared.outcome.Shape.TheVariants.{Confirmation}
use Rattle.driver_model.specs.Shape.{verdict_of}
use Rattle.driver_model.specs.News.{News}
use Rattle.mux_conn.specs.declared.renewal.Renewal.{Renewal}
use Rattle.mux_conn.specs.Connection.{are_some, is_due}
use Rattle.mux_conn.specs.Renewals.{expected, is_unanswered, takes_more}
use Rattle.legal_trace.specs.Ledger.{Ledger, cut, is_done, is_full, is_full_last, is_renewal_open, is_set_up, is_taken, last_renewal, may_renew, renewal_count, renewal_due, renewed_by, unrenewed_by}
use Rattle.conn_laws.proofs.Internal.Renewals.{due_is, due_well}
use Rattle.conn_laws.proofs.Links.Said.{recredited}
use Rattle.conn_laws.proofs.Links.Server.{AreRenewed}

-- new credentials come
--
-- some are behind others
some_behind : (cs : List Credentials) (c : Credentials) → are_some (cs ++ c ∷ []) ≡ true
some_behind [] c = refl
some_behind (x ∷ cs) c = refl

-- they wait for those before
pub expects : (l : Ledger) (r : Renewal) (c : Credentials) (n : News) → AreRenewed l r → AreRenewed (record (renewed_by l c) { heard = n }) (expected r c)
expects l r c n h = record {
  over_is = h.over_is;
  waits = ap (λ cs. cs ++ c ∷ []) h.waits ∙ sym (drop-append-le (renewal_count l.starts) l.creds.renewals (c ∷ []) h.some);
  some = (let few = h.some in let long = length-append l.creds.renewals (c ∷ []) in omega (arith, few, long));
  asked_is = h.asked_is;
  timed_is = h.timed_is;
  next = λ p. ((h.next p).0, some_behind r.waiting c);
  shaped = h.shaped;
  answered = h.answered;
  unanswered = λ u. let s = h.unanswered u in record { k = s.k; last = s.last; open_is = s.open_is; earlier = s.earlier };
  kept = h.kept;
  taken = h.taken;
  lost = h.lost;
}

-- a link that is ready takes more as its connection does
pub may_is : (l : Ledger) (r : Renewal) → l.up ≡ true → is_set_up l ≡ true → l.creds.renews ≡ r.wanted → l.creds.over ≡ r.over → may_renew l ≡ takes_more r
may_is l r up well renews over = λ i. up i && well i && renews i && not (over i)

-- no more come
--
-- so it is known of both
pub none_follows : (l : Ledger) (r : Renewal) (n : News) → AreRenewed l r → AreRenewed (record (unrenewed_by l) { heard = n }) (record r { over = true })
none_follows l r n h = record {
  over_is = refl;
  waits = h.waits;
  some = h.some;
  asked_is = h.asked_is;
  timed_is = h.timed_is;
  next = h.next;
  shaped = h.shaped;
  answered = h.answered;
  unanswered = λ u. let s = h.unanswered u in record { k = s.k; last = s.last; open_is = s.open_is; earlier = s.earlier };
  kept = h.kept;
  taken = h.taken;
  lost = h.lost;
}

-- some are not answered in time
--
-- those that are lost are
pub late_lost : (l : Ledger) (r : Renewal) (x : Bool) (n : News) → (l.creds.lost ≡ true → x ≡ true) → (x ≡ true) ⊎ (r.lost ≡ true) → AreRenewed l r → AreRenewed (record (recredited l l.creds.asked l.creds.renews l.creds.renewals l.creds.over l.creds.timed x) { heard = n }) (record r { lost = true })
late_lost l r x n stays lost h = record {
  over_is = h.over_is;
  waits = h.waits;
  some = h.some;
  asked_is = h.asked_is;
  timed_is = h.timed_is;
  next = h.next;
  shaped = h.shaped;
  answered = h.answered;
  unanswered = λ u. let s = h.unanswered u in record { k = s.k; last = s.last; open_is = s.open_is; earlier = s.earlier };
  kept = λ k. cc k;
  taken = λ k u. cc k;
  lost = λ z. elim lost [ inl is ↦ inl is | inr was ↦ elim (h.lost was) [ inl is ↦ inl (stays is) | inr m ↦ inr m ] ];
}

-- what is taken is full
taken_full : (l : Ledger) (o : Option ℕ) → is_taken l o ≡ true → is_full_last l o ≡ true
taken_full l None e = refl
taken_full l (Some k) e = both_left (is_full l k) (is_done (verdict_of Confirmation (cut l k Confirmation))) e

-- which are not answered is the same for the link and the connection, where none are lost
pub open_is_unanswered : (l : Ledger) (r : Renewal) (k : ℕ) → l.up ≡ true → r.lost ≡ false → (is_due r ≡ true → r.pending ≡ true) → AreRenewed l r → is_renewal_open l k ≡ is_unanswered r k
open_is_unanswered l r k up kept asked h =
    by_test (is_due r) (is_renewal_open l k ≡ is_unanswered r k)
    (λ due.
    let well = due_well r due in
    let pending = asked due in
    let count : r.asked ≡ renewal_count l.starts + 1 = h.asked_is ∙ ap (λ (b : Bool). renewal_count l.starts + (if b then 1 else 0)) pending in
    taken_if (is_some (renewal_due l)) (k == renewal_count l.starts) ((suc k == renewal_count l.starts) && not (is_full_last l (last_renewal l.starts 0 None))) (due_is l r up h ∙ due)
    ∙ same_number k (renewal_count l.starts) r.asked count ∙ (λ i. (k + 1 == r.asked) && (sym well.0 i || sym pending i)))
    (λ none.
    left_if (is_some (renewal_due l)) (k == renewal_count l.starts) ((suc k == renewal_count l.starts) && not (is_full_last l (last_renewal l.starts 0 None))) (due_is l r up h ∙ none)
    ∙ by_test r.unanswered (((suc k == renewal_count l.starts) && not (is_full_last l (last_renewal l.starts 0 None))) ≡ is_unanswered r k)
    (λ told.
    let s = h.unanswered told in
    let unpending : r.pending ≡ false = by_test r.pending (r.pending ≡ false) (λ p. absurd (not_both r.unanswered (h.next p).0 told)) (λ f. f) in
    let count : r.asked ≡ renewal_count l.starts + 0 = h.asked_is ∙ ap (λ (b : Bool). renewal_count l.starts + (if b then 1 else 0)) unpending in
    ap (λ o. (suc k == renewal_count l.starts) && not (is_full_last l o)) s.last ∙ ap (λ b. (suc k == renewal_count l.starts) && not b) s.open_is
    ∙ told_number k (renewal_count l.starts) r.asked count ∙ (λ i. (k + 1 == r.asked) && (sym told i || r.pending)))
    (λ answered.
    let unpending : r.pending ≡ false = by_test r.pending (r.pending ≡ false) (λ p. absurd (not_both (is_due r) none (λ i. not (answered i || kept i) && (h.next p).1 i))) (λ f. f) in
    ap (λ b. (suc k == renewal_count l.starts) && not b) (taken_full l (last_renewal l.starts 0 None) (h.taken kept answered)) ∙ none_of (suc k == renewal_count l.starts) ∙ sym ((λ i. (k + 1 == r.asked) && (answered i || unpending i)) ∙ none_of (k + 1 == r.asked))))
  where
    none_of : (a : Bool) → (a && false) ≡ false
    none_of true = refl
    none_of false = refl

    and_true : (a : Bool) → (a && true) ≡ a
    and_true true = refl
    and_true false = refl

    same_number : (k n asked : ℕ) → asked ≡ n + 1 → (k == n) ≡ ((k + 1 == asked) && true)
    same_number k n asked e = by_test (k == n) ((k == n) ≡ ((k + 1 == asked) && true))
        (λ t. t ∙ sym (and_true (k + 1 == asked) ∙ eq_test (k + 1) asked (let same = eq_from k n t in omega arith)))
        (λ f. f ∙ sym (and_true (k + 1 == asked) ∙ ne_test (k + 1) asked (λ same. ne_from k n f (let z : k ≡ n = omega arith in z))))

    told_number : (k n asked : ℕ) → asked ≡ n + 0 → ((suc k == n) && true) ≡ ((k + 1 == asked) && true)
    told_number k n asked e = ap (λ (b : Bool). b && true) (by_test (suc k == n) ((suc k == n) ≡ (k + 1 == asked))
        (λ t. t ∙ sym (eq_test (k + 1) asked (let same = eq_from (suc k) n t in omega arith)))
        (λ f. f ∙ sym (ne_test (k + 1) asked (λ same. ne_from (suc k) n f (let z : suc k ≡ n = omega arith in z)))))
