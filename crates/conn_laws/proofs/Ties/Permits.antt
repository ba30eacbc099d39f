-- The permits that submissions hold, and those that are free.
use Rattle.std.proofs.Common.{List, Option, Some, [], ap, arith, false, inl, inr, length, refl, subst, suc, sym, true, zero, ℕ, ◌+◌, ◌<◌, ◌≤◌, ◌∙◌, ◌≡◌, ◌≢◌}
use Rattle.std.specs.Prelude.{is_none, is_some, if◌then◌else◌, min, nat_le, nat_lt, unwrap_or, ◌==◌, ◌&&◌, ◌||◌}
use Rattle.containers.proofs.Choices.{by_test, eq_from, eq_test, ne_from, not_both, taken_if}
use Rattle.mux_conn.specs.Requests.{given_back, is_admitted, is_placed, is_waiting, is_waiting_at, at_progress, name_at, permits_at, with_permits}
use Rattle.mux_conn.specs.declared.request.Pending.{Pending}
use Rattle.mux_conn.specs.declared.request.Progress.{Progress}
use Rattle.mux_conn.specs.declared.request.Progress.TheVariants as progress
use Rattle.mux_conn.specs.declared.request.Request.{Request}
use Rattle.legal_trace.specs.Steps.{is_let_in, permits_held, permits_on}
use Rattle.legal_trace.specs.Story.{Story}
use Rattle.conn_laws.proofs.Ties.Names.{name_still, name_with, permits_still, same_name, there_other, there_then, there_within, with_then}
use Rattle.conn_laws.proofs.Changes.Requests.{permits_other}
use Rattle.conn_laws.proofs.Ties.Numbers.{IsIn}
use Rattle.conn_laws.proofs.Ties.Tied.{TiedNames, TiedPermits}

-- sums
--
-- a submission of the link
pub on_this : (l : ℕ) (s : Story) → s.link ≡ l → permits_on l s ≡ s.permits
on_this l s e = taken_if (s.link == l) s.permits 0 (eq_test s.link l e)

-- where all hold the same, so it is in sum
pub held_same : (f g : ℕ → Story) (l n : ℕ) → ((m : ℕ) → m < n → permits_on l (g m) ≡ permits_on l (f m)) → permits_held g l n ≡ permits_held f l n
held_same f g l zero all = refl
held_same f g l (suc n) all = let rest = held_same f g l n (λ m less. all m (omega arith)) in let last = all n (omega arith) in omega arith

-- where one holds another number, the sum changes by that
pub held_changed : (f g : ℕ → Story) (l n k : ℕ) → k < n → ((m : ℕ) → m ≢ k → permits_on l (g m) ≡ permits_on l (f m)) → permits_held g l n + permits_on l (f k) ≡ permits_held f l n + permits_on l (g k)
held_changed f g l zero k less others = absurd (omega arith)
held_changed f g l (suc n) k less others =
    by_test (n == k) _
    (λ t.
    let e = eq_from n k t in
    let same = held_same f g l n (λ m low. others m (λ x. absurd (omega arith))) in
    let a = ap (λ m. permits_on l (f m)) e in
    let b = ap (λ m. permits_on l (g m)) e in
    omega arith)
    (λ o.
    let apart = ne_from n k o in
    let rest = held_changed f g l n k (omega arith) others in
    let last = others n apart in
    omega arith)

-- what one holds is no more than all
pub held_most : (f : ℕ → Story) (l n k : ℕ) → k < n → permits_on l (f k) ≤ permits_held f l n
held_most f l zero k less = absurd (omega arith)
held_most f l (suc n) k less =
    by_test (n == k) _
    (λ t. let a = ap (λ m. permits_on l (f m)) (eq_from n k t) in omega arith)
    (λ o. let apart = ne_from n k o in let rest = held_most f l n k (omega arith) in omega arith)

-- changes of stories that leave permits
--
-- its link, its permits, its time and its timer are the same
pub record IsHolding (s t : Story) : Type 0 where
  pub link : t.link ≡ s.link
  pub permits : t.permits ≡ s.permits
  pub timeout : t.timeout ≡ s.timeout
  pub clock : t.clock ≡ s.clock

-- nothing is changed
pub holding_same : (s : Story) → IsHolding s s
holding_same s = record { link = refl; permits = refl; timeout = refl; clock = refl }

-- it is let in where it was
pub let_in_same : (limit : Option ℕ) (s t : Story) → IsHolding s t → is_let_in limit t ≡ is_let_in limit s
let_in_same limit s t h = λ i. (is_none limit || nat_lt 0 (h.permits i)) && (is_none (h.timeout i) || is_some (h.clock i))

-- so all is as it was
pub permits_same : (f g : ℕ → Story) (submissions : ℕ) (requests : List Request) (link : ℕ) (limit : Option ℕ) (free : ℕ) (being_admitted : List ℕ) → ((n : ℕ) → IsHolding (f n) (g n))
    → TiedPermits f submissions requests link limit free being_admitted → TiedPermits g submissions requests link limit free being_admitted
permits_same f g submissions requests link limit free being_admitted same h = record {
  counted = λ k e. let sum = held_same f g link submissions (λ m less. (λ i. if (same m).link i == link then (same m).permits i else 0)) in let was = h.counted k e in omega arith;
  none = λ p w out. let k = h.none p w out in (k.0, (same (name_at requests p)).clock ∙ k.1);
  let_in = λ p e. let_in_same limit (f (name_at requests p)) (g (name_at requests p)) (same (name_at requests p)) ∙ h.let_in p e;
}

-- a request comes further
--
-- one that was let in waits for the connection no longer
pub permits_further : (story : ℕ → Story) (submissions : ℕ) (requests : List Request) (link : ℕ) (limit : Option ℕ) (free : ℕ) (being_admitted : List ℕ) (p : ℕ) (now : Progress) → p < length requests → is_waiting now ≡ false
    → is_let_in limit (story (name_at requests p)) ≡ true → ((m : ℕ) → IsIn m being_admitted → p ≡ m) → TiedPermits story submissions requests link limit free being_admitted → TiedPermits story submissions (at_progress requests p now) link limit free []
permits_further story submissions requests link limit free being_admitted p now l gone is only h = record {
  counted = h.counted;
  none = λ m w out.
      let k = there_then is_waiting requests p m now gone l w in
      let was = h.none m k.1 (λ i. k.0 (only m i)) in
      (permits_still requests p m now l ∙ was.0, ap (λ n. (story n).clock) (name_still requests p now m) ∙ was.1);
  let_in = λ m e.
      ap (λ n. is_let_in limit (story n)) (name_still requests p now m)
      ∙ by_test (p == m) _
      (λ t. subst (λ x. is_let_in limit (story (name_at requests x)) ≡ true) (eq_from p m t) is)
      (λ f. let o = ne_from p m f in h.let_in m (elim e [ inl a ↦ inl (sym (there_other is_admitted requests p m now o) ∙ a) | inr a ↦ inr (sym (there_other is_placed requests p m now o) ∙ a) ]));
}

-- who was being let in waits no longer
pub permits_let : (story : ℕ → Story) (submissions : ℕ) (requests : List Request) (link : ℕ) (limit : Option ℕ) (free : ℕ) (being_admitted : List ℕ) (p : ℕ) → is_waiting_at requests p ≡ false → ((m : ℕ) → IsIn m being_admitted → p ≡ m)
    → TiedPermits story submissions requests link limit free being_admitted → TiedPermits story submissions requests link limit free []
permits_let story submissions requests link limit free being_admitted p gone only h = record {
  counted = h.counted;
  none = λ m w out. h.none m w (λ i. not_both (is_waiting_at requests m) (ap (is_waiting_at requests) (sym (only m i)) ∙ gone) w);
  let_in = h.let_in;
}

-- a request is closed, and its permits are free
--
-- those that are free, where permits are counted
pub back_is : (limit : Option ℕ) (k free count : ℕ) → limit ≡ Some k → free + count ≤ k → given_back limit free count ≡ free + count
back_is limit k free count e le = ap (λ (x : Option ℕ). min (unwrap_or x 0) (free + count)) e ∙ min_right k (free + count) le
  where
    min_right : (a b : ℕ) → b ≤ a → min a b ≡ b
    min_right a b le = by_test (nat_le b a) _ (λ t. omega arith) (λ f. omega arith)

-- the sum
pub permits_closed : (f g : ℕ → Story) (table : List (Option Pending)) (submissions : ℕ) (requests : List Request) (link : ℕ) (limit : Option ℕ) (free : ℕ) (being_admitted : List ℕ) (p : ℕ) → TiedNames table requests → p < length requests
    → name_at requests p < submissions → (f (name_at requests p)).link ≡ link → (f (name_at requests p)).permits ≡ permits_at requests p
    → ((m : ℕ) → name_at requests p ≢ m → g m ≡ f m) → (g (name_at requests p)).permits ≡ 0 → (g (name_at requests p)).link ≡ link
    → TiedPermits f submissions requests link limit free being_admitted → TiedPermits g submissions (with_permits requests p progress.Closed 0) link limit (given_back limit free (permits_at requests p)) being_admitted
permits_closed f g table submissions requests link limit free being_admitted p names l within on held others gone still h =
    let n = name_at requests p in
    let own : (m : ℕ) → m < length requests → p ≢ m → g (name_at (with_permits requests p progress.Closed 0) m) ≡ f (name_at requests m) = λ m inside o.
    ap g (name_with requests p progress.Closed 0 m) ∙ others (name_at requests m) (λ e. o (same_name table requests p m names l inside e)) in
    record {
      counted = λ k e.
          let was = h.counted k e in
          let change = held_changed f g link submissions n within (λ m o. ap (permits_on link) (others m (λ x. o (sym x)))) in
          let before = on_this link (f n) on in
          let after = on_this link (g n) still in
          let most = held_most f link submissions n within in
          let back = back_is limit k free (permits_at requests p) e (omega arith) in
          omega arith;
      none = λ m w out.
          let k = with_then is_waiting requests p m progress.Closed 0 refl l w in
          let was = h.none m k.1 out in
          (permits_other requests p m progress.Closed 0 k.0 ∙ was.0, ap (λ (s : Story). s.clock) (own m (there_within is_waiting requests m k.1) k.0) ∙ was.1);
      let_in = λ m e. elim e [
        | inl a ↦ let k = with_then is_admitted requests p m progress.Closed 0 refl l a in ap (is_let_in limit) (own m (there_within is_admitted requests m k.1) k.0) ∙ h.let_in m (inl k.1)
        | inr a ↦ let k = with_then is_placed requests p m progress.Closed 0 refl l a in ap (is_let_in limit) (own m (there_within is_placed requests m k.1) k.0) ∙ h.let_in m (inr k.1)
      ];
    }
