-- The acts of a turn but for the outcomes of one submission, requests that are closed, and permits that are given back.
use Rattle.std.proofs.Common.{◌≡◌, ◌≢◌, inl, ℕ, ◌==◌, false, List, [], ◌∷◌, ◌++◌, refl, sym, ap, ◌∙◌, append_assoc, Option, arith, inr}
use Rattle.std.proofs.lemmas.List.{append-nil}
use Rattle.containers.proofs.Choices.{by_test, chosen, taken_if, left_if, eq_from, eq_test, ne_test}
use Rattle.driver_model.specs.declared.outcome.Outcome.{Outcome}
use Rattle.driver_model.specs.Shape.{outcome_of}
use Rattle.link_core.specs.declared.message.NoticeAt.{NoticeAt}
use Rattle.link_core.specs.declared.message.Settled.{Settled}
use Rattle.link_laws.specs.Alike.{others}
use Rattle.mux_conn.specs.declared.act.LinkAct.{LinkAct}
use Rattle.mux_conn.specs.declared.act.LinkAct.TheVariants as act
use Rattle.mux_conn.specs.declared.again.Again.TheVariants as again
use Rattle.mux_conn.specs.declared.connection.MultiplexedConnection.{MultiplexedConnection}
use Rattle.mux_conn.specs.declared.request.Progress.TheVariants as progress
use Rattle.mux_conn.specs.declared.request.Request.{Request}
use Rattle.mux_conn.specs.Connection.{Work, is_repeating}
use Rattle.mux_conn.specs.Requests.{is_open, is_open_at, permits_at, with_permits, given_back, closed, answered}
use Rattle.mux_conn.specs.Effects.{settled_one, settled_each, noticed, noticed_each, all_fresh, served, settled_other}
use Rattle.mux_conn.specs.Renewals.{renewing, is_done, replied, renewal_id}
use Rattle.conn_laws.proofs.Changes.Requests.{progress_twice, progress_apart, permits_other, permits_own, closed_set, test_other}
use Rattle.conn_laws.proofs.Changes.Kept.{other_act, IsPlain, At, There, IsApart}
use Rattle.conn_laws.proofs.Changes.Gone.{IsGone}
use Rattle.mux_conn.specs.Repeats.{repeating, repeat_id}

-- the acts of a turn, but for the outcomes of submission n
abbrev pub other_acts : ℕ → List LinkAct → List LinkAct
other_acts n [] = []
other_acts n (a ∷ more) = other_act n a ++ other_acts n more

-- acts
--
-- acts one after another
acts-append : (n : ℕ) (xs ys : List LinkAct) → other_acts n (xs ++ ys) ≡ other_acts n xs ++ other_acts n ys
acts-append n [] ys = refl
acts-append n (a ∷ xs) ys = ap (λ (zs : List LinkAct). other_act n a ++ zs) (acts-append n xs ys) ∙ sym (append_assoc (other_act n a) (other_acts n xs) (other_acts n ys))

-- one more act
acts_more : (n : ℕ) (xs : List LinkAct) (a : LinkAct) → other_acts n (xs ++ a ∷ []) ≡ other_acts n xs ++ other_act n a
acts_more n xs a = acts-append n xs (a ∷ []) ∙ ap (λ (zs : List LinkAct). other_acts n xs ++ zs) (append-nil (other_act n a))

-- and one that answers nobody
pub acts_plain : (n : ℕ) (xs : List LinkAct) (a : LinkAct) → IsPlain a → other_acts n (xs ++ a ∷ []) ≡ other_acts n xs ++ a ∷ []
acts_plain n xs a p = acts_more n xs a ∙ ap (λ (zs : List LinkAct). other_acts n xs ++ zs) (p n)

-- submission n's own outcome doesn't count
pub acts_own : (n m : ℕ) (xs : List LinkAct) (o : Outcome) → m ≡ n → other_acts n (xs ++ act.Outcome m o ∷ []) ≡ other_acts n xs
acts_own n m xs o e =
    acts_more n xs (act.Outcome m o) ∙ ap (λ (zs : List LinkAct). other_acts n xs ++ zs) (taken_if (m == n) [] (act.Outcome m o ∷ []) (eq_test m n e)) ∙ append-nil (other_acts n xs)

-- any other does
pub acts_other : (n m : ℕ) (xs : List LinkAct) (o : Outcome) → m ≢ n → other_acts n (xs ++ act.Outcome m o ∷ []) ≡ other_acts n xs ++ act.Outcome m o ∷ []
acts_other n m xs o e = acts_more n xs (act.Outcome m o) ∙ ap (λ (zs : List LinkAct). other_acts n xs ++ zs) (left_if (m == n) [] (act.Outcome m o ∷ []) (ne_test m n e))

-- answers
--
-- all others are as open as they were
pub open_same : (r : List Request) (p q : ℕ) → q ≢ p → is_open_at r q ≡ is_open_at (with_permits r p progress.Closed 0) q
open_same r p q o = sym (test_other is_open r p q progress.Closed 0 (λ e. o (sym e)))

-- one that is closed stays as it is
pub closed_stays : (w : Work) (q : ℕ) (o : Outcome) → is_open_at w.conn.requests q ≡ false → answered w q o ≡ w
closed_stays w q o f = left_if (is_open_at w.conn.requests q) _ w f

-- the permits of a request that is closed are free already
free_once : (lim : Option ℕ) (r : List Request) (p free : ℕ)
    → given_back lim (given_back lim free (permits_at r p)) (permits_at (with_permits r p progress.Closed 0) p) ≡ given_back lim free (permits_at r p)
free_once lim r p free = omega (arith, permits_own r p progress.Closed)

-- where two are closed, as many are free in any order
free_apart : (lim : Option ℕ) (r : List Request) (p q free : ℕ) → q ≢ p
    → given_back lim (given_back lim free (permits_at r q)) (permits_at (with_permits r q progress.Closed 0) p)
    ≡ given_back lim (given_back lim free (permits_at r p)) (permits_at (with_permits r p progress.Closed 0) q)
free_apart lim r p q free o = omega (arith, permits_other r q p progress.Closed 0 o, permits_other r p q progress.Closed 0 (λ e. o (sym e)))

-- closed twice is closed
pub closed_twice : (p : ℕ) (c : MultiplexedConnection) → closed (closed c p) p ≡ closed c p
closed_twice p c =
    let r = progress_twice c.requests p progress.Closed progress.Closed 0 0 in
    let f = free_once c.limit c.requests p c.free in
    λ i. record c { requests = r i; free = f i }

-- two are closed in any order
pub closed_apart : (p q : ℕ) (c : MultiplexedConnection) → q ≢ p → closed (closed c q) p ≡ closed (closed c p) q
closed_apart p q c o =
    let r = progress_apart c.requests q p progress.Closed progress.Closed 0 0 o in
    let f = free_apart c.limit c.requests p q c.free o in
    λ i. record c { requests = r i; free = f i }

-- where a request is closed, what is settled for it counts for nothing
closed_still : (w : Work) (p q : ℕ) (o : Outcome) → is_open_at w.conn.requests p ≡ false → is_open_at (answered w q o).conn.requests p ≡ false
closed_still w p q o f =
    chosen (λ (x : Work). is_open_at x.conn.requests p ≡ false) (is_open_at w.conn.requests q) _ w
    (λ t. closed_set w.conn.requests q p progress.Closed 0 t f)
    (λ g. f)

-- so it is for what a link settled
settled_still : (w : Work) (p : ℕ) (s : Settled) → is_open_at w.conn.requests p ≡ false → is_open_at (settled_one w s).conn.requests p ≡ false
settled_still w p s f =
    let o = outcome_of s.verdict in
    chosen (λ (x : Work). is_open_at x.conn.requests p ≡ false) (s.id == renewal_id) (renewing w (replied w.conn.renewal (is_done s.verdict))) (settled_other w s) (λ t. f)
    (λ g. chosen (λ (x : Work). is_open_at x.conn.requests p ≡ false) (s.id == repeat_id) (served w) (answered w s.id o)
    (λ t. chosen (λ (x : Work). is_open_at x.conn.requests p ≡ false) (is_repeating w.conn) (all_fresh (repeating w again.Nothing)) w (λ u. f) (λ u. f))
    (λ u. closed_still w p s.id o f))

-- and what it settled for that request alone changes nothing
own_settled : (w : Work) (p : ℕ) (s : Settled) → IsApart p → s.id ≡ p → is_open_at w.conn.requests p ≡ false → settled_one w s ≡ w
own_settled w p s apart e f =
    let o = outcome_of s.verdict in
    left_if (s.id == renewal_id) _ (settled_other w s) (ne_test s.id renewal_id (λ is. apart s.id (inl is) e))
    ∙ left_if (s.id == repeat_id) (served w) (answered w s.id o) (ne_test s.id repeat_id (λ is. apart s.id (inr is) e)) ∙ closed_stays w s.id o (ap (is_open_at w.conn.requests) e ∙ f)

-- and so for all
pub others_settled : (w : Work) (p : ℕ) (ss : List Settled) → IsApart p → is_open_at w.conn.requests p ≡ false → settled_each w (others p ss) ≡ settled_each w ss
others_settled w p [] apart f = refl
others_settled w p (s ∷ ss) apart f =
    by_test (s.id == p) _
    (λ t.
    ap (settled_each w) (taken_if (s.id == p) (others p ss) (s ∷ others p ss) t) ∙ others_settled w p ss apart f
    ∙ ap (λ (x : Work). settled_each x ss) (sym (own_settled w p s apart (eq_from s.id p t) f)))
    (λ g. ap (settled_each w) (left_if (s.id == p) (others p ss) (s ∷ others p ss) g) ∙ others_settled (settled_one w s) p ss apart (settled_still w p s f))

-- news
--
-- notices change nothing but what is shown
pub noticed_same : (n p : ℕ) (w : Work) (ps : List NoticeAt) → At (There (IsGone n p)) w → At (There (IsGone n p)) (noticed_each w ps)
noticed_same n p w [] h = h
noticed_same n p w (x ∷ ps) h = noticed_same n p (noticed w x.notice) ps h
