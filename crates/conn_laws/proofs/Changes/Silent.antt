-- A cancelled request gets no outcome.
use Rattle.std.proofs.Common.{Option, ◌≡◌, ◌≢◌, ℕ, ◌<◌, false, List, [], ◌∷◌, ◌++◌, length, sym, ap, ◌∙◌, subst, arith, length-append}
use Rattle.mux_conn.specs.declared.act.LinkAct.{LinkAct}
use Rattle.mux_conn.specs.declared.act.LinkAct.TheVariants as act
use Rattle.mux_conn.specs.declared.life.Life.{Life}
use Rattle.mux_conn.specs.declared.request.Progress.TheVariants as progress
use Rattle.mux_conn.specs.declared.request.Request.{Request}
use Rattle.mux_conn.specs.Requests.{is_open, is_open_at, permits_at}
use Rattle.conn_laws.proofs.Changes.Requests.{names, names_push, closed_set, test_push, other_test, waiting_open, admitted_open, unbegun_waits}
use Rattle.conn_laws.proofs.Changes.Names.{IsOwn, own_push, other_name}
use Rattle.conn_laws.proofs.Changes.Kept.{IsKept}
use Rattle.conn_laws.proofs.Changes.KeptTurns.{CanAsk}
use Rattle.conn_laws.proofs.Changes.Gone.{own_kept, within_kept}
use Rattle.conn_laws.proofs.Changes.Bare.{other_acts, acts_plain, acts_other}

-- request p has the name n, is closed, and has no outcome in this turn
pub record IsSilent (n p : ℕ) (lim : Option ℕ) (r : List Request) (life : Life) (ms : List ℕ) (xs : List LinkAct) : Type 0 where
  pub there : p < length r
  pub own : IsOwn n p (names r)
  pub closed : is_open_at r p ≡ false
  pub unshown : other_acts n xs ≡ xs

-- one more act that is no outcome of submission n
unshown_more : (n : ℕ) (xs : List LinkAct) (a : LinkAct) → other_acts n (xs ++ a ∷ []) ≡ other_acts n xs ++ a ∷ [] → other_acts n xs ≡ xs → other_acts n (xs ++ a ∷ []) ≡ xs ++ a ∷ []
unshown_more n xs a more e = more ∙ ap (λ (ys : List LinkAct). ys ++ a ∷ []) e

-- each single change keeps that
pub silent_kept : (n p : ℕ) → IsKept (IsSilent n p)
silent_kept n p = record {
  answer = λ lim r life ms xs q o t h.
      let apart = other_test is_open r q p t h.closed in
      record {
        there = within_kept r p q progress.Closed 0 h.there;
        own = own_kept n p r q progress.Closed 0 h.own;
        closed = closed_set r q p progress.Closed 0 t h.closed;
        unshown = unshown_more n xs _ (acts_other n _ xs o (other_name n p q r h.own t apart)) h.unshown;
      };
  cancel = λ lim r life ms xs q t h. record {
    there = within_kept r p q progress.Closed 0 h.there;
    own = own_kept n p r q progress.Closed 0 h.own;
    closed = closed_set r q p progress.Closed 0 t h.closed;
    unshown = h.unshown;
  };
  hush = λ lim r life ms xs q h. record { there = h.there; own = h.own; closed = h.closed; unshown = h.unshown };
  want = λ lim r size bound ms xs h. record { there = h.there; own = h.own; closed = h.closed; unshown = h.unshown };
  wait_on = λ lim r l k ms xs few h. record { there = h.there; own = h.own; closed = h.closed; unshown = h.unshown };
  connect = λ lim r l ms xs h. record { there = h.there; own = h.own; closed = h.closed; unshown = h.unshown };
  set_up = λ lim r l ms xs q greeting h. record { there = h.there; own = h.own; closed = h.closed; unshown = h.unshown };
  go_on = λ lim r l k greeting ms xs few h. record { there = h.there; own = h.own; closed = h.closed; unshown = h.unshown };
  repeat = λ lim r l k q greeting next ms xs few h. record { there = h.there; own = h.own; closed = h.closed; unshown = h.unshown };
  ready = λ lim r l k greeting ms xs few h. record { there = h.there; own = h.own; closed = h.closed; unshown = h.unshown };
  round = λ lim r life ms xs q t h. record {
    there = within_kept r p q progress.Begun (permits_at r q) h.there;
    own = own_kept n p r q progress.Begun (permits_at r q) h.own;
    closed = closed_set r q p progress.Begun (permits_at r q) (waiting_open r q (unbegun_waits r q t)) h.closed;
    unshown = h.unshown;
  };
  admit = λ lim r life ms xs q count t h. record {
    there = within_kept r p q progress.Admitted count h.there;
    own = own_kept n p r q progress.Admitted count h.own;
    closed = closed_set r q p progress.Admitted count (waiting_open r q t) h.closed;
    unshown = h.unshown;
  };
  note = λ lim r life ms xs q t h. record { there = h.there; own = h.own; closed = h.closed; unshown = h.unshown };
  place = λ lim r l ms xs q t h. record {
    there = within_kept r p q.number progress.Placed (permits_at r q.number) h.there;
    own = own_kept n p r q.number progress.Placed (permits_at r q.number) h.own;
    closed = closed_set r q.number p progress.Placed (permits_at r q.number) (admitted_open r q.number t) h.closed;
    unshown = h.unshown;
  };
  start = λ lim r l q qs ms xs h. record { there = h.there; own = h.own; closed = h.closed; unshown = h.unshown };
  say = λ lim r l ms xs q own h. record { there = h.there; own = h.own; closed = h.closed; unshown = h.unshown };
  offer = λ lim r l ms xs h. record { there = h.there; own = h.own; closed = h.closed; unshown = h.unshown };
  write = λ lim r l ms xs k h. record { there = h.there; own = h.own; closed = h.closed; unshown = h.unshown };
  come = λ lim r l ms xs what piece h. record { there = h.there; own = h.own; closed = h.closed; unshown = h.unshown };
  end = λ lim r life ms xs e h. record { there = h.there; own = h.own; closed = h.closed; unshown = h.unshown };
  rest = λ lim r life ms xs h. record { there = h.there; own = h.own; closed = h.closed; unshown = h.unshown };
  show = λ lim r life ms xs a plain h. record { there = h.there; own = h.own; closed = h.closed; unshown = unshown_more n xs a (acts_plain n xs a plain) h.unshown };
  calm = λ lim r life ms xs h. record { there = h.there; own = h.own; closed = h.closed; unshown = h.unshown };
}

-- and one more submission does
pub silent_asks : (n p m : ℕ) → m ≢ n → CanAsk (IsSilent n p) m
silent_asks n p m o = record {
  ask = λ lim r life ms xs h.
      let x : Request = record { name = m; progress = progress.Waiting; permits = 0 } in
      record {
        there = omega (arith, h.there, length-append r (x ∷ []));
        own = subst (IsOwn n p) (sym (names_push r x)) (own_push n p m (names r) o h.own);
        closed = test_push is_open r p x h.there ∙ h.closed;
        unshown = h.unshown;
      };
  refuse = λ lim r life ms xs x h. record { there = h.there; own = h.own; closed = h.closed; unshown = unshown_more n xs (act.Outcome m x) (acts_other n m xs x o) h.unshown };
}
