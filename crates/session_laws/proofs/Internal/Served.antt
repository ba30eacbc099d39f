-- Once what is subscribed again on a link is answered, or the time for that is over, the link takes requests: the waits of all that wait are
-- to be shown anew.
use Rattle.std.proofs.Common.{◌≡◌, ℕ, true, List, [], ◌∷◌, ◌++◌, length, refl, sym, ap, ◌∙◌, subst, inl}
use Rattle.link_core.specs.Link.{LinkState}
use Rattle.link_laws.specs.Settles.{awaited_ids}
use Rattle.mux_conn.specs.declared.again.Again.TheVariants as again
use Rattle.mux_conn.specs.declared.life.Life.{Life}
use Rattle.mux_conn.specs.declared.life.Life.TheVariants.{Ready}
use Rattle.mux_conn.specs.declared.request.Waiting.{Waiting}
use Rattle.mux_conn.specs.Connection.{is_outstanding}
use Rattle.mux_conn.specs.Effects.{numbers_of}
use Rattle.mux_conn.specs.Requests.{is_waiting_at}
use Rattle.legal_trace.specs.Book.{Book, has_generations}
use Rattle.conn_laws.proofs.Ties.InLine.{kept_ids}
use Rattle.conn_laws.proofs.Ties.Numbers.{IsIn, Rising, requests_in, rising_right}
use Rattle.conn_laws.proofs.Requests.Rounded.{rounds_new}
use Rattle.conn_laws.proofs.Changes.Requests.{unbegun_waits}
use Rattle.conn_laws.proofs.Ties.Tied.{TiedRounds, TiedWaits, link_in, queue_ids, waiting_ids}
use Rattle.session_laws.proofs.Ties.Tied.{TurnState, Tied}
use Rattle.session_laws.proofs.Requests.Waits.{waiting_there}

-- the numbers of those that wait
pub numbers_is : (ws : List Waiting) → numbers_of ws ≡ waiting_ids ws
numbers_is [] = refl
numbers_is (w ∷ ws) = ap (λ ns. w.number ∷ ns) (numbers_is ws)

-- they rise
pub fresh_rises : (b : Book) (t : TurnState) → Tied b t → Rising 0 (numbers_of t.waiting) (length t.requests)
fresh_rises b t h =
    let queue = queue_ids (link_in t.life).queue in
    let last = waiting_ids t.waiting in
    subst (λ ns. Rising 0 ns (length t.requests)) (sym (numbers_is t.waiting))
    (rising_right 0 (waiting_ids t.admitted) last (length t.requests) (rising_right 0 queue (kept_ids t.admitted t.waiting) (length t.requests) (rising_right 0 (requests_in t.started) (queue ++ kept_ids t.admitted t.waiting) (length t.requests) h.lines.line)))

-- who waits is one of them
pub waits_anew : (b : Book) (t : TurnState) (p : ℕ) → Tied b t → t.pending ≡ [] → is_waiting_at t.requests p ≡ true → IsIn p (numbers_of t.waiting)
waits_anew b t p h none w = subst (IsIn p) (sym (numbers_is t.waiting)) (waiting_there b t p h none w)

-- the waits then, also where something was taken off the link
pub served_waits : (b : Book) (t : TurnState) (link after : LinkState) → Tied b t → t.pending ≡ [] → t.life ≡ Ready link → is_outstanding t.again ≡ true → after.queue ≡ link.queue → TiedWaits b.story t.requests again.Nothing (Ready after) (numbers_of t.waiting) t.moved
served_waits b t link after h none e goes same =
    let queue_is : (link_in t.life).queue ≡ after.queue = ap (λ (x : Life). (link_in x).queue) e ∙ sym same in
    record {
      early = h.waits.early;
      backoff = λ p w d. cc;
      connect = λ p w d. cc;
      creds = λ p x w d. cc;
      setup = λ p x greeting w d. cc;
      resubscribe = λ p x w r open_is. cc;
      permit = λ p x w r answered. inl (waits_anew b t p h none w);
      place = h.waits.place;
      room = λ p i. h.waits.room p (subst (λ qs. IsIn p (awaited_ids qs)) (sym queue_is) i);
      newer = fresh_rises b t h;
      rising = h.waits.rising;
      no_backoff = λ p i w d. cc;
      no_connect = λ p i w d. cc;
      no_creds = λ p x i w d. cc;
      no_setup = λ p x greeting i w d. cc;
      no_resubscribe = λ p x i w r open_is. cc;
      unpermitted = λ p x w r open_is. cc;
      no_permit = λ p x i w r answered. h.waits.unpermitted p link w e goes;
      no_place = h.waits.no_place;
      seatless = h.waits.seatless;
      no_room = λ p i r. h.waits.no_room p i (subst (λ qs. IsIn p (awaited_ids qs)) (sym queue_is) r);
    }

-- and the rounds
pub served_rounds : (b : Book) (t : TurnState) → Tied b t → t.pending ≡ [] → TiedRounds (has_generations b) b.story t.requests true (numbers_of t.waiting) t.rounds
served_rounds b t h none = rounds_new b.story t.requests t.fresh (numbers_of t.waiting) (λ p shows up u. waits_anew b t p h none (unbegun_waits t.requests p u)) h.rounds
