-- Which submissions are still to start.
use Rattle.std.proofs.Common.{List, [], ap, false, inl, inr, length, subst, sym, true, ℕ, ◌++◌, ◌<◌, ◌∙◌, ◌∷◌, ◌≡◌, ◌≢◌, ◌⊎◌}
use Rattle.link_laws.proofs.Started.{row_open}
use Rattle.link_laws.specs.Settles.{StandsAs, awaited_ids, wanted}
use Rattle.mux_conn.specs.Requests.{name_at}
use Rattle.legal_trace.specs.Book.{Book}
use Rattle.legal_trace.specs.Story.{Try, is_open, is_unstarted}
use Rattle.conn_laws.proofs.Ties.InLine.{awaited_in, row_ids, wanted_in}
use Rattle.conn_laws.proofs.Ties.Names.{open_within}
use Rattle.conn_laws.proofs.Ties.Numbers.{IsIn, in_either, requests_in, request_of}
use Rattle.conn_laws.proofs.Ties.Owes.{lives, row_link, wanted_entry}
use Rattle.session_laws.proofs.Ties.Owes.{open_request, stands_started}
use Rattle.conn_laws.proofs.Ties.Tied.{IsKept, link_in, owner_of, queue_ids, has_ended}
use Rattle.session_laws.proofs.Ties.Tied.{TurnState, Tied}
use Rattle.conn_laws.proofs.Ties.Moves.{unstarted_alive, unstarted_tries}

-- a submission that is still to start is in the queue, or waits
pub record IsLater (t : TurnState) (n : ℕ) : Type 0 where
  pub p : ℕ
  pub within : p < length t.requests
  pub name : name_at t.requests p ≡ n
  pub later : IsIn p (queue_ids (link_in t.life).queue) ⊎ IsKept t.requests t.waiting t.admitted p

-- what is in the row has started
row_started : (b : Book) (t : TurnState) (p : ℕ) → Tied b t → has_ended t.life ≡ false → p < length t.requests → IsIn p (row_ids (link_in t.life).row) → (b.story (name_at t.requests p)).tries ≢ []
row_started b t p h n within i e =
    let l = b.link t.link in
    let alive = lives l b.created t.life h.life n in
    let w = wanted_entry (owner_of t.requests) l _ (link_in t.life).row p (row_open (owner_of t.requests) l (link_in t.life) alive (row_link l t.requests t.life p i (h.link n))) i in
    let place = subst (λ m. StandsAs l.starts (owner_of t.requests m) w.entry.shape w.number) w.is w.open_as.place in
    let k = stands_started b t p w.number w.entry.shape h within place in
    some_tries (sym (h.tries.tried k.0 p within k.2) ∙ e)
  where
    some_tries : {x : Try} {xs : List Try} → x ∷ xs ≡ [] → ⊥
    some_tries e = cc

-- where nothing is to be answered, an open submission without a message is in the queue or waits
open_later : (b : Book) (t : TurnState) (n : ℕ) → Tied b t → t.pending ≡ [] → has_ended t.life ≡ false → (b.story n).tries ≡ [] → is_open (b.story n) ≡ true → IsLater t n
open_later b t n h none up unstarted o =
    let r = open_request b t n h o in
    let within = open_within t.requests r.number r.open_at in
    let rows = requests_in (wanted (link_in t.life).row) in
    let queue = awaited_ids (link_in t.life).queue in
    record {
      p = r.number;
      within = within;
      name = r.named;
      later = elim (h.lines.there r.number r.open_at) [
        | inl i ↦ elim (in_either r.number rows queue (subst (λ ns. IsIn r.number (ns ++ (rows ++ queue))) none i)) [
          | inl a ↦ absurd (row_started b t r.number h up within (wanted_in r.number (link_in t.life).row (request_of r.number (wanted (link_in t.life).row) a)) (ap (λ m. (b.story m).tries) r.named ∙ unstarted))
          | inr q ↦ inl (awaited_in r.number (link_in t.life).queue q)
        ]
        | inr k ↦ inr k
      ];
    }

-- one that is still to start on the connection's link, where this has not ended
pub later_of : (b : Book) (t : TurnState) (n : ℕ) → Tied b t → t.pending ≡ [] → has_ended t.life ≡ false → (b.story n).link ≡ t.link → is_unstarted (b.story n) ≡ true → IsLater t n
later_of b t n h none up on e =
    let untried = unstarted_tries (b.story n) e in
    elim (unstarted_alive (b.story n) e) [
      | inl o ↦ open_later b t n h none up untried o
      | inr k ↦ let q = (h.told up).told n k untried on in record { p = q.0; within = q.1; name = q.2; later = inl q.3 }
    ]
