-- The connection's link ends: it is closed, and all its requests are answered.
use Rattle.std.proofs.Common.{Bool, true, ◌≡◌, ◌≢◌, inl, inr, ℕ, ◌<◌, List, [], ◌++◌, length, Option, Some, None, refl, sym, ap, ◌∙◌, subst, append_assoc, false}
use Rattle.std.specs.List.{AllByRecursion}
use Rattle.std.proofs.lemmas.List.{append-nil}
use Rattle.redis_error.specs.declared.redis_error.RedisError.TheVariants as error
use Rattle.redis_error.specs.declared.redis_error.RedisError.{RedisError}
use Rattle.driver_model.specs.declared.action.Owner.{Owner}
use Rattle.driver_model.specs.Shape.{outcome_of}
use Rattle.driver_model.specs.declared.outcome.Outcome.{Outcome}
use Rattle.driver_model.specs.declared.outcome.Outcome.TheVariants as outcome
use Rattle.link_core.specs.declared.message.Settled.{Settled}
use Rattle.link_core.specs.Link.{LinkState}
use Rattle.link_laws.specs.Settles.{settled_ids, wanted, awaited_ids, IsOwed}
use Rattle.mux_conn.specs.declared.act.LinkAct.TheVariants as act
use Rattle.mux_conn.specs.declared.life.Life.{Life}
use Rattle.mux_conn.specs.declared.life.Life.TheVariants.{Ended}
use Rattle.mux_conn.specs.declared.request.Request.{Request}
use Rattle.mux_conn.specs.declared.request.Waiting.{Waiting}
use Rattle.mux_conn.specs.Connection.{Work, acted, at_life}
use Rattle.mux_conn.specs.Requests.{is_open_at, name_at}
use Rattle.mux_conn.specs.Effects.{waiting_failed, nobody_waits, failed_each, settled_each, ended, all_answered, cut_short, parted, noticed}
use Rattle.legal_trace.specs.Ledger.{Ledger, Ending, ends, noted, ending, ending_or_shutdown, failure_of, by_shutdown, by_fault, by_opening, by_attempt, lasting}
use Rattle.legal_trace.specs.Story.{Story}
use Rattle.legal_trace.specs.Owed.{owed_by, owed_unstarted}
use Rattle.conn_laws.proofs.Ties.Numbers.{IsIn, in_left, in_right, Rising, rising_in, rising_within, rising_right, rising_tail, requests_in}
use Rattle.conn_laws.proofs.Ties.Tied.{no_link, link_in, queue_ids, waiting_ids, IsKept, TiedLines, TiedWaits, FailureIsShown}
use Rattle.conn_laws.proofs.Ties.InLine.{kept_ids, kept_in, line_of, IsInLine, awaited_rises}
use Rattle.conn_laws.proofs.Requests.Settle.{IsDueError, Leaves, leaves_on, settled_leaves, failed_leaves}
use Rattle.containers.proofs.Choices.{chosen}
use Rattle.resp_value.specs.declared.push_kind.PushKind.TheVariants.{Disconnection}
use Rattle.driver_model.specs.Hearing.{hears_pushes}
use Rattle.driver_model.specs.declared.hearing.Notice.TheVariants as notice
use Rattle.mux_conn.specs.declared.again.Again.{Again}

-- no error is none
pub no_failure : (e : RedisError) → ◌≡◌ {A = Option RedisError} None (Some e) → ⊥
no_failure e is = cc

-- the link is closed
--
-- the wanted messages of the row and the queue are to be answered
pub close_lines : (story : ℕ → Story) (requests : List Request) (link : LinkState) (waiting admitted : List Waiting) (pending started : List ℕ) → pending ≡ requests_in (wanted link.row) ++ awaited_ids link.queue → TiedLines story requests link waiting admitted [] started
    → TiedLines story requests no_link waiting admitted pending started
close_lines story requests link waiting admitted pending started ids h =
    let kept = kept_ids admitted waiting in
    record {
      line = rising_tail 0 (requests_in started) (queue_ids link.queue ++ kept) kept (length requests) (λ low r. rising_right low (queue_ids link.queue) kept (length requests) r) h.line;
      queued = tt;
      entries = tt;
      packs = h.packs;
      packed_in = h.packed_in;
      there = λ p e. elim (h.there p e) [
        | inl i ↦ inl (in_left p pending [] (subst (IsIn p) (sym ids) i))
        | inr w ↦ inr w
      ];
    }

-- the waits, on a link without messages that is not dialing
pub ended_waits : (story : ℕ → Story) (requests : List Request) (a : Again) (life : Life) (e : RedisError) (fresh moved : List ℕ) → TiedWaits story requests a life fresh moved → TiedWaits story requests a (Ended e) fresh moved
ended_waits story requests a life e fresh moved h = record {
  early = h.early;
  backoff = λ p w d. cc;
  connect = λ p w d. cc;
  creds = λ p link w s. cc;
  setup = λ p link greeting w s. cc;
  resubscribe = λ p link w r goes. cc;
  permit = λ p link w r none. cc;
  place = h.place;
  room = λ p i. absurd i;
  newer = h.newer;
  rising = h.rising;
  no_backoff = λ p i w d. cc;
  no_connect = λ p i w d. cc;
  no_creds = λ p link i w s. cc;
  no_setup = λ p link greeting i w s. cc;
  no_resubscribe = λ p link i w r goes. cc;
  unpermitted = λ p link w r goes. cc;
  no_permit = λ p link i w r none. cc;
  no_place = h.no_place;
  seatless = h.seatless;
  no_room = λ p i r. absurd r;
}

-- where its opening has not failed, it doesn't matter whether another attempt follows
pub unfailed_lasts : (last : Bool) (why : Ending) (o : Outcome) → failure_of why ≡ None → owed_by why ≡ Some o → lasting last why ≡ why
unfailed_lasts true why o failed owes = refl
unfailed_lasts false by_shutdown o failed owes = refl
unfailed_lasts false (by_fault f) o failed owes = refl
unfailed_lasts false (by_opening e) o failed owes = absurd (no_failure e (sym failed))
unfailed_lasts false (by_attempt e) o failed owes = cc

-- so it ends so
pub ends_so : (l : Ledger) (why : Ending) → lasting l.last why ≡ why → ending l ≡ Some why → lasting l.last (ending_or_shutdown (ending l)) ≡ why
ends_so l why lasts must = ap (λ x. lasting l.last (ending_or_shutdown x)) must ∙ lasts

-- what a submission without a message is owed then
pub ends_owed : (l : Ledger) (turn : ℕ) (why : Ending) (e : RedisError) → lasting l.last why ≡ why → ending l ≡ Some why → owed_by why ≡ Some (outcome.Fault e) → owed_unstarted (noted l (ends turn)).end ≡ Some (outcome.Fault e)
ends_owed l turn why e last must is = ap owed_by (ends_so l why last must) ∙ is

-- and what its failure is
pub ends_failed : (l : Ledger) (turn created : ℕ) (why : Ending) → lasting l.last why ≡ why → ending l ≡ Some why → ((e : RedisError) → failure_of why ≡ Some e → created ≢ 0) → FailureIsShown (noted l (ends turn)).end created
ends_failed l turn created why last must shown e fails = shown e (sym (ap failure_of (ends_so l why last must)) ∙ fails)

-- they are in line
pub close_in_line : (requests : List Request) (link : LinkState) (admitted waiting : List Waiting) (pending : List ℕ) → pending ≡ requests_in (wanted link.row) ++ awaited_ids link.queue → IsInLine requests link admitted waiting []
    → IsInLine requests no_link admitted waiting pending
close_in_line requests link admitted waiting pending ids r =
    let rows = requests_in (wanted link.row) in
    let last = kept_ids admitted waiting in
    subst (λ ns. Rising 0 (ns ++ last) (length requests)) (sym ids)
    (subst (λ ns. Rising 0 ns (length requests)) (sym (append_assoc rows (awaited_ids link.queue) last))
    (rising_tail 0 rows (queue_ids link.queue ++ last) (awaited_ids link.queue ++ last) (length requests) (λ low s. awaited_rises low link.queue last (length requests) s) r))

-- what is due then
--
-- who is open is in time
abbrev pub AreInTime : (ℕ → Story) → List Request → Type 0
AreInTime story requests = (p : ℕ) → is_open_at requests p ≡ true → (story (name_at requests p)).overdue ≡ false

-- who is to be answered, and in line, is within
pub pending_within : (requests : List Request) (link : LinkState) (admitted waiting : List Waiting) (ns : List ℕ) (n : ℕ) → IsInLine requests link admitted waiting ns → IsIn n ns → n < length requests
pending_within requests link admitted waiting ns n r i = let k = rising_in 0 (ns ++ line_of link admitted waiting) (length requests) n r (in_left n ns (line_of link admitted waiting) i) in k.1

-- all that wait for a place are due it, and all that wait for the connection
pub record AreDue (owes : ℕ → Option Outcome) (name : ℕ → ℕ) (was : ℕ → Bool) (e : RedisError) (admitted waiting : List Waiting) : Type 0 where
  pub place : AllByRecursion (IsDueError owes name was e) admitted
  pub connection : AllByRecursion (IsDueError owes name was e) waiting

-- those that wait are to be answered
--
-- who they are, in order
abbrev pub all_kept : List Waiting → List Waiting → List ℕ
all_kept admitted waiting = waiting_ids admitted ++ (waiting_ids waiting ++ [])

-- these are those that have no place
all_kept_is : (admitted waiting : List Waiting) → all_kept admitted waiting ≡ kept_ids admitted waiting
all_kept_is admitted waiting = ap (λ ns. waiting_ids admitted ++ ns) (append-nil (waiting_ids waiting))

-- each that is kept is one of them
kept_pending : (requests : List Request) (waiting admitted : List Waiting) (p : ℕ) → IsKept requests waiting admitted p → IsIn p (all_kept admitted waiting)
kept_pending requests waiting admitted p w = subst (IsIn p) (sym (all_kept_is admitted waiting)) (kept_in requests waiting admitted p w)

-- the lines of those
pub waiting_lines : (story : ℕ → Story) (requests : List Request) (link : LinkState) (waiting admitted : List Waiting) (started : List ℕ) → TiedLines story requests link waiting admitted [] started → TiedLines story requests link [] [] (all_kept admitted waiting) started
waiting_lines story requests link waiting admitted started h =
    let kept = kept_ids admitted waiting in
    record {
      line = rising_tail 0 (requests_in started) (queue_ids link.queue ++ kept) (queue_ids link.queue ++ []) (length requests)
          (λ low r. rising_tail low (queue_ids link.queue) kept [] (length requests) (λ least s. rising_within least kept (length requests) s) r) h.line;
      queued = h.queued;
      entries = h.entries;
      packs = tt;
      packed_in = tt;
      there = λ p e. elim (h.there p e) [
        | inl i ↦ inl (in_right p (all_kept admitted waiting) (requests_in (wanted link.row) ++ awaited_ids link.queue) i)
        | inr w ↦ inl (in_left p (all_kept admitted waiting) (requests_in (wanted link.row) ++ awaited_ids link.queue) (kept_pending requests waiting admitted p w))
      ];
    }

-- and they are in line
pub waiting_in_line : (requests : List Request) (life : Life) (admitted waiting : List Waiting) → link_in life ≡ no_link → IsInLine requests (link_in life) admitted waiting [] → IsInLine requests (link_in life) [] [] (all_kept admitted waiting)
waiting_in_line requests life admitted waiting bare r =
    let last = all_kept admitted waiting in
    subst (λ (x : LinkState). IsInLine requests x [] [] last) (sym bare)
    (subst (λ ns. Rising 0 ns (length requests)) (sym (append-nil last ∙ all_kept_is admitted waiting)) (subst (λ (x : LinkState). IsInLine requests x admitted waiting []) bare r))

-- what that leaves
pub waiting_leaves : (w : Work) (e : RedisError) → Leaves (nobody_waits w) (waiting_failed w e)
waiting_leaves w e =
    let rest = nobody_waits w in
    let first = failed_each rest e w.conn.admitted in
    leaves_on rest first (failed_each first e w.conn.waiting) (failed_leaves rest e w.conn.admitted) (failed_leaves first e w.conn.waiting)

-- the end
--
-- a settled message is one of these that wait, and gets the closed connection
abbrev pub IsClosedOf : List ℕ → Settled → Type 0
IsClosedOf ids s = (outcome_of s.verdict ≡ outcome.Fault error.Closed) × IsIn s.id ids

-- what a link settles when it ends: what started is owed what it comes to, and what waits in the queue gets the closed
-- connection
pub record SettlesAll (name : ℕ → Owner) (l : Ledger) (link : LinkState) (row queue : List Settled) : Type 0 where
  pub started : AllByRecursion (IsOwed name l) row
  pub waits : AllByRecursion (IsClosedOf (queue_ids link.queue)) queue
  pub ids : settled_ids (row ++ queue) ≡ wanted link.row ++ awaited_ids link.queue

-- answers leave those that were moved in this turn
answered_moved : (w : Work) (out : List Settled) → (all_answered w out).conn.moved ≡ w.conn.moved
answered_moved w out = (waiting_leaves (settled_each w out) error.Closed).moved ∙ (settled_leaves w out).moved

-- those that were moved in this turn stay
pub ended_moved : (w : Work) (out : List Settled) → (ended w out).conn.moved ≡ w.conn.moved
ended_moved w out =
    let v = acted (at_life w (Ended error.Closed)) act.Close in
    answered_moved v out

-- nor do they where the end is told
pub parted_moved : (w : Work) (out : List Settled) → (all_answered (parted (cut_short w)) out).conn.moved ≡ w.conn.moved
parted_moved w out =
    let v = cut_short w in
    chosen (λ (x : Work). (all_answered x out).conn.moved ≡ w.conn.moved) (hears_pushes v.conn.hears) (noticed v (notice.Push (record { kind = Disconnection; parts = [] }))) v
    (λ t. answered_moved (noticed v (notice.Push (record { kind = Disconnection; parts = [] }))) out)
    (λ t. answered_moved v out)
