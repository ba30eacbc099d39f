-- Which wait is true of a request.
use Rattle.std.proofs.Common.{Bool, List, None, Option, Some, [], ap, false, inl, inr, refl, slice_get, subst, sym, true, ℕ, ◌≤◌, ◌∙◌, ◌∷◌, ◌≡◌}
use Rattle.std.specs.List.{AllByRecursion}
use Rattle.std.specs.Prelude.{◌&&◌, not, if◌then◌else◌}
use Rattle.containers.proofs.Choices.{le_from, not_both}
use Rattle.driver_model.specs.declared.action.WaitKind.{WaitKind}
use Rattle.link_core.specs.declared.message.Entry.{Entry}
use Rattle.link_core.specs.Link.{LinkState, first_in}
use Rattle.link_core.specs.declared.message.Queued.{Queued}
use Rattle.link_laws.specs.Settles.{awaited_ids, wanted}
use Rattle.mux_conn.specs.Requests.{if_there, is_admitted, is_admitted_at, is_placed, is_placed_at, is_waiting, is_waiting_at, name_at}
use Rattle.mux_conn.specs.Turn.{is_from}
use Rattle.mux_conn.specs.declared.request.Progress.{Progress}
use Rattle.mux_conn.specs.declared.request.Progress.TheVariants as progress
use Rattle.mux_conn.specs.declared.request.Request.{Request}
use Rattle.legal_trace.specs.Story.{Story, awaited_in, is_no_error, is_told, waits as waits_now}
use Rattle.conn_laws.proofs.Ties.InLine.{chosen_in}
use Rattle.conn_laws.proofs.Ties.Kept.{SameOutcomes, SameSubmissions}
use Rattle.conn_laws.proofs.Ties.Numbers.{IsIn, in_either, is_own}
use Rattle.conn_laws.proofs.Ties.Tied.{AreQueued, IsEntry, IsQueued, IsRequest, queue_ids}

-- how far a request has come
--
-- what passes one test fails another
apart_at : (f g : Progress → Bool) (requests : List Request) (p : ℕ) → ((r : Progress) → f r ≡ true → g r ≡ false) → if_there f (slice_get requests p) ≡ true → if_there g (slice_get requests p) ≡ false
apart_at f g requests p h = by_request (slice_get requests p)
  where
    by_request : (r : Option Request) → if_there f r ≡ true → if_there g r ≡ false
    by_request None e = cc
    by_request (Some r) e = h r.progress e

-- who waits for the connection doesn't wait for a place
waiting_then : (r : Progress) → is_waiting r ≡ true → (is_admitted r ≡ false) × (is_placed r ≡ false)
waiting_then progress.Waiting e = (refl, refl)
waiting_then progress.Begun e = (refl, refl)
waiting_then progress.Admitted e = cc
waiting_then progress.Placed e = cc
waiting_then progress.Closed e = cc

-- and who waits for a place has none
admitted_then : (r : Progress) → is_admitted r ≡ true → is_placed r ≡ false
admitted_then progress.Waiting e = cc
admitted_then progress.Begun e = cc
admitted_then progress.Admitted e = refl
admitted_then progress.Placed e = cc
admitted_then progress.Closed e = cc

-- of a request
pub waiting_apart : (requests : List Request) (p : ℕ) → is_waiting_at requests p ≡ true → (is_admitted_at requests p ≡ false) × (is_placed_at requests p ≡ false)
waiting_apart requests p w = (apart_at is_waiting is_admitted requests p (λ r e. (waiting_then r e).0) w, apart_at is_waiting is_placed requests p (λ r e. (waiting_then r e).1) w)

-- and of one that waits for a place
pub admitted_unplaced : (requests : List Request) (p : ℕ) → is_admitted_at requests p ≡ true → is_placed_at requests p ≡ false
admitted_unplaced requests p a = apart_at is_admitted is_placed requests p admitted_then a

-- an awaited message of a queue has its place
pub awaited_placed : (story : ℕ → Story) (requests : List Request) (queue : List Queued) (p : ℕ) → AllByRecursion (IsQueued story requests) queue → IsIn p (awaited_ids queue) → is_placed_at requests p ≡ true
awaited_placed story requests [] p all i = absurd i
awaited_placed story requests (q ∷ qs) p all i = elim (in_either p (if q.awaited then q.id ∷ [] else []) (awaited_ids qs) i) [
  | inl j ↦ subst (λ n. is_placed_at requests n ≡ true) (chosen_in q.awaited p q.id j) (all.0.placed_at (own q.awaited j))
  | inr j ↦ awaited_placed story requests qs p all.1 j
]
  where
    own : (b : Bool) → IsIn p (if b then q.id ∷ [] else []) → b ≡ true
    own true j = refl
    own false j = absurd j

-- what is shown of a wait
--
-- a request is one still
pub waits_request : (s : Story) (kind : WaitKind) (requests : List Request) (link p : ℕ) → IsRequest s requests link p → IsRequest (waits_now s kind) requests link p
waits_request s kind requests link p h = record { what = h.what; handed_in = h.handed_in; in_time = h.in_time; spoken = h.spoken; on = h.on; some = h.some; open_is = h.open_is; permits_is = h.permits_is }

-- who was told is told
told_same : (f g : ℕ → Story) (n : ℕ) → SameSubmissions f g → SameOutcomes f g → is_told (f n) ≡ is_told (g n)
told_same f g n same answers = λ i. not (awaited_in (same n i)) && is_no_error (answers n i)

-- and in the queue
pub queued_still : (f g : ℕ → Story) (requests : List Request) (number : ℕ) (link : LinkState) → SameSubmissions f g → SameOutcomes f g → ((n : ℕ) → (f n).tries ≡ (g n).tries) → ((n : ℕ) → (f n).link ≡ (g n).link) → AreQueued f requests number link → AreQueued g requests number link
queued_still f g requests number link same answers tried linked h = record {
  told = λ n is none on. h.told n (told_same f g n same answers ∙ is) (tried n ∙ none) (linked n ∙ on);
  here = λ p i. sym (linked (name_at requests p)) ∙ h.here p i;
}

-- where an open request is
--
-- a message of the row that is wanted has its place
pub wanted_placed : (requests : List Request) (row : List Entry) (p : ℕ) → is_own p ≡ false → AllByRecursion (IsEntry requests) row → IsIn p (wanted row) → is_placed_at requests p ≡ true
wanted_placed requests [] p other all i = absurd i
wanted_placed requests (e ∷ es) p other all i = elim (in_either p (if e.awaited then e.id ∷ [] else []) (wanted es) i) [
  | inl j ↦ elim all.0 [
    | inl r ↦ subst (λ n. is_placed_at requests n ≡ true) (chosen_in e.awaited p e.id j) (r.placed_at (own e.awaited j))
    | inr a ↦ absurd (not_both (is_own p) other (ap is_own (sym (chosen_in e.awaited p e.id j)) ∙ a.is))
  ]
  | inr j ↦ wanted_placed requests es p other all.1 j
]
  where
    own : (b : Bool) → IsIn p (if b then e.id ∷ [] else []) → b ≡ true
    own true j = refl
    own false j = absurd j

-- the message that starts next stands before one that is from it on
pub first_from : (queue : List Queued) (p : ℕ) → is_from (first_in queue) p ≡ true → (x : ℕ) × IsIn x (queue_ids queue) × (x ≤ p)
first_from [] p e = cc
first_from (q ∷ qs) p e = (q.id, inl refl, le_from q.id p e)
