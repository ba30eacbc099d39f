-- Which message an open submission started last: the one that it had, or one that starts now.
use Rattle.std.proofs.Common.{◌≡◌, ◌⊎◌, inl, inr, ℕ, ◌==◌, Bool, true, false, ◌&&◌, not, List, [], ◌∷◌, ◌++◌, length, Some, None, is_some, sym, ◌∙◌, ap, arith, max}
use Rattle.std.specs.Prelude.{slice_get}
use Rattle.containers.proofs.Choices.{chosen, eq_from}
use Rattle.driver_model.specs.declared.action.Action.{Action}
use Rattle.driver_model.specs.declared.action.Action.TheVariants as action
use Rattle.driver_model.specs.declared.action.Cause.TheVariants as cause
use Rattle.driver_model.specs.declared.action.Owner.TheVariants as owner
use Rattle.driver_model.specs.declared.event.EventKind.{EventKind}
use Rattle.driver_model.specs.declared.event.EventKind.TheVariants as event
use Rattle.legal_trace.specs.Story.{Story, Try, last_of, is_open, handed_in, left, holds, rounds, fires, tried, waits, answered}
use Rattle.legal_trace.specs.Book.{Book, entered, is_clock_of, after_event, is_unspoken}
use Rattle.legal_trace.specs.Legal.{IsOpen}
use Rattle.legal_trace.proofs.Clocks.{timer_keeps}
use Rattle.legal_trace.proofs.Plain.{not_none, not_empty, same_some}
use Rattle.legal_laws.specs.Notices.{HasMessage}
use Rattle.legal_laws.proofs.Traces.Numbers.{HasStories}
use Rattle.legal_laws.proofs.Submissions.Tales.{last_behind, open_has_none}

-- message k of link l starts, which is of submission n
abbrev pub StartsNow : ℕ → ℕ → ℕ → Action → Type 0
StartsNow l n k (action.Start m j (owner.Try i round) count len) = (m ≡ l) × (j ≡ k) × (i ≡ n)
StartsNow l n k _ = ⊥

-- a story of submission n: where it is open and its last message is that, it was so before, or starts now
abbrev pub IsFrom : Book → Action → ℕ → ℕ → ℕ → Story → Type 0
IsFrom b a l n k s = is_open s ≡ true → last_of s.tries ≡ Some (record { link = l; message = k }) → (IsOpen b n × HasMessage b n l k) ⊎ StartsNow l n k a

-- who has gone is not open
gone : (p q : Bool) → (p && q && not true) ≡ true → ⊥
gone true true e = cc e
gone true false e = cc e
gone false q e = cc e

-- so it is behind an event
event_from : (b : Book) (a : Action) (l n k : ℕ) (kind : EventKind) → HasStories b → IsFrom b a l n k (after_event b n kind)
event_from b a l n k (event.Submit what) blank = chosen (IsFrom b a l n k) (b.submissions == n) (handed_in (b.story n) what b.shut (is_unspoken b what) (max 1 b.generation) b.current b.timeout) (b.story n)
    (λ t o h. absurd (let e : b.submissions ≡ n = eq_from b.submissions n t in
    not_none (last_of (b.story n).tries) (record { link = l; message = k }) (ap (λ (s : Story). last_of s.tries) (blank n (omega (arith, e)))) h))
    (λ f o h. inl (o, h))
event_from b a l n k (event.Cancel m) blank = chosen (IsFrom b a l n k) (m == n) (left (b.story n)) (b.story n)
    (λ t. chosen (IsFrom b a l n k) (is_open (b.story n)) (record (b.story n) { cancelled = true; permits = 0; waiting = None }) (b.story n)
    (λ u o h. absurd (gone (is_some (b.story n).submission) (length (b.story n).outcomes == 0) o)) (λ u o h. inl (o, h)))
    (λ f o h. inl (o, h))
event_from b a l n k (event.Fired t) blank = chosen (IsFrom b a l n k) (is_clock_of n (slice_get b.timers t)) (fires (b.story n)) (b.story n)
    (λ e. chosen (IsFrom b a l n k) (is_open (b.story n)) (record (b.story n) { overdue = true }) (b.story n) (λ u o h. inl (o, h)) (λ u o h. inl (o, h)))
    (λ f o h. inl (o, h))
event_from b a l n k (event.Connected m) blank = λ o h. inl (o, h)
event_from b a l n k (event.Refused m f) blank = λ o h. inl (o, h)
event_from b a l n k (event.Wrote m count) blank = λ o h. inl (o, h)
event_from b a l n k (event.Bytes m piece) blank = λ o h. inl (o, h)
event_from b a l n k (event.Ended m) blank = λ o h. inl (o, h)
event_from b a l n k (event.ReadFault m kind) blank = λ o h. inl (o, h)
event_from b a l n k (event.WriteFault m kind) blank = λ o h. inl (o, h)
event_from b a l n k (event.Timeout ms) blank = λ o h. inl (o, h)
event_from b a l n k (event.Creds c auth) blank = λ o h. inl (o, h)
event_from b a l n k (event.CredsError c text) blank = λ o h. inl (o, h)
event_from b a l n k (event.CredsEnd c) blank = λ o h. inl (o, h)
event_from b a l n k event.DropStream blank = λ o h. inl (o, h)
event_from b a l n k event.Shutdown blank = λ o h. inl (o, h)

-- the last of tries, behind which one more stands
same_last : (ts : List Try) (m j l k : ℕ) → last_of (ts ++ record { link = m; message = j } ∷ []) ≡ Some (record { link = l; message = k }) → (m ≡ l) × (j ≡ k)
same_last ts m j l k e =
    let same : record { link = m; message = j } ≡ record { link = l; message = k } = same_some (record { link = m; message = j }) (record { link = l; message = k }) (sym (last_behind ts (record { link = m; message = j })) ∙ e) in
    (ap (λ (t : Try). t.link) same, ap (λ (t : Try). t.message) same)

-- and behind each action
pub message_from : (b : Book) (a : Action) (l n k : ℕ) → HasStories b → IsFrom b a l n k ((entered b a).story n)
message_from b (action.Turn j (cause.Opening config word)) l n k blank = λ o h. inl (o, h)
message_from b (action.Turn j (cause.Event e)) l n k blank = event_from b (action.Turn j (cause.Event e)) l n k e.kind blank
message_from b (action.Connect m host port) l n k blank = λ o h. inl (o, h)
message_from b (action.Timer t ms what) l n k blank = timer_keeps (IsFrom b (action.Timer t ms what) l n k) b n t what (λ e open_still o h. inl (o, h)) (λ e o h. inl (o, h)) (λ o h. inl (o, h))
message_from b (action.Took owner.Setup m count) l n k blank = λ o h. inl (o, h)
message_from b (action.Took owner.Auth m count) l n k blank = λ o h. inl (o, h)
message_from b (action.Took owner.Resub m count) l n k blank = λ o h. inl (o, h)
message_from b (action.Took owner.Monitor m count) l n k blank = λ o h. inl (o, h)
message_from b (action.Took (owner.Try i round) m count) l n k blank = chosen (IsFrom b (action.Took (owner.Try i round) m count) l n k) (i == n) (holds (b.story n) count) (b.story n) (λ e o h. inl (o, h)) (λ f o h. inl (o, h))
message_from b (action.Push m info) l n k blank = λ o h. inl (o, h)
message_from b (action.Message msg) l n k blank = λ o h. inl (o, h)
message_from b (action.Monitor v) l n k blank = λ o h. inl (o, h)
message_from b (action.NeedCreds c m) l n k blank = λ o h. inl (o, h)
message_from b (action.Generation g) l n k blank = λ o h. inl (o, h)
message_from b (action.Round owner.Setup on) l n k blank = λ o h. inl (o, h)
message_from b (action.Round owner.Auth on) l n k blank = λ o h. inl (o, h)
message_from b (action.Round owner.Resub on) l n k blank = λ o h. inl (o, h)
message_from b (action.Round owner.Monitor on) l n k blank = λ o h. inl (o, h)
message_from b (action.Round (owner.Try i round) on) l n k blank = chosen (IsFrom b (action.Round (owner.Try i round) on) l n k) (i == n) (rounds (b.story n)) (b.story n) (λ e o h. inl (o, h)) (λ f o h. inl (o, h))
message_from b (action.Close m) l n k blank = λ o h. inl (o, h)
message_from b (action.Write m bytes) l n k blank = λ o h. inl (o, h)
message_from b (action.Wait owner.Setup kind) l n k blank = λ o h. inl (o, h)
message_from b (action.Wait owner.Auth kind) l n k blank = λ o h. inl (o, h)
message_from b (action.Wait owner.Resub kind) l n k blank = λ o h. inl (o, h)
message_from b (action.Wait owner.Monitor kind) l n k blank = λ o h. inl (o, h)
message_from b (action.Wait (owner.Try i round) kind) l n k blank = chosen (IsFrom b (action.Wait (owner.Try i round) kind) l n k) (i == n) (waits (b.story n) kind) (b.story n) (λ e o h. inl (o, h)) (λ f o h. inl (o, h))
message_from b (action.Start m j owner.Setup count len) l n k blank = λ o h. inl (o, h)
message_from b (action.Start m j owner.Auth count len) l n k blank = λ o h. inl (o, h)
message_from b (action.Start m j owner.Resub count len) l n k blank = λ o h. inl (o, h)
message_from b (action.Start m j owner.Monitor count len) l n k blank = λ o h. inl (o, h)
message_from b (action.Start m j (owner.Try i round) count len) l n k blank = chosen (IsFrom b (action.Start m j (owner.Try i round) count len) l n k) (i == n) (tried (b.story n) m j) (b.story n)
    (λ e o h. let same = same_last (b.story n).tries m j l k h in inr (same.0, same.1, eq_from i n e)) (λ f o h. inl (o, h))
message_from b (action.Created e) l n k blank = λ o h. inl (o, h)
message_from b (action.Outcome i o) l n k blank = chosen (IsFrom b (action.Outcome i o) l n k) (i == n) (answered (b.story n) o) (b.story n)
    (λ e open_still h. absurd (not_empty (b.story n).outcomes o (open_has_none (answered (b.story n) o) open_still))) (λ f u h. inl (u, h))
