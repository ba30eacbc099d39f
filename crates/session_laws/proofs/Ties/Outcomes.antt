-- What the outcome actions of a trace say is what its book says.
use Rattle.driver_model.specs.declared.action.Purpose.{Purpose}
use Rattle.legal_trace.specs.Book.{entered, is_unspoken, Book, blank_book, book, entered_each, is_clock_of, is_rest}
use Rattle.std.specs.Prelude.{max, ◌&&◌, ◌==◌}
use Rattle.std.proofs.Common.{List, None, Option, Some, [], ap, arith, inl, inr, is_some, length, length-set, nat_le, not, refl, slice_get, slice_set, subst, suc, sym, true, zero, ℕ, ◌++◌, ◌+◌, ◌<◌, ◌∙◌, ◌∷◌, ◌≡◌, ◌≤◌, ◌&&◌}
use Rattle.std.proofs.lemmas.List.{length_push}
use Rattle.containers.proofs.Places.{get_set_other, get_set_same}
use Rattle.containers.proofs.Choices.{both_left, by_test, chosen, eq_from, le_from, ne_from, not_both, not_le_from}
use Rattle.driver_model.specs.declared.action.Action.{Action}
use Rattle.driver_model.specs.declared.action.Action.TheVariants as action
use Rattle.driver_model.specs.declared.action.Cause.TheVariants as cause
use Rattle.driver_model.specs.declared.action.Owner.TheVariants as owner
use Rattle.driver_model.specs.declared.action.WaitKind.{WaitKind}
use Rattle.driver_model.specs.declared.event.EventKind.{EventKind}
use Rattle.driver_model.specs.declared.event.EventKind.TheVariants as event
use Rattle.driver_model.specs.declared.event.Submission.{Submission}
use Rattle.driver_model.specs.declared.outcome.Outcome.{Outcome}
use Rattle.single_session.specs.Replay.{if_placed, outcome_at, outcomes_in, told, told_each, with_room}
use Rattle.legal_trace.specs.Legal.{AllStand, IsOpen, MayStand}
use Rattle.legal_trace.specs.Story.{Story, answered, clocked, fires, handed_in, holds, is_open, left, tried, waits, carried, rounds}
use Rattle.session_laws.specs.Outcomes.{last_outcome}

-- the last is the last
last_more : (os : List Outcome) (o : Outcome) → last_outcome (os ++ o ∷ []) ≡ Some o
last_more [] o = refl
last_more (x ∷ []) o = refl
last_more (x ∷ y ∷ os) o = last_more (y ∷ os) o

-- a place for each submission, with its last outcome; and the others have none
record AreOutcomes (os : List (Option Outcome)) (b : Book) : Type 0 where
  pub long : length os ≡ b.submissions
  pub last : (n : ℕ) → outcome_at os n ≡ last_outcome (b.story n).outcomes
  pub later : (n : ℕ) → b.submissions ≤ n → ((b.story n).submission ≡ None) × ((b.story n).outcomes ≡ [])

-- a story that says the same of both
abbrev SameTold : Story → Story → Type 0
SameTold s s' = (s'.submission ≡ s.submission) × (s'.outcomes ≡ s.outcomes)

-- where nothing is told of outcomes
same_outcomes : (os : List (Option Outcome)) (b : Book) (a : Action) → (entered b a).submissions ≡ b.submissions → ((n : ℕ) → SameTold (b.story n) ((entered b a).story n)) → AreOutcomes os b → AreOutcomes os (entered b a)
same_outcomes os b a count same h = record {
  long = h.long ∙ sym count;
  last = λ n. h.last n ∙ ap last_outcome (sym (same n).1);
  later = λ n l. let k = h.later n (omega (arith, count, l)) in ((same n).0 ∙ k.0, (same n).1 ∙ k.1);
}

-- an outcome
--
open_within_book : (os : List (Option Outcome)) (b : Book) (n : ℕ) → AreOutcomes os b → IsOpen b n → n < length os
open_within_book os b n h o = by_test (nat_le b.submissions n) _
    (λ t. absurd (let none = (h.later n (le_from b.submissions n t)).0 in let some = both_left (is_some (b.story n).submission) (length (b.story n).outcomes == 0) (both_left (is_some (b.story n).submission && (length (b.story n).outcomes == 0)) (not (b.story n).cancelled) o) in not_both (is_some (b.story n).submission) (ap is_some none) some))
    (λ f. let l = not_le_from b.submissions n f in let e = h.long in omega arith)

-- it is the last of its submission
answer_outcomes : (os : List (Option Outcome)) (b : Book) (n : ℕ) (o : Outcome) → IsOpen b n → AreOutcomes os b → AreOutcomes (slice_set os n (Some o)) (entered b (action.Outcome n o))
answer_outcomes os b n o is_open_now h =
    let within = open_within_book os b n h is_open_now in
    record {
      long = length-set os n (Some o) ∙ h.long;
      last = λ m.
          chosen (λ (s : Story). outcome_at (slice_set os n (Some o)) m ≡ last_outcome s.outcomes) (n == m) (answered (b.story m) o) (b.story m)
          (λ t. subst (λ k. outcome_at (slice_set os n (Some o)) k ≡ last_outcome ((b.story m).outcomes ++ o ∷ [])) (eq_from n m t) (ap if_placed (get_set_same os n (Some o) within) ∙ sym (last_more (b.story m).outcomes o)))
          (λ f. ap if_placed (get_set_other os n m (Some o) (ne_from n m f)) ∙ h.last m);
      later = λ m l.
          chosen (λ (s : Story). (s.submission ≡ None) × (s.outcomes ≡ [])) (n == m) (answered (b.story m) o) (b.story m)
          (λ t. absurd (let same = eq_from n m t in let e = h.long in omega arith))
          (λ f. h.later m l);
    }

-- a submission
--
room_at : (os : List (Option Outcome)) (n : ℕ) → outcome_at (os ++ None ∷ []) n ≡ outcome_at os n
room_at [] zero = refl
room_at [] (suc n) = refl
room_at (x ∷ os) zero = refl
room_at (x ∷ os) (suc n) = room_at os n

-- it has a place, and no outcome
submit_outcomes : (os : List (Option Outcome)) (b : Book) (number word : ℕ) (what : Submission) → AreOutcomes os b → AreOutcomes (os ++ None ∷ []) (entered b (action.Turn number (cause.Event (record { word = word; kind = event.Submit what }))))
submit_outcomes os b number word what h = record {
  long = length_push os None ∙ ap (λ n. n + 1) h.long;
  last = λ n. room_at os n ∙ h.last n
      ∙ chosen (λ (s : Story). last_outcome (b.story n).outcomes ≡ last_outcome s.outcomes) (b.submissions == n) (handed_in (b.story n) what b.shut (is_unspoken b what) (max 1 b.generation) b.current b.timeout) (b.story n) (λ t. refl) (λ f. refl);
  later = λ n l.
      chosen (λ (s : Story). (s.submission ≡ None) × (s.outcomes ≡ [])) (b.submissions == n) (handed_in (b.story n) what b.shut (is_unspoken b what) (max 1 b.generation) b.current b.timeout) (b.story n)
      (λ t. absurd (let same = eq_from b.submissions n t in omega arith))
      (λ f. h.later n (omega arith));
}

-- a leave tells nothing of outcomes
left_same : (s : Story) → SameTold s (left s)
left_same s = chosen (SameTold s) (is_open s) (record s { cancelled = true; permits = 0; waiting = None }) s (λ t. (refl, refl)) (λ f. (refl, refl))

-- nor does a timer that fires
fires_same : (s : Story) → SameTold s (fires s)
fires_same s = chosen (SameTold s) (is_open s) (record s { overdue = true }) s (λ t. (refl, refl)) (λ f. (refl, refl))

-- nor does a cancel
cancel_outcomes : (os : List (Option Outcome)) (b : Book) (number word k : ℕ) → AreOutcomes os b → AreOutcomes os (entered b (action.Turn number (cause.Event (record { word = word; kind = event.Cancel k }))))
cancel_outcomes os b number word k h =
    same_outcomes os b (action.Turn number (cause.Event (record { word = word; kind = event.Cancel k }))) (omega arith)
    (λ n. chosen (SameTold (b.story n)) (k == n) (left (b.story n)) (b.story n) (λ t. left_same (b.story n)) (λ f. (refl, refl))) h

-- any event
event_outcomes : (os : List (Option Outcome)) (b : Book) (number word : ℕ) (kind : EventKind) → AreOutcomes os b → AreOutcomes (with_room os kind) (entered b (action.Turn number (cause.Event (record { word = word; kind = kind }))))
event_outcomes os b number word (event.Submit what) h = submit_outcomes os b number word what h
event_outcomes os b number word (event.Cancel k) h = cancel_outcomes os b number word k h
event_outcomes os b number word (event.Connected l) h = same_outcomes os b (action.Turn number (cause.Event (record { word = word; kind = event.Connected l }))) (omega arith) (λ n. (refl, refl)) h
event_outcomes os b number word (event.Refused l f) h = same_outcomes os b (action.Turn number (cause.Event (record { word = word; kind = event.Refused l f }))) (omega arith) (λ n. (refl, refl)) h
event_outcomes os b number word (event.Fired k) h =
    same_outcomes os b (action.Turn number (cause.Event (record { word = word; kind = event.Fired k }))) (omega arith)
    (λ n. chosen (SameTold (b.story n)) (is_clock_of n (slice_get b.timers k)) (fires (b.story n)) (b.story n) (λ t. fires_same (b.story n)) (λ f. (refl, refl))) h
event_outcomes os b number word (event.Creds c auth) h = same_outcomes os b (action.Turn number (cause.Event (record { word = word; kind = event.Creds c auth }))) (omega arith) (λ n. (refl, refl)) h
event_outcomes os b number word (event.CredsError c text) h = same_outcomes os b (action.Turn number (cause.Event (record { word = word; kind = event.CredsError c text }))) (omega arith) (λ n. (refl, refl)) h
event_outcomes os b number word (event.CredsEnd c) h = same_outcomes os b (action.Turn number (cause.Event (record { word = word; kind = event.CredsEnd c }))) (omega arith) (λ n. (refl, refl)) h
event_outcomes os b number word (event.Timeout ms) h = same_outcomes os b (action.Turn number (cause.Event (record { word = word; kind = event.Timeout ms }))) (omega arith) (λ n. (refl, refl)) h
event_outcomes os b number word (event.Wrote l count) h = same_outcomes os b (action.Turn number (cause.Event (record { word = word; kind = event.Wrote l count }))) (omega arith) (λ n. (refl, refl)) h
event_outcomes os b number word (event.Bytes l piece) h = same_outcomes os b (action.Turn number (cause.Event (record { word = word; kind = event.Bytes l piece }))) (omega arith) (λ n. (refl, refl)) h
event_outcomes os b number word (event.Ended l) h = same_outcomes os b (action.Turn number (cause.Event (record { word = word; kind = event.Ended l }))) (omega arith) (λ n. (refl, refl)) h
event_outcomes os b number word (event.ReadFault l kind) h = same_outcomes os b (action.Turn number (cause.Event (record { word = word; kind = event.ReadFault l kind }))) (omega arith) (λ n. (refl, refl)) h
event_outcomes os b number word (event.WriteFault l kind) h = same_outcomes os b (action.Turn number (cause.Event (record { word = word; kind = event.WriteFault l kind }))) (omega arith) (λ n. (refl, refl)) h
event_outcomes os b number word event.DropStream h = same_outcomes os b (action.Turn number (cause.Event (record { word = word; kind = event.DropStream }))) (omega arith) (λ n. (refl, refl)) h
event_outcomes os b number word event.Shutdown h = same_outcomes os b (action.Turn number (cause.Event (record { word = word; kind = event.Shutdown }))) (omega arith) (λ n. (refl, refl)) h

-- any action
--
start_same : (b : Book) (l k m round count len : ℕ) (n : ℕ) → SameTold (b.story n) ((entered b (action.Start l k (owner.Try m round) count len)).story n)
start_same b l k m round count len n = chosen (SameTold (b.story n)) (m == n) (tried (b.story n) l k) (b.story n) (λ t. (refl, refl)) (λ f. (refl, refl))

-- nor does a wait
wait_same : (b : Book) (m round : ℕ) (kind : WaitKind) (n : ℕ) → SameTold (b.story n) ((entered b (action.Wait (owner.Try m round) kind)).story n)
wait_same b m round kind n = chosen (SameTold (b.story n)) (m == n) (waits (b.story n) kind) (b.story n) (λ t. (refl, refl)) (λ f. (refl, refl))

-- nor does a round
round_same : (b : Book) (m round : ℕ) (l : Option ℕ) (n : ℕ) → SameTold (b.story n) ((entered b (action.Round (owner.Try m round) l)).story n)
round_same b m round l n = chosen (SameTold (b.story n)) (m == n) (rounds (b.story n)) (b.story n) (λ t. (refl, refl)) (λ f. (refl, refl))

-- nor do permits
took_same : (b : Book) (m round l count : ℕ) (n : ℕ) → SameTold (b.story n) ((entered b (action.Took (owner.Try m round) l count)).story n)
took_same b m round l count n = chosen (SameTold (b.story n)) (m == n) (holds (b.story n) count) (b.story n) (λ t. (refl, refl)) (λ f. (refl, refl))

-- nor does a timer
timer_same : (b : Book) (t ms : ℕ) (what : Purpose) (n : ℕ) → SameTold (b.story n) ((entered b (action.Timer t ms what)).story n)
timer_same b t ms what n =
    chosen (SameTold (b.story n)) (is_rest what && is_open (b.story n)) (carried (b.story n) b.links) _ (λ r. (refl, refl))
    (λ o. chosen (SameTold (b.story n)) (is_clock_of n (Some what)) (clocked (b.story n) t) (b.story n) (λ e. (refl, refl)) (λ f. (refl, refl)))

-- by the kind of the action
action_outcomes : (os : List (Option Outcome)) (b : Book) (a : Action) → MayStand b a → AreOutcomes os b → AreOutcomes (told os a) (entered b a)
action_outcomes os b (action.Turn number (cause.Opening config word)) may h = same_outcomes os b (action.Turn number (cause.Opening config word)) refl (λ n. (refl, refl)) h
action_outcomes os b (action.Turn number (cause.Event e)) may h = event_outcomes os b number e.word e.kind h
action_outcomes os b (action.Connect l host port) may h = same_outcomes os b (action.Connect l host port) refl (λ n. (refl, refl)) h
action_outcomes os b (action.Timer t ms what) may h = same_outcomes os b (action.Timer t ms what) refl (timer_same b t ms what) h
action_outcomes os b (action.Took owner.Setup l count) may h = absurd may
action_outcomes os b (action.Took owner.Auth l count) may h = absurd may
action_outcomes os b (action.Took owner.Resub l count) may h = absurd may
action_outcomes os b (action.Took owner.Monitor l count) may h = absurd may
action_outcomes os b (action.Took (owner.Try m round) l count) may h = same_outcomes os b (action.Took (owner.Try m round) l count) refl (took_same b m round l count) h
action_outcomes os b (action.Push l info) may h = same_outcomes os b (action.Push l info) refl (λ n. (refl, refl)) h
action_outcomes os b (action.Message m) may h = same_outcomes os b (action.Message m) refl (λ n. (refl, refl)) h
action_outcomes os b (action.Monitor v) may h = same_outcomes os b (action.Monitor v) refl (λ n. (refl, refl)) h
action_outcomes os b (action.NeedCreds c l) may h = same_outcomes os b (action.NeedCreds c l) refl (λ n. (refl, refl)) h
action_outcomes os b (action.Generation g) may h = same_outcomes os b (action.Generation g) refl (λ n. (refl, refl)) h
action_outcomes os b (action.Round owner.Setup l) may h = absurd may
action_outcomes os b (action.Round owner.Auth l) may h = absurd may
action_outcomes os b (action.Round owner.Resub l) may h = absurd may
action_outcomes os b (action.Round owner.Monitor l) may h = absurd may
action_outcomes os b (action.Round (owner.Try m round) l) may h = same_outcomes os b (action.Round (owner.Try m round) l) refl (round_same b m round l) h
action_outcomes os b (action.Close l) may h = same_outcomes os b (action.Close l) refl (λ n. (refl, refl)) h
action_outcomes os b (action.Write l bytes) may h = same_outcomes os b (action.Write l bytes) refl (λ n. (refl, refl)) h
action_outcomes os b (action.Wait owner.Setup kind) may h = absurd may
action_outcomes os b (action.Wait owner.Auth kind) may h = absurd may
action_outcomes os b (action.Wait owner.Resub kind) may h = absurd may
action_outcomes os b (action.Wait owner.Monitor kind) may h = absurd may
action_outcomes os b (action.Wait (owner.Try m round) kind) may h = same_outcomes os b (action.Wait (owner.Try m round) kind) refl (wait_same b m round kind) h
action_outcomes os b (action.Start l k owner.Setup count len) may h = same_outcomes os b (action.Start l k owner.Setup count len) refl (λ n. (refl, refl)) h
action_outcomes os b (action.Start l k owner.Auth count len) may h = same_outcomes os b (action.Start l k owner.Auth count len) refl (λ n. (refl, refl)) h
action_outcomes os b (action.Start l k owner.Resub count len) may h = same_outcomes os b (action.Start l k owner.Resub count len) refl (λ n. (refl, refl)) h
action_outcomes os b (action.Start l k owner.Monitor count len) may h = same_outcomes os b (action.Start l k owner.Monitor count len) refl (λ n. (refl, refl)) h
action_outcomes os b (action.Start l k (owner.Try m round) count len) may h = same_outcomes os b (action.Start l k (owner.Try m round) count len) refl (start_same b l k m round count len) h
action_outcomes os b (action.Created e) may h = same_outcomes os b (action.Created e) refl (λ n. (refl, refl)) h
action_outcomes os b (action.Outcome n o) (inl may) h = answer_outcomes os b n o may.asked h
action_outcomes os b (action.Outcome n o) (inr may) h = answer_outcomes os b n o may.asked h

-- and all of them
each_outcomes : (os : List (Option Outcome)) (b : Book) (trace : List Action) → AllStand b trace → AreOutcomes os b → AreOutcomes (told_each os trace) (entered_each b trace)
each_outcomes os b [] all h = h
each_outcomes os b (a ∷ more) all h = each_outcomes (told os a) (entered b a) more all.1 (action_outcomes os b a all.0 h)

-- the outcome of each submission is the last of its story
pub last_told : (trace : List Action) (n : ℕ) → AllStand blank_book trace → outcome_at (outcomes_in trace) n ≡ last_outcome ((book trace).story n).outcomes
unfolding book outcomes_in
last_told trace n all = (each_outcomes [] blank_book trace all (record { long = refl; last = λ m. refl; later = λ m l. (refl, refl) })).last n
