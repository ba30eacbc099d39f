-- What a session that comes back knows of subscriptions is what the book of its trace says of them.
use Rattle.std.proofs.Common.{◌≡◌, ◌≢◌, ℕ, zero, suc, ◌+◌, ◌==◌, Bool, true, false, List, [], ◌∷◌, ◌++◌, length, length-append, Option, Some, None, slice_get, if◌then◌else◌, refl, sym, ap, ◌∙◌, arith, ◌&&◌}
use Rattle.std.specs.Prelude.{max}
use Rattle.containers.proofs.Choices.{by_test, chosen, eq_from, left_if, ne_from, taken_if}
use Rattle.sub_tracker.specs.Held.{held_after}
use Rattle.sub_tracker.specs.Subscribed.{Request}
use Rattle.driver_model.specs.declared.action.Action.TheVariants as action
use Rattle.driver_model.specs.declared.action.Cause.TheVariants as cause
use Rattle.driver_model.specs.declared.action.Owner.TheVariants as owner
use Rattle.driver_model.specs.declared.action.Purpose.{Purpose}
use Rattle.driver_model.specs.declared.action.Purpose.TheVariants as purpose
use Rattle.driver_model.specs.declared.action.WaitKind.{WaitKind}
use Rattle.driver_model.specs.declared.event.EventKind.{EventKind}
use Rattle.driver_model.specs.declared.event.EventKind.TheVariants as event
use Rattle.driver_model.specs.declared.event.Submission.{Submission}
use Rattle.driver_model.specs.declared.event.Submission.TheVariants as submission
use Rattle.driver_model.specs.declared.outcome.Outcome.{Outcome}
use Rattle.driver_model.specs.declared.outcome.Outcome.TheVariants as outcome
use Rattle.mux_conn.specs.declared.act.LinkAct.{LinkAct}
use Rattle.mux_conn.specs.declared.act.LinkAct.TheVariants as act
use Rattle.single_session.specs.declared.generations.Generations.{Generations}
use Rattle.single_session.specs.declared.subscriptions.Call.{Call}
use Rattle.single_session.specs.declared.subscriptions.Subscriptions.{Subscriptions}
use Rattle.single_session.specs.Generations.{connect_timed}
use Rattle.single_session.specs.Subscriptions.{asked_by, call_of, informed, tracked_by, tracked_each}
use Rattle.single_session.specs.Turn.{shown, shown_each, source_of, timer_of}
use Rattle.single_session.proofs.Tracked.{calls_each, confirmed_behind, one_tracked, request_of}
use Rattle.legal_trace.specs.Again.{calls_in, calls_of, confirmed}
use Rattle.legal_trace.specs.Book.{Book, after_timer, entered, entered_each, is_clock_of, is_rest, is_unspoken}
use Rattle.legal_trace.specs.Story.{Story, answered, carried, clocked, fires, handed_in, holds, is_open, left, rounds, tried, waits}

-- the tracker holds what is subscribed after the calls that were confirmed; and each submission is the call that it is for the book
pub record HasInformed (b : Book) (s : Subscriptions) : Type 0 where
  pub held : s.tracker.held ≡ held_after b.tracked
  pub counted : length s.calls ≡ b.submissions
  pub calls : (n : ℕ) → request_of (slice_get s.calls n) ≡ calls_in (b.story n).submission

-- so it is where there are generations
abbrev pub IsInformed : Book → Option Generations → Type 0
IsInformed b None = Unit {0}
IsInformed b (Some g) = HasInformed b g.subscribed

-- what leaves it
--
-- as many calls were confirmed, and as many submissions came, which are the same
pub record AsksAlike (b c : Book) : Type 0 where
  pub tracked : c.tracked ≡ b.tracked
  pub submissions : c.submissions ≡ b.submissions
  pub asked : (n : ℕ) → (c.story n).submission ≡ (b.story n).submission

pub alike_informed : (b c : Book) (s : Subscriptions) → AsksAlike b c → HasInformed b s → HasInformed c s
alike_informed b c s same h = record {
  held = h.held ∙ ap held_after (sym same.tracked);
  counted = h.counted ∙ sym same.submissions;
  calls = λ n. h.calls n ∙ ap calls_in (sym (same.asked n));
}

-- also of a session without generations
pub alike_still : (b c : Book) (m : Option Generations) → AsksAlike b c → IsInformed b m → IsInformed c m
alike_still b c None same h = tt
alike_still b c (Some g) same h = alike_informed b c g.subscribed same h

-- one story may change, but for its submission
kept : (own : Bool) (changed s : Story) → changed.submission ≡ s.submission → (if own then changed else s).submission ≡ s.submission
kept true changed s same = same
kept false changed s same = refl

-- its caller may go, or its timer fire
left_asks : (s : Story) → (left s).submission ≡ s.submission
left_asks s = chosen (λ (x : Story). x.submission ≡ s.submission) (is_open s) (record s { cancelled = true; permits = 0; waiting = None }) s (λ t. refl) (λ f. refl)

fires_asks : (s : Story) → (fires s).submission ≡ s.submission
fires_asks s = chosen (λ (x : Story). x.submission ≡ s.submission) (is_open s) (record s { overdue = true }) s (λ t. refl) (λ f. refl)

-- so it does by a timer that is asked for
timer_asks : (b : Book) (n t : ℕ) (what : Purpose) → (after_timer b n t what).submission ≡ (b.story n).submission
timer_asks b n t what = first (is_rest what && is_open (b.story n)) (kept (is_clock_of n (Some what)) (clocked (b.story n) t) (b.story n) refl)
  where
    rest : Story
    rest = if is_clock_of n (Some what) then clocked (b.story n) t else b.story n

    first : (x : Bool) → rest.submission ≡ (b.story n).submission → (if x then carried (b.story n) b.links else rest).submission ≡ (b.story n).submission
    first true same = refl
    first false same = same

pub timer_alike : (b : Book) (t ms : ℕ) (what : Purpose) → AsksAlike b (entered b (action.Timer t ms what))
timer_alike b t ms what = record { tracked = refl; submissions = refl; asked = λ n. timer_asks b n t what }

-- and by the link of the next attempt, or the next generation
pub connect_alike : (b : Book) (l t : ℕ) (host : List ℕ) (port : ℕ) (bound : Option ℕ) → AsksAlike b (entered_each b (action.Connect l host port ∷ connect_timed l t bound))
connect_alike b l t host port None = record { tracked = refl; submissions = refl; asked = λ n. refl }
connect_alike b l t host port (Some ms) = record { tracked = refl; submissions = refl; asked = λ n. timer_asks (entered b (action.Connect l host port)) n t (purpose.Connect l) }

pub generation_alike : (b : Book) (number : ℕ) → AsksAlike b (entered b (action.Generation number))
generation_alike b number = record { tracked = refl; submissions = refl; asked = λ n. refl }

-- acts
--
-- each leaves what submissions are
act_asks : (b : Book) (l t c : ℕ) (a : LinkAct) (n : ℕ) → ((entered b (shown l t c a)).story n).submission ≡ (b.story n).submission
act_asks b l t c (act.Created e) n = refl
act_asks b l t c (act.Round m) n = kept (m == n) (rounds (b.story n)) (b.story n) refl
act_asks b l t c (act.Took m count) n = kept (m == n) (holds (b.story n) count) (b.story n) refl
act_asks b l t c (act.Timer m ms) n = timer_asks b n t (purpose.Response (owner.Try m 0))
act_asks b l t c (act.RenewalTimer k ms) n = timer_asks b n t (purpose.Renewal l k)
act_asks b l t c (act.RepeatTimer ms) n = timer_asks b n t (purpose.Resubscription l)
act_asks b l t c act.NeedCreds n = refl
act_asks b l t c act.NeedRenewals n = refl
act_asks b l t c (act.SetUp message need len) n = refl
act_asks b l t c (act.Renewed message need len) n = refl
act_asks b l t c (act.Repeated message need len) n = refl
act_asks b l t c (act.Push info) n = refl
act_asks b l t c (act.Message m) n = refl
act_asks b l t c (act.Monitor v) n = refl
act_asks b l t c (act.Watch message need len) n = refl
act_asks b l t c act.Close n = refl
act_asks b l t c (act.Write bytes) n = refl
act_asks b l t c (act.Wait m kind) n = kept (m == n) (waits (b.story n) kind) (b.story n) refl
act_asks b l t c (act.Start message m need len) n = kept (m == n) (tried (b.story n) l message) (b.story n) refl
act_asks b l t c (act.Outcome m o) n = kept (m == n) (answered (b.story n) o) (b.story n) refl

-- an outcome confirms a call for both
confirmed_alike : (b : Book) (s : Subscriptions) (n : ℕ) (o : Outcome) → HasInformed b s → confirmed_behind s.calls n o ≡ confirmed (b.story n).submission o
confirmed_alike b s n outcome.Done h = h.calls n
confirmed_alike b s n (outcome.One value) h = refl
confirmed_alike b s n (outcome.Many values) h = refl
confirmed_alike b s n (outcome.Fault e) h = refl

-- any other act leaves it
quiet_act : (b c : Book) (s : Subscriptions) → c.tracked ≡ b.tracked → c.submissions ≡ b.submissions → ((n : ℕ) → (c.story n).submission ≡ (b.story n).submission) → HasInformed b s → HasInformed c s
quiet_act b c s tracked submissions asked h = alike_informed b c s (record { tracked = tracked; submissions = submissions; asked = asked }) h

-- so each is heeded
act_informed : (b : Book) (l t c : ℕ) (s : Subscriptions) (a : LinkAct) → HasInformed b s → HasInformed (entered b (shown l t c a)) (tracked_by s a)
act_informed b l t c s (act.Outcome n o) h =
    let a = act.Outcome n o in
    let same : (tracked_by s a).calls ≡ s.calls = calls_each s (a ∷ []) in
    record {
      held = one_tracked s b.tracked a h.held ∙ ap (λ (more : List Request). held_after (b.tracked ++ more)) (confirmed_alike b s n o h);
      counted = ap (λ (cs : List (Option Call)). length cs) same ∙ h.counted;
      calls = λ m. ap (λ (cs : List (Option Call)). request_of (slice_get cs m)) same ∙ h.calls m ∙ ap calls_in (sym (act_asks b l t c a m));
    }
act_informed b l t c s (act.Created e) h = quiet_act b _ s refl refl (act_asks b l t c (act.Created e)) h
act_informed b l t c s (act.Round m) h = quiet_act b _ s refl refl (act_asks b l t c (act.Round m)) h
act_informed b l t c s (act.Took m count) h = quiet_act b _ s refl refl (act_asks b l t c (act.Took m count)) h
act_informed b l t c s (act.Timer m ms) h = quiet_act b _ s refl refl (act_asks b l t c (act.Timer m ms)) h
act_informed b l t c s (act.RenewalTimer k ms) h = quiet_act b _ s refl refl (act_asks b l t c (act.RenewalTimer k ms)) h
act_informed b l t c s (act.RepeatTimer ms) h = quiet_act b _ s refl refl (act_asks b l t c (act.RepeatTimer ms)) h
act_informed b l t c s act.NeedCreds h = quiet_act b _ s refl refl (act_asks b l t c act.NeedCreds) h
act_informed b l t c s act.NeedRenewals h = quiet_act b _ s refl refl (act_asks b l t c act.NeedRenewals) h
act_informed b l t c s (act.SetUp message need len) h = quiet_act b _ s refl refl (act_asks b l t c (act.SetUp message need len)) h
act_informed b l t c s (act.Renewed message need len) h = quiet_act b _ s refl refl (act_asks b l t c (act.Renewed message need len)) h
act_informed b l t c s (act.Repeated message need len) h = quiet_act b _ s refl refl (act_asks b l t c (act.Repeated message need len)) h
act_informed b l t c s (act.Push info) h = quiet_act b _ s refl refl (act_asks b l t c (act.Push info)) h
act_informed b l t c s (act.Message m) h = quiet_act b _ s refl refl (act_asks b l t c (act.Message m)) h
act_informed b l t c s (act.Monitor v) h = quiet_act b _ s refl refl (act_asks b l t c (act.Monitor v)) h
act_informed b l t c s (act.Watch message need len) h = quiet_act b _ s refl refl (act_asks b l t c (act.Watch message need len)) h
act_informed b l t c s act.Close h = quiet_act b _ s refl refl (act_asks b l t c act.Close) h
act_informed b l t c s (act.Write bytes) h = quiet_act b _ s refl refl (act_asks b l t c (act.Write bytes)) h
act_informed b l t c s (act.Wait m kind) h = quiet_act b _ s refl refl (act_asks b l t c (act.Wait m kind)) h
act_informed b l t c s (act.Start message m need len) h = quiet_act b _ s refl refl (act_asks b l t c (act.Start message m need len)) h

-- so are all
acts_informed : (b : Book) (l t c : ℕ) (s : Subscriptions) (acts : List LinkAct) → HasInformed b s → HasInformed (entered_each b (shown_each l t c acts)) (tracked_each s acts)
acts_informed b l t c s [] h = h
acts_informed b l t c s (a ∷ acts) h =
    acts_informed (entered b (shown l t c a)) l (t + length (timer_of l a)) (c + length (source_of l a)) (tracked_by s a) acts (act_informed b l t c s a h)

-- bytes that are offered leave what is known, and so do waits
pub write_alike : (b : Book) (l t c : ℕ) (bytes : List ℕ) → AsksAlike b (entered b (shown l t c (act.Write bytes)))
write_alike b l t c bytes = record { tracked = refl; submissions = refl; asked = act_asks b l t c (act.Write bytes) }

pub wait_alike : (b : Book) (l t c n : ℕ) (kind : WaitKind) → AsksAlike b (entered b (shown l t c (act.Wait n kind)))
wait_alike b l t c n kind = record { tracked = refl; submissions = refl; asked = act_asks b l t c (act.Wait n kind) }

-- an event
--
-- a submission is the call that it is
one_call : (what : Submission) → request_of (Some (call_of what)) ≡ calls_of what
one_call (submission.Subscription what names) = refl
one_call (submission.Cmd args) = refl
one_call (submission.NoReply args) = refl
one_call (submission.Pipe commands) = refl
one_call (submission.Multi commands) = refl
one_call (submission.Packed offset count commands) = refl
one_call (submission.Ping message) = refl

-- what stands in a list with one more: that at its end, and else the same
get_end : {X : Type 0} (xs : List X) (x : X) → slice_get (xs ++ x ∷ []) (length xs) ≡ Some x
get_end [] x = refl
get_end (y ∷ xs) x = get_end xs x

get_else : {X : Type 0} (xs : List X) (x : X) (n : ℕ) → n ≢ length xs → slice_get (xs ++ x ∷ []) n ≡ slice_get xs n
get_else [] x zero other = absurd (other refl)
get_else [] x (suc n) other = refl
get_else (y ∷ xs) x zero other = refl
get_else (y ∷ xs) x (suc n) other = get_else xs x n (λ e. other (ap suc e))

-- one more comes
submit_informed : (b : Book) (number word : ℕ) (what : Submission) (s : Subscriptions) → HasInformed b s → HasInformed (entered b (action.Turn number (cause.Event (record { word = word; kind = event.Submit what })))) (record s { calls = s.calls ++ call_of what ∷ [] })
submit_informed b number word what s h =
    let more = s.calls ++ call_of what ∷ [] in
    record {
      held = h.held;
      counted = length-append s.calls (call_of what ∷ []) ∙ ap (λ n. n + 1) h.counted;
      calls = λ n. by_test (b.submissions == n) _
          (λ t.
          let here : length s.calls ≡ n = h.counted ∙ eq_from b.submissions n t in
          ap (λ k. request_of (slice_get more k)) (sym here) ∙ ap request_of (get_end s.calls (call_of what)) ∙ one_call what
          ∙ sym (ap (λ (x : Story). calls_in x.submission) (taken_if (b.submissions == n) (handed b n what) (b.story n) t)))
          (λ f.
          let other : n ≢ length s.calls = λ e. ne_from b.submissions n f (sym h.counted ∙ sym e) in
          ap request_of (get_else s.calls (call_of what) n other) ∙ h.calls n
          ∙ sym (ap (λ (x : Story). calls_in x.submission) (left_if (b.submissions == n) (handed b n what) (b.story n) f)));
    }
  where
    handed : Book → ℕ → Submission → Story
    handed b n what = handed_in (b.story n) what b.shut (is_unspoken b what) (max 1 b.generation) b.current b.timeout

-- of any other event none comes
other_informed : (b c : Book) (s : Subscriptions) → c.tracked ≡ b.tracked → c.submissions ≡ b.submissions + 0 → ((n : ℕ) → (c.story n).submission ≡ (b.story n).submission) → HasInformed b s → HasInformed c s
other_informed b c s tracked submissions asked h = quiet_act b c s tracked (submissions ∙ (let e : b.submissions + 0 ≡ b.submissions = omega arith in e)) asked h

-- so the turn of an event leaves it
turn_informed : (b : Book) (number word : ℕ) (kind : EventKind) (s : Subscriptions) → HasInformed b s → HasInformed (entered b (action.Turn number (cause.Event (record { word = word; kind = kind })))) (record s { calls = asked_by s.calls kind })
turn_informed b number word (event.Submit what) s h = submit_informed b number word what s h
turn_informed b number word (event.Cancel m) s h = other_informed b _ s refl refl (λ n. kept (m == n) (left (b.story n)) (b.story n) (left_asks (b.story n))) h
turn_informed b number word (event.Fired t) s h = other_informed b _ s refl refl (λ n. kept (is_clock_of n (slice_get b.timers t)) (fires (b.story n)) (b.story n) (fires_asks (b.story n))) h
turn_informed b number word (event.Connected l) s h = other_informed b _ s refl refl (λ n. refl) h
turn_informed b number word (event.Refused l f) s h = other_informed b _ s refl refl (λ n. refl) h
turn_informed b number word (event.Wrote l count) s h = other_informed b _ s refl refl (λ n. refl) h
turn_informed b number word (event.Bytes l piece) s h = other_informed b _ s refl refl (λ n. refl) h
turn_informed b number word (event.Ended l) s h = other_informed b _ s refl refl (λ n. refl) h
turn_informed b number word (event.ReadFault l f) s h = other_informed b _ s refl refl (λ n. refl) h
turn_informed b number word (event.WriteFault l f) s h = other_informed b _ s refl refl (λ n. refl) h
turn_informed b number word (event.Timeout ms) s h = other_informed b _ s refl refl (λ n. refl) h
turn_informed b number word (event.Creds c auth) s h = other_informed b _ s refl refl (λ n. refl) h
turn_informed b number word (event.CredsError c text) s h = other_informed b _ s refl refl (λ n. refl) h
turn_informed b number word (event.CredsEnd c) s h = other_informed b _ s refl refl (λ n. refl) h
turn_informed b number word event.DropStream s h = other_informed b _ s refl refl (λ n. refl) h
turn_informed b number word event.Shutdown s h = other_informed b _ s refl refl (λ n. refl) h

-- and the acts that it shows
pub event_informed : (b : Book) (number word : ℕ) (kind : EventKind) (l t c : ℕ) (s : Subscriptions) (acts : List LinkAct) → HasInformed b s
    → HasInformed (entered_each (entered b (action.Turn number (cause.Event (record { word = word; kind = kind })))) (shown_each l t c acts)) (informed s kind acts)
event_informed b number word kind l t c s acts h = acts_informed _ l t c (record s { calls = asked_by s.calls kind }) acts (turn_informed b number word kind s h)
