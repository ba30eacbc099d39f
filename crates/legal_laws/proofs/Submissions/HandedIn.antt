-- Each submission that the events hand in, and that nobody cancels, is answered.
use Rattle.std.proofs.Common.{◌≡◌, ℕ, ◌+◌, ◌<◌, ◌≤◌, ◌==◌, nat_le, max, Bool, true, false, ◌&&◌, ◌||◌, List, [], ◌∷◌, ◌++◌, length, Option, Some, None, is_some, refl, sym, ap, ◌∙◌, subst, arith}
use Rattle.std.specs.Prelude.{slice_get}
use Rattle.containers.proofs.Choices.{by_test, chosen, eq_test, le_from, not_le_from, taken_if}
use Rattle.driver_model.specs.declared.action.Action.{Action}
use Rattle.driver_model.specs.declared.action.Action.TheVariants as action
use Rattle.driver_model.specs.declared.action.Cause.{Cause}
use Rattle.driver_model.specs.declared.action.Cause.TheVariants as cause
use Rattle.driver_model.specs.declared.action.Owner.TheVariants as owner
use Rattle.driver_model.specs.declared.action.Purpose.{Purpose}
use Rattle.driver_model.specs.declared.config.Config.{Config}
use Rattle.driver_model.specs.declared.event.Event.{Event}
use Rattle.driver_model.specs.declared.event.EventKind.{EventKind}
use Rattle.driver_model.specs.declared.event.EventKind.TheVariants as event
use Rattle.driver_model.specs.declared.event.Submission.{Submission}
use Rattle.driver_model.specs.declared.outcome.Outcome.{Outcome}
use Rattle.legal_trace.specs.Book.{Book, after_event, after_timer, blank_book, book, entered, entered_each, if_own, is_clock_of, is_rest, is_unspoken, shuts, submitted_by}
use Rattle.legal_trace.specs.Legal.{Legal, causes, event_causes}
use Rattle.legal_trace.specs.Story.{Story, answered, blank_story, carried, clocked, fires, handed_in, holds, is_open, left, rounds, tried, waits}
use Rattle.legal_laws.specs.Answers.{AnswersEach, cancels, is_cancel, shuts_down, submissions_of}
use Rattle.legal_laws.proofs.Submissions.Answers.{exactly_one}
use Rattle.legal_laws.proofs.Submissions.Steps.{action_keeps, fires_keeps, left_keeps}

-- what the causes of turns say: whether one shuts everything down, whether one cancels, and how many submissions they hand in
abbrev shut_by : List Cause → Bool
shut_by [] = false
shut_by (cause.Opening config word ∷ more) = shut_by more
shut_by (cause.Event e ∷ more) = shuts e.kind || shut_by more

abbrev cancelled_by : List Cause → Bool
cancelled_by [] = false
cancelled_by (cause.Opening config word ∷ more) = cancelled_by more
cancelled_by (cause.Event e ∷ more) = is_cancel e.kind || cancelled_by more

abbrev handed_by : List Cause → ℕ
handed_by [] = 0
handed_by (cause.Opening config word ∷ more) = handed_by more
handed_by (cause.Event e ∷ more) = submitted_by e.kind + handed_by more

-- a test that may be left out
or_none : (b : Bool) → (b || false) ≡ b
or_none true = refl
or_none false = refl

or_thrice : (a b c : Bool) → ((a || b) || c) ≡ (a || (b || c))
or_thrice true b c = refl
or_thrice false b c = refl

pub or_left : (a b : Bool) → (a || b) ≡ false → a ≡ false
or_left true b e = absurd (cc e)
or_left false b e = refl

pub or_right : (a b : Bool) → (a || b) ≡ false → b ≡ false
or_right true b e = absurd (cc e)
or_right false b e = e

-- what an action says of these, where `cs` is its cause, if it has one
record Counts (b : Book) (a : Action) : Type 0 where
  cs : List Cause
  said : (more : List Action) → causes (a ∷ more) ≡ cs ++ causes more
  shut : (more : List Cause) → ((entered b a).shut || shut_by more) ≡ (b.shut || shut_by (cs ++ more))
  count : (more : List Cause) → (entered b a).submissions + handed_by more ≡ b.submissions + handed_by (cs ++ more)
  stays : (more : List Cause) → cancelled_by (cs ++ more) ≡ false → (cancelled_by more ≡ false) × ((n : ℕ) → ((entered b a).story n).cancelled ≡ (b.story n).cancelled)
  new : (n : ℕ) → b.submissions ≤ n → n < (entered b a).submissions → is_some ((entered b a).story n).submission ≡ true

-- one without a cause says nothing
still : (b : Book) (a : Action) → ((more : List Action) → causes (a ∷ more) ≡ causes more) → (entered b a).shut ≡ b.shut → (entered b a).submissions ≡ b.submissions
    → ((n : ℕ) → ((entered b a).story n).cancelled ≡ (b.story n).cancelled) → Counts b a
still b a said shut count stays = record {
  cs = [];
  said = said;
  shut = λ more. ap (λ (x : Bool). x || shut_by more) shut;
  count = λ more. ap (λ (x : ℕ). x + handed_by more) count;
  stays = λ more none. (none, stays);
  new = λ n from new. absurd (omega (arith, from, new, count));
}

own_cancelled : (own : Bool) (changed s : Story) → changed.cancelled ≡ s.cancelled → (if_own own changed s).cancelled ≡ s.cancelled
own_cancelled true changed s e = e
own_cancelled false changed s e = refl

timer_cancelled : (b : Book) (n t : ℕ) (what : Purpose) → (after_timer b n t what).cancelled ≡ (b.story n).cancelled
timer_cancelled b n t what = chosen (λ (s : Story). s.cancelled ≡ (b.story n).cancelled) (is_rest what && is_open (b.story n)) (carried (b.story n) b.links) (if_own (is_clock_of n (Some what)) (clocked (b.story n) t) (b.story n))
    (λ e. refl) (λ e. own_cancelled (is_clock_of n (Some what)) (clocked (b.story n) t) (b.story n) refl)

-- an event cancels nothing that is no cancel
event_cancelled : (b : Book) (n : ℕ) (kind : EventKind) → is_cancel kind ≡ false → (after_event b n kind).cancelled ≡ (b.story n).cancelled
event_cancelled b n (event.Submit what) stays = own_cancelled (b.submissions == n) (handed_in (b.story n) what b.shut (is_unspoken b what) (max 1 b.generation) b.current b.timeout) (b.story n) refl
event_cancelled b n (event.Cancel m) stays = absurd (cc stays)
event_cancelled b n (event.Fired t) stays = own_cancelled (is_clock_of n (slice_get b.timers t)) (fires (b.story n)) (b.story n) (chosen (λ (s : Story). s.cancelled ≡ (b.story n).cancelled) (is_open (b.story n)) (record (b.story n) { overdue = true }) (b.story n) (λ e. refl) (λ e. refl))
event_cancelled b n (event.Connected l) stays = refl
event_cancelled b n (event.Refused l f) stays = refl
event_cancelled b n (event.Wrote l count) stays = refl
event_cancelled b n (event.Bytes l piece) stays = refl
event_cancelled b n (event.Ended l) stays = refl
event_cancelled b n (event.ReadFault l f) stays = refl
event_cancelled b n (event.WriteFault l f) stays = refl
event_cancelled b n (event.Creds c auth) stays = refl
event_cancelled b n (event.CredsError c text) stays = refl
event_cancelled b n (event.CredsEnd c) stays = refl
event_cancelled b n (event.Timeout ms) stays = refl
event_cancelled b n event.DropStream stays = refl
event_cancelled b n event.Shutdown stays = refl

-- and hands in what it counts
event_hands : (b : Book) (n : ℕ) (kind : EventKind) → b.submissions ≤ n → n < b.submissions + submitted_by kind → is_some (after_event b n kind).submission ≡ true
event_hands b n (event.Submit what) from new =
    let now = handed_in (b.story n) what b.shut (is_unspoken b what) (max 1 b.generation) b.current b.timeout in
    ap (λ (s : Story). is_some s.submission) (taken_if (b.submissions == n) now (b.story n) (eq_test b.submissions n (omega (arith, from, new))))
event_hands b n (event.Cancel m) from new = absurd (omega (arith, from, new))
event_hands b n (event.Fired t) from new = absurd (omega (arith, from, new))
event_hands b n (event.Connected l) from new = absurd (omega (arith, from, new))
event_hands b n (event.Refused l f) from new = absurd (omega (arith, from, new))
event_hands b n (event.Wrote l count) from new = absurd (omega (arith, from, new))
event_hands b n (event.Bytes l piece) from new = absurd (omega (arith, from, new))
event_hands b n (event.Ended l) from new = absurd (omega (arith, from, new))
event_hands b n (event.ReadFault l f) from new = absurd (omega (arith, from, new))
event_hands b n (event.WriteFault l f) from new = absurd (omega (arith, from, new))
event_hands b n (event.Creds c auth) from new = absurd (omega (arith, from, new))
event_hands b n (event.CredsError c text) from new = absurd (omega (arith, from, new))
event_hands b n (event.CredsEnd c) from new = absurd (omega (arith, from, new))
event_hands b n (event.Timeout ms) from new = absurd (omega (arith, from, new))
event_hands b n event.DropStream from new = absurd (omega (arith, from, new))
event_hands b n event.Shutdown from new = absurd (omega (arith, from, new))

-- what each action says
action_counts : (b : Book) (a : Action) → Counts b a
action_counts b (action.Turn k (cause.Opening config word)) = record {
  cs = cause.Opening config word ∷ [];
  said = λ more. refl;
  shut = λ more. refl;
  count = λ more. refl;
  stays = λ more none. (none, λ n. refl);
  new = λ n from new. absurd (omega (arith, from, new));
}
action_counts b (action.Turn k (cause.Event e)) = record {
  cs = cause.Event e ∷ [];
  said = λ more. refl;
  shut = λ more. or_thrice b.shut (shuts e.kind) (shut_by more);
  count = λ more. omega arith;
  stays = λ more none. (or_right (is_cancel e.kind) (cancelled_by more) none, λ n. event_cancelled b n e.kind (or_left (is_cancel e.kind) (cancelled_by more) none));
  new = λ n. event_hands b n e.kind;
}
action_counts b (action.Connect l host port) = still b (action.Connect l host port) (λ more. refl) refl refl (λ n. refl)
action_counts b (action.Timer t ms what) = still b (action.Timer t ms what) (λ more. refl) refl refl (λ n. timer_cancelled b n t what)
action_counts b (action.Took owner.Setup l count) = still b (action.Took owner.Setup l count) (λ more. refl) refl refl (λ n. refl)
action_counts b (action.Took owner.Auth l count) = still b (action.Took owner.Auth l count) (λ more. refl) refl refl (λ n. refl)
action_counts b (action.Took owner.Resub l count) = still b (action.Took owner.Resub l count) (λ more. refl) refl refl (λ n. refl)
action_counts b (action.Took owner.Monitor l count) = still b (action.Took owner.Monitor l count) (λ more. refl) refl refl (λ n. refl)
action_counts b (action.Took (owner.Try m round) l count) = still b (action.Took (owner.Try m round) l count) (λ more. refl) refl refl (λ n. own_cancelled (m == n) (holds (b.story n) count) (b.story n) refl)
action_counts b (action.Push l info) = still b (action.Push l info) (λ more. refl) refl refl (λ n. refl)
action_counts b (action.Message msg) = still b (action.Message msg) (λ more. refl) refl refl (λ n. refl)
action_counts b (action.Monitor v) = still b (action.Monitor v) (λ more. refl) refl refl (λ n. refl)
action_counts b (action.NeedCreds c l) = still b (action.NeedCreds c l) (λ more. refl) refl refl (λ n. refl)
action_counts b (action.Generation g) = still b (action.Generation g) (λ more. refl) refl refl (λ n. refl)
action_counts b (action.Round owner.Setup l) = still b (action.Round owner.Setup l) (λ more. refl) refl refl (λ n. refl)
action_counts b (action.Round owner.Auth l) = still b (action.Round owner.Auth l) (λ more. refl) refl refl (λ n. refl)
action_counts b (action.Round owner.Resub l) = still b (action.Round owner.Resub l) (λ more. refl) refl refl (λ n. refl)
action_counts b (action.Round owner.Monitor l) = still b (action.Round owner.Monitor l) (λ more. refl) refl refl (λ n. refl)
action_counts b (action.Round (owner.Try m round) l) = still b (action.Round (owner.Try m round) l) (λ more. refl) refl refl (λ n. own_cancelled (m == n) (rounds (b.story n)) (b.story n) refl)
action_counts b (action.Close l) = still b (action.Close l) (λ more. refl) refl refl (λ n. refl)
action_counts b (action.Write l bytes) = still b (action.Write l bytes) (λ more. refl) refl refl (λ n. refl)
action_counts b (action.Wait owner.Setup kind) = still b (action.Wait owner.Setup kind) (λ more. refl) refl refl (λ n. refl)
action_counts b (action.Wait owner.Auth kind) = still b (action.Wait owner.Auth kind) (λ more. refl) refl refl (λ n. refl)
action_counts b (action.Wait owner.Resub kind) = still b (action.Wait owner.Resub kind) (λ more. refl) refl refl (λ n. refl)
action_counts b (action.Wait owner.Monitor kind) = still b (action.Wait owner.Monitor kind) (λ more. refl) refl refl (λ n. refl)
action_counts b (action.Wait (owner.Try m round) kind) = still b (action.Wait (owner.Try m round) kind) (λ more. refl) refl refl (λ n. own_cancelled (m == n) (waits (b.story n) kind) (b.story n) refl)
action_counts b (action.Start l k owner.Setup count len) = still b (action.Start l k owner.Setup count len) (λ more. refl) refl refl (λ n. refl)
action_counts b (action.Start l k owner.Auth count len) = still b (action.Start l k owner.Auth count len) (λ more. refl) refl refl (λ n. refl)
action_counts b (action.Start l k owner.Resub count len) = still b (action.Start l k owner.Resub count len) (λ more. refl) refl refl (λ n. refl)
action_counts b (action.Start l k owner.Monitor count len) = still b (action.Start l k owner.Monitor count len) (λ more. refl) refl refl (λ n. refl)
action_counts b (action.Start l k (owner.Try m round) count len) = still b (action.Start l k (owner.Try m round) count len) (λ more. refl) refl refl (λ n. own_cancelled (m == n) (tried (b.story n) l k) (b.story n) refl)
action_counts b (action.Created e) = still b (action.Created e) (λ more. refl) refl refl (λ n. refl)
action_counts b (action.Outcome m o) = still b (action.Outcome m o) (λ more. refl) refl refl (λ n. own_cancelled (m == n) (answered (b.story n) o) (b.story n) refl)

-- who was handed in stays so
handed_stays : (b : Book) (a : Action) (n : ℕ) → is_some (b.story n).submission ≡ true → is_some ((entered b a).story n).submission ≡ true
handed_stays b a n h =
    let P : Story → Type 0 = λ (s : Story). is_some s.submission ≡ true in
    action_keeps P b a n (record {
      events = record { handed = λ what t. refl; left = left_keeps P (b.story n) (λ o. h) h; fired = λ t e. fires_keeps P (b.story n) (λ o. h) h };
      timed = λ t ms what e. chosen P (is_rest what && is_open (b.story n)) (carried (b.story n) b.links) (if_own (is_clock_of n (Some what)) (clocked (b.story n) t) (b.story n))
          (λ i. h) (λ i. chosen P (is_clock_of n (Some what)) (clocked (b.story n) t) (b.story n) (λ j. h) (λ j. h));
      held = λ l count round e. h;
      rounded = h;
      waited = λ kind. h;
      started = λ l k round count len e. h;
      answered = λ o e. h;
    }) h

-- all that a book counts were handed in
abbrev AllHandedIn : Book → Type 0
AllHandedIn b = (n : ℕ) → n < b.submissions → is_some (b.story n).submission ≡ true

all_handed : (b : Book) (a : Action) → AllHandedIn b → AllHandedIn (entered b a)
all_handed b a all n less = by_test (nat_le b.submissions n) (is_some ((entered b a).story n).submission ≡ true)
    (λ t. (action_counts b a).new n (le_from b.submissions n t) less)
    (λ f. handed_stays b a n (all n (not_le_from b.submissions n f)))

-- what the causes in a list of actions say of the book behind it
record Behind (b : Book) (trace : List Action) : Type 0 where
  shut : (entered_each b trace).shut ≡ (b.shut || shut_by (causes trace))
  count : (entered_each b trace).submissions ≡ b.submissions + handed_by (causes trace)
  stays : cancelled_by (causes trace) ≡ false → ((n : ℕ) → (b.story n).cancelled ≡ false) → (n : ℕ) → ((entered_each b trace).story n).cancelled ≡ false
  handed : AllHandedIn b → AllHandedIn (entered_each b trace)

behind : (b : Book) (trace : List Action) → Behind b trace
behind b [] = record { shut = sym (or_none b.shut); count = omega arith; stays = λ none all n. all n; handed = λ all. all }
behind b (a ∷ more) =
    let c = action_counts b a in
    let r = behind (entered b a) more in
    record {
      shut = r.shut ∙ c.shut (causes more) ∙ ap (λ (cs : List Cause). b.shut || shut_by cs) (sym (c.said more));
      count = r.count ∙ c.count (causes more) ∙ ap (λ (cs : List Cause). b.submissions + handed_by cs) (sym (c.said more));
      stays = λ none all. let k = c.stays (causes more) (ap cancelled_by (sym (c.said more)) ∙ none) in r.stays k.0 (λ n. k.1 n ∙ all n);
      handed = λ all. r.handed (all_handed b a all);
    }

-- of events
shut_events : (es : List Event) → shut_by (event_causes es) ≡ shuts_down es
shut_events [] = refl
shut_events (e ∷ es) = ap (λ (x : Bool). shuts e.kind || x) (shut_events es)

cancelled_events : (es : List Event) → cancelled_by (event_causes es) ≡ cancels es
cancelled_events [] = refl
cancelled_events (e ∷ es) = ap (λ (x : Bool). is_cancel e.kind || x) (cancelled_events es)

handed_events : (es : List Event) → handed_by (event_causes es) ≡ submissions_of es
handed_events [] = refl
handed_events (e ∷ es) = ap (λ (x : ℕ). submitted_by e.kind + x) (handed_events es)

some_of : (o : Option Submission) → is_some o ≡ true → (what : Submission) × (o ≡ Some what)
some_of None e = absurd (cc e)
some_of (Some what) e = (what, refl)

pub each_answered : AnswersEach
unfolding book
each_answered config word events trace h down none n less =
    let r = behind blank_book trace in
    let shut : (book trace).shut ≡ true = r.shut ∙ ap shut_by h.turns ∙ shut_events events ∙ down in
    let given : handed_by (causes trace) ≡ submissions_of events = ap handed_by h.turns ∙ handed_events events in
    let counted : (book trace).submissions ≡ 0 + handed_by (causes trace) = r.count in
    let stays : ((book trace).story n).cancelled ≡ false = r.stays (ap cancelled_by h.turns ∙ cancelled_events events ∙ none) (λ m. refl) n in
    let there = some_of ((book trace).story n).submission (r.handed (λ m i. absurd (omega (arith, i))) n (omega (arith, less, counted, given))) in
    exactly_one config word events trace h shut n there.0 there.1 stays
