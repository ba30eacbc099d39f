-- The timers of submissions: one at most for each, of the time that was in force where it was handed in, once it holds its permits.
use Rattle.std.proofs.Common.{◌≡◌, ◌⊎◌, inl, inr, ℕ, ◌<◌, ◌≤◌, ◌==◌, Bool, true, false, List, [], ◌∷◌, ◌++◌, Option, Some, None, is_some, refl, sym, ◌∙◌, ap, subst, arith, max}
use Rattle.containers.proofs.Choices.{not_both, if_true, eq_test, ne_test, lt_from}
use Rattle.driver_model.specs.declared.action.Action.{Action}
use Rattle.driver_model.specs.declared.action.Action.TheVariants as action
use Rattle.driver_model.specs.declared.action.Cause.TheVariants as cause
use Rattle.driver_model.specs.declared.action.Owner.TheVariants as owner
use Rattle.driver_model.specs.declared.action.Purpose.{Purpose}
use Rattle.driver_model.specs.declared.action.Purpose.TheVariants as purpose
use Rattle.driver_model.specs.declared.config.Config.{Config}
use Rattle.driver_model.specs.declared.event.Event.{Event}
use Rattle.driver_model.specs.declared.event.EventKind.{EventKind}
use Rattle.driver_model.specs.declared.event.EventKind.TheVariants as event
use Rattle.driver_model.specs.declared.event.Submission.{Submission}
use Rattle.legal_trace.specs.Story.{Story, handed_in, left, clocked, answered}
use Rattle.legal_trace.specs.Book.{is_of_connect, is_rest, Book, blank_book, book, entered, entered_each, after_event, is_unspoken}
use Rattle.legal_trace.specs.Steps.{permits_in}
use Rattle.legal_trace.proofs.Clocks.{timer_keeps}
use Rattle.legal_laws.proofs.Submissions.Steps.{action_keeps, fires_keeps, left_keeps}
use Rattle.legal_trace.specs.Legal.{MayTimer, MayTime, MayStand, AllStand, Legal}
use Rattle.legal_trace.proofs.Books.{stand_behind}
use Rattle.legal_laws.specs.Permits.{IsAsking, AsksTimers}
use Rattle.legal_laws.proofs.Links.Bounds.{ready_behind, next_may, applied_began}
use Rattle.legal_laws.proofs.Submissions.InLine.{submissions_grow}
use Rattle.legal_trace.proofs.Moves.{holds_some, asks_mean}
use Rattle.driver_model.specs.Config.{permits}

-- a timer is for new credentials of a link, or for what is subscribed again there
abbrev is_of_link : Purpose → Bool
is_of_link (purpose.Connect l) = false
is_of_link (purpose.Response who) = false
is_of_link (purpose.Renewal l k) = true
is_of_link (purpose.Backoff g) = false
is_of_link (purpose.Resubscription l) = true

-- of a timer of submission n that may be asked for
ask_of : (b : Book) (t ms n round : ℕ) → MayTimer b t ms (purpose.Response (owner.Try n round)) → (may : MayTime b t ms (purpose.Response (owner.Try n round))) × (may.n ≡ n)
ask_of b t ms n round (inl (inl may)) = absurd (let x : false ≡ true = ap is_of_connect may.is_for in cc x)
ask_of b t ms n round (inl (inr may)) = absurd (let x : false ≡ true = ap is_rest may.is_for in cc x)
ask_of b t ms n round (inr (inr (inl may))) = absurd (let x : false ≡ true = ap is_of_link may.is_for in cc x)
ask_of b t ms n round (inr (inr (inr may))) = absurd (let x : false ≡ true = ap is_of_link may.is_for in cc x)
ask_of b t ms n round (inr (inl may)) = (may, same_owner may.n n round may.is_for)
  where
    same_owner : (m n round : ℕ) → purpose.Response (owner.Try n round) ≡ purpose.Response (owner.Try m 0) → m ≡ n
    same_owner m n round e = cc e

-- it has none yet, is to be answered within that time, and holds its permits
asked_of : (b : Book) (t ms n round : ℕ) → MayTimer b t ms (purpose.Response (owner.Try n round)) → (holds_some (permits_in b.config) (b.story n).permits ≡ true) × ((b.story n).timeout ≡ Some ms) × ((b.story n).clock ≡ None)
asked_of b t ms n round may =
    let m = ask_of b t ms n round may in
    subst (λ k. (holds_some (permits_in b.config) (b.story k).permits ≡ true) × ((b.story k).timeout ≡ Some ms) × ((b.story k).clock ≡ None)) m.1 (asks_mean b m.0.n ms m.0.asks)

-- whoever has a timer keeps one
abbrev Clocked : Story → Type 0
Clocked s = is_some s.clock ≡ true

-- with each action
clock_stays : (b : Book) (a : Action) (n : ℕ) → Clocked (b.story n) → Clocked ((entered b a).story n)
clock_stays b a n h =
    action_keeps Clocked b a n (record {
      events = record {
        handed = λ what t. h;
        left = left_keeps Clocked (b.story n) (λ o. h) h;
        fired = λ t c. fires_keeps Clocked (b.story n) (λ o. h) h;
      };
      timed = λ t ms what e. timer_keeps Clocked b n t what (λ r o. h) (λ c. refl) h;
      held = λ l count round e. h;
      rounded = h;
      waited = λ kind. h;
      started = λ l k round count len e. h;
      answered = λ o e. h;
    }) h

-- and with many
each_clocked : (b : Book) (front : List Action) (n : ℕ) → Clocked (b.story n) → Clocked ((entered_each b front).story n)
each_clocked b [] n h = h
each_clocked b (a ∷ more) n h = each_clocked (entered b a) more n (clock_stays b a n h)

-- so none is asked for a second time
asked_again : (b : Book) (a : Action) (n : ℕ) → MayStand b a → IsAsking n a → (b.story n).clock ≡ None
asked_again b (action.Timer t ms (purpose.Response (owner.Try m round))) n may is = subst (λ k. (b.story k).clock ≡ None) is (asked_of b t ms m round may).2
asked_again b (action.Timer t ms (purpose.Connect l)) n may is = absurd is
asked_again b _ n may is = absurd is

-- behind that it has one
clocked_behind : (b : Book) (a : Action) (n : ℕ) → IsAsking n a → Clocked ((entered b a).story n)
clocked_behind b (action.Timer t ms (purpose.Response (owner.Try m round))) n is = if_true Clocked (m == n) (clocked (b.story n) t) (b.story n) (eq_test m n is) refl
clocked_behind b (action.Timer t ms (purpose.Connect l)) n is = absurd is
clocked_behind b _ n is = absurd is

-- so of two that are asked for, one can't be its own
once_behind : (b : Book) (middle more : List Action) (a c : Action) (n : ℕ) → AllStand b (a ∷ (middle ++ c ∷ more)) → IsAsking n a → IsAsking n c → ⊥
once_behind b middle more a c n all first second =
    let some : Clocked ((entered_each (entered b a) middle).story n) = each_clocked (entered b a) middle n (clocked_behind b a n first) in
    let none : ((entered_each (entered b a) middle).story n).clock ≡ None = asked_again (entered_each (entered b a) middle) c n (stand_behind (entered b a) middle (c ∷ more) all.1).0 second in
    let x : false ≡ true = sym (ap is_some none) ∙ some in cc x

-- a submission keeps the time within which it is to be answered
timeout_stays : (b : Book) (a : Action) (n : ℕ) → n < b.submissions → ((entered b a).story n).timeout ≡ (b.story n).timeout
timeout_stays b a n i =
    action_keeps (λ (s : Story). s.timeout ≡ (b.story n).timeout) b a n (record {
      events = record {
        handed = λ what e. absurd (not_both (b.submissions == n) (ne_test b.submissions n (omega (arith, i))) e);
        left = left_keeps (λ (s : Story). s.timeout ≡ (b.story n).timeout) (b.story n) (λ o. refl) refl;
        fired = λ t c. fires_keeps (λ (s : Story). s.timeout ≡ (b.story n).timeout) (b.story n) (λ o. refl) refl;
      };
      timed = λ t ms what e. timer_keeps (λ (s : Story). s.timeout ≡ (b.story n).timeout) b n t what (λ r o. refl) (λ c. refl) refl;
      held = λ l count round e. refl;
      rounded = refl;
      waited = λ kind. refl;
      started = λ l k round count len e. refl;
      answered = λ o e. refl;
    }) refl

-- and with many
each_timeout : (b : Book) (front : List Action) (n : ℕ) → n < b.submissions → ((entered_each b front).story n).timeout ≡ (b.story n).timeout
each_timeout b [] n i = refl
each_timeout b (a ∷ more) n i = let grows : b.submissions ≤ (entered b a).submissions = submissions_grow b a in each_timeout (entered b a) more n (omega (arith, i, grows)) ∙ timeout_stays b a n i

-- what is handed in is to be answered within the time in force
handed_in_force : (b : Book) (kind : EventKind) (s : Submission) → kind ≡ event.Submit s → (after_event b b.submissions kind).timeout ≡ b.timeout
handed_in_force b kind s e = subst (λ k. (after_event b b.submissions k).timeout ≡ b.timeout) (sym e)
    (if_true (λ (x : Story). x.timeout ≡ b.timeout) (b.submissions == b.submissions) (handed_in (b.story b.submissions) s b.shut (is_unspoken b s) (max 1 b.generation) b.current b.timeout) (b.story b.submissions) (eq_test b.submissions b.submissions refl) refl)

-- and numbered
handed_in_numbered : (b : Book) (k : ℕ) (e : Event) (s : Submission) → e.kind ≡ event.Submit s → b.submissions < (entered b (action.Turn k (cause.Event e))).submissions
handed_in_numbered b k e s is = subst (λ x. b.submissions < (entered b (action.Turn k (cause.Event (record { word = e.word; kind = x })))).submissions) (sym is) (omega arith)

-- so its timer is of that time
force_behind : (b : Book) (middle more : List Action) (k t ms round : ℕ) (e : Event) (s : Submission)
    → AllStand b (action.Turn k (cause.Event e) ∷ (middle ++ action.Timer t ms (purpose.Response (owner.Try b.submissions round)) ∷ more)) → e.kind ≡ event.Submit s → b.timeout ≡ Some ms
force_behind b middle more k t ms round e s all is =
    let after : Book = entered b (action.Turn k (cause.Event e)) in
    let asked : ((entered_each after middle).story b.submissions).timeout ≡ Some ms =
    (asked_of (entered_each after middle) t ms b.submissions round (stand_behind after middle (action.Timer t ms (purpose.Response (owner.Try b.submissions round)) ∷ more) all.1).0).1 in
    sym (handed_in_force b e.kind s is) ∙ (sym (each_timeout after middle b.submissions (handed_in_numbered b k e s is)) ∙ asked)

-- it holds its permits, where they are counted
holding_in : (limit : Option ℕ) (permits : ℕ) → holds_some limit permits ≡ true → (limit ≡ None) ⊎ (0 < permits)
holding_in None permits h = inl refl
holding_in (Some k) permits h = inr (lt_from 0 permits h)

-- so each legal trace asks for its timers
pub asks_timers : (config : Config) (word : ℕ) (events : List Event) (trace : List Action) → Legal config word events trace → AsksTimers config trace
unfolding book
asks_timers config word events trace h = record {
  once = λ front middle more a c n is first second.
      let all : AllStand blank_book (front ++ a ∷ (middle ++ c ∷ more)) = subst (AllStand blank_book) is h.each in
      once_behind (book front) middle more a c n (stand_behind blank_book front (a ∷ (middle ++ c ∷ more)) all) first second;
  in_force = λ front middle more k t ms round e s is submits.
      let rest : List Action = action.Turn k (cause.Event e) ∷ (middle ++ action.Timer t ms (purpose.Response (owner.Try (book front).submissions round)) ∷ more) in
      let all : AllStand blank_book (front ++ rest) = subst (AllStand blank_book) is h.each in
      force_behind (book front) middle more k t ms round e s (stand_behind blank_book front rest all) submits;
  holding = λ front more t ms n round is.
      let a : Action = action.Timer t ms (purpose.Response (owner.Try n round)) in
      let legal : Legal config word events (front ++ a ∷ more) = subst (Legal config word events) is h in
      let ready = ready_behind config word events front (a ∷ more) legal in
      let may : MayTimer (book front) t ms (purpose.Response (owner.Try n round)) = next_may config word events front more a legal in
      let m = ask_of (book front) t ms n round may in
      holding_in (permits config) ((book front).story n).permits
      (subst (λ o. holds_some (permits_in o) ((book front).story n).permits ≡ true) (ready.configured (applied_began (book front) ready.sound m.0.begun.applied)) (asked_of (book front) t ms n round may).0);
}
