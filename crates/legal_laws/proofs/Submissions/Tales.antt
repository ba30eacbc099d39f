-- What each submission of a legal trace was answered, and which messages it started.
use Rattle.std.proofs.Common.{◌≡◌, ◌≢◌, ◌⊎◌, inl, inr, ℕ, ◌+◌, ◌≤◌, ◌==◌, Bool, true, false, ◌&&◌, not, List, [], ◌∷◌, ◌++◌, length, Option, Some, None, if◌then◌else◌, refl, sym, ◌∙◌, subst, ap, arith, length-append}
use Rattle.std.proofs.lemmas.List.{nil_from_length}
use Rattle.std.proofs.lemmas.Bool.Decides.{nat_tests}
use Rattle.containers.proofs.Choices.{chosen, eq_from, eq_test, if_true}
use Rattle.redis_error.specs.declared.fault_kind.FaultKind.TheVariants as kind
use Rattle.redis_error.specs.declared.redis_error.RedisError.{RedisError}
use Rattle.driver_model.specs.Request.{packed_bytes}
use Rattle.redis_error.specs.declared.redis_error.RedisError.TheVariants as error
use Rattle.driver_model.specs.declared.action.Action.{Action}
use Rattle.driver_model.specs.declared.action.Action.TheVariants as action
use Rattle.driver_model.specs.declared.action.Owner.TheVariants as owner
use Rattle.driver_model.specs.declared.outcome.Outcome.{Outcome}
use Rattle.driver_model.specs.declared.outcome.Outcome.TheVariants as outcome
use Rattle.legal_trace.specs.Ledger.{Ledger, Line, End, Ending, by_shutdown, by_fault, by_opening, by_attempt, begins, noted_each}
use Rattle.legal_trace.specs.Story.{Story, Try, is_open, is_no_error, left, tried, answered, last_of, bytes_of}
use Rattle.legal_trace.specs.Owed.{owed, owed_to_try, owed_by, owed_unstarted, owed_waiting}
use Rattle.legal_trace.specs.Book.{Book, entered, lines_of, message_of}
use Rattle.legal_trace.specs.Legal.{MayAnswer, MayTell, MayStand, IsOpen}
use Rattle.legal_trace.proofs.Clocks.{timer_keeps}
use Rattle.legal_laws.proofs.Submissions.Steps.{action_keeps, fires_keeps, left_keeps}
use Rattle.legal_trace.proofs.Ledgers.{each_keeps, HasStarted, started_keeps}
use Rattle.legal_laws.proofs.Submissions.Owes.{has_bytes}
use Rattle.legal_trace.proofs.Plain.{not_empty, same_some}
use Rattle.legal_laws.proofs.Traces.Numbers.{HasStories}

-- a fault is an error
of_fault : (e : RedisError) (o : Outcome) → ◌≡◌ {A = Option Outcome} (Some (outcome.Fault e)) (Some o) → is_no_error (o ∷ []) ≡ true → ⊥
of_fault e (outcome.Fault f) owes n = cc n
of_fault e (outcome.One v) owes n = cc owes
of_fault e (outcome.Many vs) owes n = cc owes
of_fault e outcome.Done owes n = cc owes

-- what an end owes is a fault, if anything
end_owes_a_fault : (why : Ending) (o : Outcome) → owed_by why ≡ Some o → is_no_error (o ∷ []) ≡ true → ⊥
end_owes_a_fault by_shutdown o owes n = of_fault error.Closed o owes n
end_owes_a_fault (by_fault f) o owes n = of_fault error.Closed o owes n
end_owes_a_fault (by_opening e) o owes n = of_fault e o owes n
end_owes_a_fault (by_attempt e) o owes n = cc owes

-- so what is owed where a link has ended
over_owes_a_fault : (end : Option End) (o : Outcome) → owed_unstarted end ≡ Some o → is_no_error (o ∷ []) ≡ true → ⊥
over_owes_a_fault None o owes n = cc owes
over_owes_a_fault (Some end) o owes n = end_owes_a_fault end.why o owes n

-- or where everything is shut down
waiting_owes_a_fault : (shut : Bool) (l : Ledger) (o : Outcome) → owed_waiting shut l ≡ Some o → is_no_error (o ∷ []) ≡ true → ⊥
waiting_owes_a_fault shut l o = chosen (λ (x : Option Outcome). x ≡ Some o → is_no_error (o ∷ []) ≡ true → ⊥) (shut && not l.asked) (Some (outcome.Fault error.Closed)) (owed_unstarted l.end) (λ t. of_fault error.Closed o) (λ f. over_owes_a_fault l.end o)

-- one that started no message is owed a fault, if anything
a_fault_only : (late unspoken empty overdue : Bool) (w x y z : RedisError) (shut : Bool) (l : Ledger) (o : Outcome)
    → (if late then Some (outcome.Fault w) else if unspoken then Some (outcome.Fault x) else if empty then Some (outcome.Fault y) else if overdue then Some (outcome.Fault z) else owed_waiting shut l) ≡ Some o
    → is_no_error (o ∷ []) ≡ true → ⊥
a_fault_only true unspoken empty overdue w x y z shut l o owes n = of_fault w o owes n
a_fault_only false true empty overdue w x y z shut l o owes n = of_fault x o owes n
a_fault_only false false true overdue w x y z shut l o owes n = of_fault y o owes n
a_fault_only false false false true w x y z shut l o owes n = of_fault z o owes n
a_fault_only false false false false w x y z shut l o owes n = waiting_owes_a_fault shut l o owes n

-- so what it is owed is an error
pub unstarted_gets_a_fault : (b : Book) (n : ℕ) (o : Outcome) → (b.story n).tries ≡ [] → owed b n ≡ Some o → is_no_error (o ∷ []) ≡ true → ⊥
unstarted_gets_a_fault b n o none owes =
    a_fault_only (b.story n).late (b.story n).unspoken (length (bytes_of (b.story n)) == 0) (b.story n).overdue error.Closed error.Resp3Required error.EmptyCommand (error.Io kind.TimedOut) b.shut (b.link (b.story n).link) o
    (subst (λ (ts : List Try). (if (b.story n).late then Some (outcome.Fault error.Closed) else if (b.story n).unspoken then Some (outcome.Fault error.Resp3Required) else if length (bytes_of (b.story n)) == 0 then Some (outcome.Fault error.EmptyCommand)
    else if (b.story n).overdue then Some (outcome.Fault (error.Io kind.TimedOut)) else owed_to_try b (b.story n) (last_of ts)) ≡ Some o) none owes)

-- it has one outcome at most, and bytes where that is no error and it has not started
pub record IsAnsweredOnce (outcomes : List Outcome) (tries : List Try) (bytes : List ℕ) : Type 0 where
  pub once : length outcomes ≤ 1
  pub told : is_no_error outcomes ≡ true → tries ≡ [] → bytes ≢ []

-- so it is of a story
abbrev pub AnsweredOnce : Story → Type 0
AnsweredOnce s = IsAnsweredOnce s.outcomes s.tries (bytes_of s)

-- an open submission has no outcome
pub open_has_none : (s : Story) → is_open s ≡ true → s.outcomes ≡ []
open_has_none s h = nil_from_length s.outcomes (grind (nat_tests, arith, h))

-- without outcomes
unanswered : (os : List Outcome) (tries : List Try) (bytes : List ℕ) → os ≡ [] → IsAnsweredOnce os tries bytes
unanswered os tries bytes none = record { once = omega (arith, ap length none); told = λ e t. absurd (let x : false ≡ true = sym (ap is_no_error none) ∙ e in cc x) }

-- with the first
first_outcome : (b : Book) (n : ℕ) (o : Outcome) → IsOpen b n → ((b.story n).tries ≡ [] → is_no_error (o ∷ []) ≡ true → bytes_of (b.story n) ≢ []) → AnsweredOnce (answered (b.story n) o)
first_outcome b n o asked bytes =
    let none : (b.story n).outcomes ≡ [] = open_has_none (b.story n) asked in
    let one : (b.story n).outcomes ++ o ∷ [] ≡ o ∷ [] = ap (λ (os : List Outcome). os ++ o ∷ []) none in
    record { once = omega (arith, ap length one); told = λ e t. bytes t (sym (ap is_no_error one) ∙ e) }

-- so with each outcome that may stand
outcome_once : (b : Book) (n : ℕ) (o : Outcome) → MayAnswer b n o ⊎ MayTell b n o → AnsweredOnce (answered (b.story n) o)
outcome_once b n o (inl owes) = first_outcome b n o owes.asked (λ t e. absurd (unstarted_gets_a_fault b n o t owes.owes e))
outcome_once b n o (inr told) = first_outcome b n o told.asked (λ t e. has_bytes b (b.story n) (told.begun.applied.shown.answered n told.asked))

-- a start answers none
started_once : (s : Story) (l k : ℕ) → AnsweredOnce s → AnsweredOnce (tried s l k)
started_once s l k h = record { once = h.once; told = λ e t. absurd (not_empty s.tries (record { link = l; message = k }) t) }

-- each stays so
pub once_kept : (b : Book) (a : Action) → MayStand b a → HasStories b → (n : ℕ) → AnsweredOnce (b.story n) → AnsweredOnce ((entered b a).story n)
once_kept b a may blank n h =
    action_keeps AnsweredOnce b a n (record {
      events = record {
        handed = λ what t. let e : b.submissions ≡ n = eq_from b.submissions n t in unanswered (b.story n).outcomes (b.story n).tries (packed_bytes what) (ap (λ (s : Story). s.outcomes) (blank n (omega arith)));
        left = left_keeps AnsweredOnce (b.story n) (λ o. h) h;
        fired = λ t c. fires_keeps AnsweredOnce (b.story n) (λ o. h) h;
      };
      timed = λ t ms what e. timer_keeps AnsweredOnce b n t what (λ r o. h) (λ c. h) h;
      held = λ l count round e. h;
      rounded = h;
      waited = λ kind. h;
      started = λ l k round count len e. started_once (b.story n) l k h;
      answered = λ o e. outcome_once b n o (subst (MayStand b) e may);
    }) h

-- each message that it started last stands among those of its link
abbrev pub TriesAreStarted : (ℕ → Ledger) → Story → Type 0
TriesAreStarted link s = (t : Try) → last_of s.tries ≡ Some t → HasStarted t.message (link t.link)

-- links go on
links_go_on : (b : Book) (a : Action) (s : Story) → TriesAreStarted b.link s → TriesAreStarted (entered b a).link s
links_go_on b a s h t e = each_keeps (HasStarted t.message) (started_keeps t.message) (b.link t.link) (lines_of b t.link a) (h t e)

-- the last is what stands behind
pub last_behind : (ts : List Try) (t : Try) → last_of (ts ++ t ∷ []) ≡ Some t
last_behind [] t = refl
last_behind (u ∷ []) t = refl
last_behind (u ∷ v ∷ ts) t = last_behind (v ∷ ts) t

-- the one that starts is the next
starts_next : (b : Book) (l k n count len : ℕ) (round : ℕ) → k ≡ length (b.link l).starts → TriesAreStarted (entered b (action.Start l k (owner.Try n round) count len)).link (tried (b.story n) l k)
starts_next b l k n count len round next t e =
    let it : record { link = l; message = k } ≡ t = same_some (record { link = l; message = k }) t (sym (last_behind (b.story n).tries (record { link = l; message = k })) ∙ e) in
    subst (λ (u : Try). HasStarted u.message ((entered b (action.Start l k (owner.Try n round) count len)).link u.link)) it
    (let longer : length ((b.link l).starts ++ message_of b l (owner.Try n round) ∷ []) ≡ length (b.link l).starts + 1 = length-append (b.link l).starts (message_of b l (owner.Try n round) ∷ []) in
    if_true (λ (lines : List Line). HasStarted k (noted_each (b.link l) lines)) (l == l) (begins (message_of b l (owner.Try n round)) ∷ []) [] (eq_test l l refl) (omega arith))

-- what an action does to a story, over whichever links
tries_kept : (b : Book) (a : Action) → MayStand b a → (n : ℕ) → TriesAreStarted (entered b a).link (b.story n) → TriesAreStarted (entered b a).link ((entered b a).story n)
tries_kept b a may n h =
    action_keeps (TriesAreStarted (entered b a).link) b a n (record {
      events = record {
        handed = λ what t. h;
        left = left_keeps (TriesAreStarted (entered b a).link) (b.story n) (λ o. h) h;
        fired = λ t c. fires_keeps (TriesAreStarted (entered b a).link) (b.story n) (λ o. h) h;
      };
      timed = λ t ms what e. timer_keeps (TriesAreStarted (entered b a).link) b n t what (λ r o. h) (λ c. h) h;
      held = λ l count round e. h;
      rounded = h;
      waited = λ kind. h;
      started = λ l k round count len e. subst (λ (x : Action). TriesAreStarted (entered b x).link (tried (b.story n) l k)) (sym e) (starts_next b l k n count len round (subst (MayStand b) e may).1.next);
      answered = λ o e. h;
    }) h

-- each stays so
pub starts_kept : (b : Book) (a : Action) → MayStand b a → (n : ℕ) → TriesAreStarted b.link (b.story n) → TriesAreStarted (entered b a).link ((entered b a).story n)
starts_kept b a may n h = tries_kept b a may n (links_go_on b a (b.story n) h)
