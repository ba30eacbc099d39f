-- Where nothing begins any more, and how long attempts are waited behind.
use Rattle.std.proofs.Common.{◌≡◌, ℕ, ◌+◌, ◌==◌, ◌<◌, ◌≤◌, Bool, true, false, ◌&&◌, List, [], ◌∷◌, ◌++◌, append_assoc, Option, None, Some, nat_lt, refl, sym, ap, subst, ◌∙◌, if◌then◌else◌, arith}
use Rattle.std.proofs.lemmas.List.{append-nil}
use Rattle.redis_error.specs.declared.redis_error.RedisError.{RedisError}
use Rattle.manager_generations.specs.declared.act.ManagerAct.{ManagerAct}
use Rattle.manager_generations.specs.declared.act.ManagerAct.TheVariants as act
use Rattle.manager_generations.specs.declared.generations.Generations.{Generations}
use Rattle.manager_generations.specs.declared.phase.Phase.{Phase}
use Rattle.manager_generations.specs.declared.phase.Phase.TheVariants.{Idle, Opening, Resting, Resubscribing, Ready, Lost, Failed}
use Rattle.manager_generations.specs.Phases.{is_failed, is_resting}
use Rattle.manager_generations.specs.Generations.{shown, bounded, connect_within, rests, has_attempts, set_up_at, resubscribed_at, attempt_failed_at, rested, rests_behind, tried_again, lost_at, answered_with, shut_down}
use Rattle.manager_generations.specs.Moves.{Move, link_set_up, subscribed_again, opening_fails, wait_over, link_ends, answer, closes, shows, moved, moved_each, said_by, said_by_each, IsOver, IsUnmoved, StaysOver, OverBehindAShutdown, OverBehindAFailedCreation, WaitsByItsAttempt, AttemptsAscend}
use Rattle.containers.proofs.Choices.{by_test, if_true, if_false, lt_from, not_lt_from, eq_from, both_left}
use Rattle.manager_generations.proofs.Causes.{halted_stands}

-- the same generation, links and acts
record Unchanged (g h : Generations) : Type 0 where
  number : h.number ≡ g.number
  links : h.links ≡ g.links
  acts : h.acts ≡ g.acts

-- it is over, and nothing has moved
record Stays (g h : Generations) : Type 0 where
  over : IsOver h
  still : Unchanged g h

stays : (g : Generations) → IsOver g → Stays g g
stays g over = record { over = over; still = record { number = refl; links = refl; acts = refl } }

set_up_stays : (g : Generations) (subscribed : Bool) (p : Phase) → is_failed p ≡ true → IsOver g → Stays g (set_up_at g subscribed p)
set_up_stays g subscribed (Failed e) is over = stays g over
set_up_stays g subscribed Idle is over = stays g over
set_up_stays g subscribed Opening is over = absurd (let no : false ≡ true = is in cc)
set_up_stays g subscribed Resting is over = stays g over
set_up_stays g subscribed Resubscribing is over = stays g over
set_up_stays g subscribed Ready is over = stays g over
set_up_stays g subscribed Lost is over = stays g over

resubscribed_stays : (g : Generations) (p : Phase) → is_failed p ≡ true → IsOver g → Stays g (resubscribed_at g p)
resubscribed_stays g (Failed e) is over = stays g over
resubscribed_stays g Idle is over = stays g over
resubscribed_stays g Opening is over = stays g over
resubscribed_stays g Resting is over = stays g over
resubscribed_stays g Resubscribing is over = absurd (let no : false ≡ true = is in cc)
resubscribed_stays g Ready is over = stays g over
resubscribed_stays g Lost is over = stays g over

failed_stays : (g : Generations) (e : RedisError) (draw : ℕ) (p : Phase) → is_failed p ≡ true → IsOver g → Stays g (attempt_failed_at g e draw p)
failed_stays g e draw (Failed f) is over = stays g over
failed_stays g e draw Idle is over = stays g over
failed_stays g e draw Opening is over = absurd (let no : false ≡ true = is in cc)
failed_stays g e draw Resting is over = stays g over
failed_stays g e draw Resubscribing is over = stays g over
failed_stays g e draw Ready is over = stays g over
failed_stays g e draw Lost is over = stays g over

lost_stays : (g : Generations) (p : Phase) → is_failed p ≡ true → IsOver g → Stays g (lost_at g p)
lost_stays g (Failed e) is over = stays g over
lost_stays g Idle is over = stays g over
lost_stays g Opening is over = stays g over
lost_stays g Resting is over = stays g over
lost_stays g Resubscribing is over = absurd (let no : false ≡ true = is in cc)
lost_stays g Ready is over = absurd (let no : false ≡ true = is in cc)
lost_stays g Lost is over = stays g over

-- what has failed doesn't wait
no_rest : (p : Phase) (a b c : Bool) → is_failed p ≡ true → (is_resting p && a && b && c) ≡ false
no_rest (Failed e) a b c is = refl
no_rest Idle a b c is = refl
no_rest Opening a b c is = refl
no_rest Resting a b c is = absurd (let no : false ≡ true = is in cc)
no_rest Resubscribing a b c is = refl
no_rest Ready a b c is = refl
no_rest Lost a b c is = refl

unrested : (g : Generations) (number attempt : ℕ) → rests_behind g number attempt ≡ false → rested g number attempt ≡ g
unrested g number attempt none = ap (λ (b : Bool). if b then tried_again g else g) none

rested_stays : (g : Generations) (number attempt : ℕ) → IsOver g → Stays g (rested g number attempt)
rested_stays g number attempt over =
    subst (Stays g) (sym (unrested g number attempt (no_rest g.phase (g.number == number) (g.attempt == attempt) (has_attempts g) over.failed))) (stays g over)

-- it is over, and nothing was shown but these
record Still (g h : Generations) (acts : List ManagerAct) : Type 0 where
  over : IsOver h
  still : IsUnmoved g h acts

quiet : (g h : Generations) → Stays g h → Still g h []
quiet g h s = record { over = s.over; still = record { number = s.still.number; links = s.still.links; said = s.still.acts ∙ sym (append-nil g.acts) } }

answer_stays : (g : Generations) (e : RedisError) → IsOver g → Stays g (answered_with g e)
answer_stays g e over = record { over = record { halted = over.halted; failed = over.failed }; still = record { number = refl; links = refl; acts = refl } }

shut_stays : (g : Generations) → Stays g (shut_down g)
shut_stays g = record { over = record { halted = refl; failed = refl }; still = record { number = refl; links = refl; acts = refl } }

move_stays : (g : Generations) (m : Move) → IsOver g → Still g (moved g m) (said_by m)
move_stays g (link_set_up subscribed) over = quiet g (set_up_at g subscribed g.phase) (set_up_stays g subscribed g.phase over.failed over)
move_stays g subscribed_again over = quiet g (resubscribed_at g g.phase) (resubscribed_stays g g.phase over.failed over)
move_stays g (opening_fails e draw) over = quiet g (attempt_failed_at g e draw g.phase) (failed_stays g e draw g.phase over.failed over)
move_stays g (wait_over number attempt) over = quiet g (rested g number attempt) (rested_stays g number attempt over)
move_stays g link_ends over = quiet g (lost_at g g.phase) (lost_stays g g.phase over.failed over)
move_stays g (answer e) over = quiet g (answered_with g e) (answer_stays g e over)
move_stays g closes over = quiet g (shut_down g) (shut_stays g)
move_stays g (shows a) over = record { over = record { halted = over.halted; failed = over.failed }; still = record { number = refl; links = refl; said = refl } }

onward : (g h i : Generations) (some more : List ManagerAct) → IsUnmoved g h some → IsUnmoved h i more → IsUnmoved g i (some ++ more)
onward g h i some more first second = record {
  number = second.number ∙ first.number;
  links = second.links ∙ first.links;
  said = second.said ∙ ap (λ (acts : List ManagerAct). acts ++ more) first.said ∙ append_assoc g.acts some more;
}

each_stays : (g : Generations) (ms : List Move) → IsOver g → Still g (moved_each g ms) (said_by_each ms)
each_stays g [] over = quiet g g (stays g over)
each_stays g (m ∷ more) over =
    let first = move_stays g m over in
    let others = each_stays (moved g m) more first.over in
    record { over = others.over; still = onward g (moved g m) (moved_each (moved g m) more) (said_by m) (said_by_each more) first.still others.still }

pub stays_over : StaysOver
stays_over g ms over =
    let all = each_stays g ms over in
    let whole = subst (λ (h : Generations). Still g h (said_by_each ms)) (sym (halted_stands (moved_each g ms) all.over.halted)) all in
    (whole.over, whole.still)

pub over_shut : OverBehindAShutdown
over_shut g = record { halted = refl; failed = refl }

not_below : (m n : ℕ) → n ≤ m → nat_lt m n ≡ false
not_below m n h = by_test (nat_lt m n) (nat_lt m n ≡ false) (λ t. absurd (let l = lt_from m n t in omega arith)) (λ f. f)

below : (m n : ℕ) → m < n → nat_lt m n ≡ true
below m n h = by_test (nat_lt m n) (nat_lt m n ≡ true) (λ t. t) (λ f. absurd (let l = not_lt_from m n f in omega arith))

-- the last attempt of a manager that isn't made yet
pub over_failed : OverBehindAFailedCreation
over_failed g e draw is unmade last =
    subst (λ (p : Phase). IsOver (attempt_failed_at g e draw p)) (sym is)
    (if_false IsOver (has_attempts g) _ _ (not_below g.attempt g.settings.config.number_of_retries last)
    (if_false IsOver g.created _ _ unmade (record { halted = refl; failed = refl })))

pub waits : WaitsByItsAttempt
waits g e draw is left =
    subst (λ (p : Phase). (attempt_failed_at g e draw p).acts ≡ (rests g draw).acts) (sym is)
    (if_true (λ (x : Generations). x.acts ≡ (rests g draw).acts) (has_attempts g) _ _ (below g.attempt g.settings.config.number_of_retries left) refl)

bounded_attempt : (g : Generations) (link : ℕ) (ms : Option ℕ) → (bounded g link ms).attempt ≡ g.attempt
bounded_attempt g link None = refl
bounded_attempt g link (Some ms) = refl

dialed_attempt : (g : Generations) → (bounded (shown (record g { links = g.links + 1; phase = Opening }) (act.Connect g.links)) g.links (connect_within g)).attempt ≡ g.attempt
dialed_attempt g = bounded_attempt (shown (record g { links = g.links + 1; phase = Opening }) (act.Connect g.links)) g.links (connect_within g)

same_attempt : (x y z : Bool) (a b : ℕ) → (x && y && (a == b) && z) ≡ true → a ≡ b
same_attempt true true z a b is = eq_from a b (both_left (a == b) z is)
same_attempt true false z a b is = absurd (let no : false ≡ true = is in cc)
same_attempt false y z a b is = absurd (let no : false ≡ true = is in cc)

next_attempt : (g : Generations) (number attempt : ℕ) → rests_behind g number attempt ≡ true → (rested g number attempt).attempt ≡ g.attempt + 1
next_attempt g number attempt is =
    if_true (λ (x : Generations). x.attempt ≡ g.attempt + 1) (rests_behind g number attempt) _ _ is
    (dialed_attempt (record g { attempt = g.attempt + 1 }))

pub ascend : AttemptsAscend
ascend g number attempt = (
  dialed_attempt (shown (record g { number = g.number + 1; attempt = 0; due = false }) (act.Generation (g.number + 1))),
  (λ is. next_attempt g number attempt is ∙ ap (λ (n : ℕ). n + 1) (same_attempt (is_resting g.phase) (g.number == number) (has_attempts g) g.attempt attempt is)),
  (λ none. unrested g number attempt none),
)
