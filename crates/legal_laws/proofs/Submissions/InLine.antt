-- Who is to start on a link behind an action was so before it, and who was admitted to its line stays in it.
use Rattle.std.proofs.Common.{◌≡◌, ◌≢◌, ◌⊎◌, inl, inr, ℕ, zero, suc, ◌<◌, ◌≤◌, ◌==◌, Bool, true, false, ◌&&◌, ◌||◌, not, List, [], ◌∷◌, ◌++◌, length, Option, None, Some, is_none, is_some, nat_lt, if◌then◌else◌, refl, sym, ◌∙◌, ap, subst, arith}
use Rattle.containers.proofs.Choices.{by_test, chosen, left_if, eq_from, ne_from, eq_test, ne_test, not_both, both_left, both_right}
use Rattle.driver_model.specs.declared.action.Action.{Action}
use Rattle.driver_model.specs.declared.action.Action.TheVariants as action
use Rattle.driver_model.specs.declared.action.Cause.TheVariants as cause
use Rattle.driver_model.specs.declared.outcome.Outcome.{Outcome}
use Rattle.driver_model.specs.declared.action.Purpose.{Purpose}
use Rattle.legal_trace.specs.Story.{Story, is_open, is_told, is_awaited, is_no_error, is_unstarted, carried, left, holds, clocked, fires, tried, answered}
use Rattle.legal_trace.specs.Book.{Book, entered, entered_each, has_generations, is_clock_of, after_timer}
use Rattle.legal_trace.specs.Steps.{permits_in, is_let_in, is_in_line, line_before}
use Rattle.legal_trace.specs.Legal.{MayStand, MayTimer, MayAnswer, MayTell, MayTake, MayStart, AllStand, current_link, is_attempt, rest_due}
use Rattle.legal_trace.proofs.Clocks.{timer_keeps, timer_own, timer_rests}
use Rattle.legal_laws.proofs.Submissions.Steps.{action_keeps}
use Rattle.legal_laws.proofs.Links.Ended.{some_end}
use Rattle.legal_laws.proofs.Generations.Lives.{attempt_is_over}
use Rattle.legal_laws.proofs.Traces.Numbers.{links_grow, over_is_numbered}
use Rattle.legal_laws.proofs.Traces.Sound.{Sound}
use Rattle.legal_trace.proofs.Plain.{not_empty}
use Rattle.legal_laws.proofs.Traces.Held.{not_open}
use Rattle.legal_trace.proofs.Moves.{has_no_tries, open_or_told, both_hold, holds_some, is_timed, takes_mean}
use Rattle.legal_laws.proofs.Submissions.Tales.{open_has_none, unstarted_gets_a_fault}

-- its message has not started, and is to start on that link
abbrev pub is_to_start : ℕ → Story → Bool
is_to_start l s = (s.link == l) && is_unstarted s

-- it was told at a place, or may take one
abbrev pub is_admitted : Option ℕ → Story → Bool
is_admitted limit s = is_told s || is_let_in limit s

-- a story behind another of the same submission that stays on its link: where its message hasn't started, who was admitted is, and who
-- holds permits and isn't told held them or takes them
pub record Stays (b : Book) (before after : Story) : Type 0 where
  pub link : after.link ≡ before.link
  pub stays : is_unstarted after ≡ true → is_admitted (permits_in b.config) before ≡ true → is_admitted (permits_in b.config) after ≡ true
  pub holds : is_unstarted after ≡ true → is_told after ≡ false → 0 < before.permits → 0 < after.permits

-- one that goes to the next link, while it is open, since an attempt failed
abbrev pub IsCarried : Book → Story → Story → Type 0
IsCarried b before after = (rest_due b ≡ true) × (is_open before ≡ true) × (after ≡ carried before b.links)

-- either: where its message hasn't started, it had not before, and what was told is told
pub record Follows (b : Book) (before after : Story) : Type 0 where
  pub unstarted : is_unstarted after ≡ true → is_unstarted before ≡ true
  pub told : is_unstarted after ≡ true → is_told before ≡ true → is_told after ≡ true
  pub on : Stays b before after ⊎ IsCarried b before after

-- each follows itself
same_story : (b : Book) (s : Story) → Follows b s s
same_story b s = record { unstarted = λ u. u; told = λ u t. t; on = inl (record { link = refl; stays = λ u e. e; holds = λ u n i. i }) }

-- what is done in any case follows
done_follows : (b : Book) (s t : Story) → t.link ≡ s.link → (is_unstarted t ≡ true → ⊥) → Follows b s t
done_follows b s t link done = record { unstarted = λ u. absurd (done u); told = λ u. absurd (done u); on = inl (record { link = link; stays = λ u. absurd (done u); holds = λ u. absurd (done u) }) }

-- one of two holds
pub first_holds : (p q : Bool) → p ≡ true → (p || q) ≡ true
first_holds true q e = refl
first_holds false q e = cc

-- so where the second does
pub second_holds : (p q : Bool) → q ≡ true → (p || q) ≡ true
second_holds true q e = refl
second_holds false q e = e

-- what is cancelled is not open
gone : (p q : Bool) → (p && q && not true) ≡ true → ⊥
gone true true e = cc e
gone true false e = cc e
gone false q e = cc e

-- an open submission whose caller goes is done
pub leaver_is_done : (s : Story) → is_open s ≡ true → is_unstarted (left s) ≡ true → ⊥
leaver_is_done s o = chosen (λ t. is_unstarted t ≡ true → ⊥) (is_open s) (record s { cancelled = true; permits = 0; waiting = None }) s
    (λ t u. elim (open_or_told (record s { cancelled = true; permits = 0; waiting = None }) u) [
      | inl still ↦ gone (is_some s.submission) (length s.outcomes == 0) still
      | inr told ↦ let x : false ≡ true = sym (ap is_no_error (open_has_none s o)) ∙ both_right (not (is_awaited s)) (is_no_error s.outcomes) told in cc x
    ])
    (λ f u. not_both (is_open s) f o)

-- where its caller goes
left_follows : (b : Book) (s : Story) → Follows b s (left s)
left_follows b s = by_test (is_open s) (Follows b s (left s))
    (λ o. done_follows b s (left s) (chosen (λ t. t.link ≡ s.link) (is_open s) (record s { cancelled = true; permits = 0; waiting = None }) s (λ e. refl) (λ e. refl)) (leaver_is_done s o))
    (λ o. subst (Follows b s) (sym (left_if (is_open s) (record s { cancelled = true; permits = 0; waiting = None }) s o)) (same_story b s))

-- where its timer fires
fires_follows : (b : Book) (s : Story) → Follows b s (fires s)
fires_follows b s = chosen (Follows b s) (is_open s) (record s { overdue = true }) s
    (λ o. record { unstarted = λ u. u; told = λ u t. t; on = inl (record { link = refl; stays = λ u e. e; holds = λ u n i. i }) }) (λ o. same_story b s)

-- where a message starts
tried_follows : (b : Book) (s : Story) (l k : ℕ) → Follows b s (tried s l k)
tried_follows b s l k = done_follows b s (tried s l k) refl (λ u. not_empty s.tries (record { link = l; message = k }) (has_no_tries (tried s l k) u))

-- where a timer is asked for, it is admitted as before, or now
timed_stays : (told held none some : Bool) → (told || (held && (none || some))) ≡ true → (told || (held && (none || true))) ≡ true
timed_stays true held none some e = refl
timed_stays false true true some e = refl
timed_stays false true false some e = refl
timed_stays false false none some e = cc

-- so it follows
clocked_follows : (b : Book) (s : Story) (t : ℕ) → Follows b s (clocked s t)
clocked_follows b s t = record {
  unstarted = λ u. u;
  told = λ u e. e;
  on = inl (record {
    link = refl;
    stays = λ u e. timed_stays (is_told s) (holds_some (permits_in b.config) s.permits) (is_none s.timeout) (is_some s.clock) e;
    holds = λ u n i. i;
  });
}

-- where it goes to the next link
carried_follows : (b : Book) (s : Story) → rest_due b ≡ true → is_open s ≡ true → Follows b s (carried s b.links)
carried_follows b s due o = record { unstarted = λ u. u; told = λ u t. t; on = inr (due, o, refl) }

-- whoever holds no permits, where they are counted, is admitted only where it was told
told_alone : (told : Bool) (limit : Option ℕ) (k permits : ℕ) (timed : Bool) → limit ≡ Some k → permits ≡ 0 → (told || ((is_none limit || nat_lt 0 permits) && timed)) ≡ true → told ≡ true
told_alone true limit k permits timed l p e = refl
told_alone false limit k permits timed l p e =
    let x : false ≡ true = sym (ap (λ o. (is_none o || nat_lt 0 permits) && timed) l ∙ ap (λ n. (false || nat_lt 0 n) && timed) p) ∙ e in cc x

-- where it takes permits
holds_follows : (b : Book) (n l count : ℕ) → MayTake b n l count → Follows b (b.story n) (holds (b.story n) count)
holds_follows b n l count may =
    let t = takes_mean b n count may.takes in
    record {
      unstarted = λ u. u;
      told = λ u e. e;
      on = inl (record {
        link = refl;
        stays = λ u e. first_holds (is_told (b.story n)) (is_let_in (permits_in b.config) (holds (b.story n) count))
            (told_alone (is_told (b.story n)) (permits_in b.config) t.2.0 (b.story n).permits (is_timed (b.story n).timeout (b.story n).clock) t.2.1 t.2.2 e);
        holds = λ u e i. absurd (let none : (b.story n).permits ≡ 0 = t.2.2 in omega (arith, none, i));
      });
    }

-- a submission that was owed an outcome is not unstarted behind it
pub owed_is_done : (b : Book) (n : ℕ) (o : Outcome) → MayAnswer b n o → is_unstarted (answered (b.story n) o) ≡ true → ⊥
owed_is_done b n o may u = elim (open_or_told (answered (b.story n) o) u) [
  | inl still ↦ not_open (b.story n) o still
  | inr told ↦ unstarted_gets_a_fault b n o (has_no_tries (answered (b.story n) o) u) may.owes
      (sym (ap (λ (os : List Outcome). is_no_error (os ++ o ∷ [])) (open_has_none (b.story n) may.asked))
      ∙ both_right (not (is_awaited (b.story n))) (is_no_error ((b.story n).outcomes ++ o ∷ [])) told)
]

-- where it is answered
answered_follows : (b : Book) (n : ℕ) (o : Outcome) → MayAnswer b n o ⊎ MayTell b n o → Follows b (b.story n) (answered (b.story n) o)
answered_follows b n o (inl owes) = done_follows b (b.story n) (answered (b.story n) o) refl (owed_is_done b n o owes)
answered_follows b n o (inr may) =
    let told : is_unstarted (answered (b.story n) o) ≡ true → is_told (answered (b.story n) o) ≡ true =
    λ u. elim (open_or_told (answered (b.story n) o) u) [ inl still ↦ absurd (not_open (b.story n) o still) | inr t ↦ t ] in
    record {
      unstarted = λ u. may.unstarted;
      told = λ u t. told u;
      on = inl (record {
        link = refl;
        stays = λ u e. first_holds (is_told (answered (b.story n) o)) (is_let_in (permits_in b.config) (answered (b.story n) o)) (told u);
        holds = λ u e i. absurd (not_both (is_told (answered (b.story n) o)) e (told u));
      });
    }

-- behind a timer
timer_follows : (b : Book) (t ms : ℕ) (what : Purpose) → MayTimer b t ms what → (n : ℕ) → Follows b (b.story n) (after_timer b n t what)
timer_follows b t ms what may n = elim (timer_rests b t ms what may) [
  | inl rest ↦ timer_keeps (Follows b (b.story n)) b n t what (λ e o. carried_follows b (b.story n) rest.due o) (λ e. clocked_follows b (b.story n) t) (same_story b (b.story n))
  | inr other ↦ subst (Follows b (b.story n)) (sym (timer_own b n t what other))
      (chosen (Follows b (b.story n)) (is_clock_of n (Some what)) (clocked (b.story n) t) (b.story n) (λ e. clocked_follows b (b.story n) t) (λ f. same_story b (b.story n)))
]

-- and behind each action
pub follows : (b : Book) (a : Action) → MayStand b a → (n : ℕ) → n < b.submissions → Follows b (b.story n) ((entered b a).story n)
follows b a may n i =
    action_keeps (Follows b (b.story n)) b a n (record {
      events = record {
        handed = λ what e. absurd (not_both (b.submissions == n) (ne_test b.submissions n (omega (arith, i))) e);
        left = left_follows b (b.story n);
        fired = λ t c. fires_follows b (b.story n);
      };
      timed = λ t ms what e. timer_follows b t ms what (subst (MayStand b) e may) n;
      held = λ l count round e. holds_follows b n l count (subst (MayStand b) e may).1;
      rounded = (record { unstarted = λ u. u; told = λ u e. e; on = inl (record { link = refl; stays = λ u e. e; holds = λ u e j. j }) });
      waited = λ kind. record { unstarted = λ u. u; told = λ u e. e; on = inl (record { link = refl; stays = λ u e. e; holds = λ u e j. j }) };
      started = λ l k round count len e. tried_follows b (b.story n) l k;
      answered = λ o e. answered_follows b n o (subst (MayStand b) e may);
    }) (same_story b (b.story n))

-- who is to start on a link behind an action stayed on it, where that isn't the next one behind an attempt
pub to_start_stays : (b : Book) (a : Action) → MayStand b a → (l n : ℕ) → n < b.submissions → (rest_due b ≡ true → l ≢ b.links) → is_to_start l ((entered b a).story n) ≡ true → Stays b (b.story n) ((entered b a).story n)
to_start_stays b a may l n i apart e = elim (follows b a may n i).on [
  | inl stays ↦ stays
  | inr goes ↦ absurd (apart goes.0 (sym (eq_from ((entered b a).story n).link l (both_left (((entered b a).story n).link == l) (is_unstarted ((entered b a).story n)) e)) ∙ ap (λ (s : Story). s.link) goes.2))
]

-- so it was to before
pub to_start_before : (b : Book) (a : Action) → MayStand b a → (l n : ℕ) → n < b.submissions → (rest_due b ≡ true → l ≢ b.links) → is_to_start l ((entered b a).story n) ≡ true → is_to_start l (b.story n) ≡ true
to_start_before b a may l n i apart e =
    let f : Follows b (b.story n) ((entered b a).story n) = follows b a may n i in
    let s : Stays b (b.story n) ((entered b a).story n) = to_start_stays b a may l n i apart e in
    both_hold ((b.story n).link == l) (is_unstarted (b.story n))
    (sym (ap (λ k. k == l) s.link) ∙ both_left (((entered b a).story n).link == l) (is_unstarted ((entered b a).story n)) e)
    (f.unstarted (both_right (((entered b a).story n).link == l) (is_unstarted ((entered b a).story n)) e))

-- no submission is on the next link behind an attempt
pub story_apart : (b : Book) (n : ℕ) → Sound b → rest_due b ≡ true → (b.story n).link ≢ b.links
story_apart b n h due same =
    let over = some_end (current_link b).end (attempt_is_over (current_link b).end (both_right (has_generations b) (is_attempt (current_link b).end) due)) in
    let i : b.current < b.links = over_is_numbered b b.current over.0 h.links over.1 in
    let k : (b.story n).link ≤ b.current = (h.goes n).behind in
    omega (arith, i, k, same)

-- no submission is taken back
pub submissions_grow : (b : Book) (a : Action) → b.submissions ≤ (entered b a).submissions
submissions_grow b (action.Turn k (cause.Opening config word)) = omega arith
submissions_grow b (action.Turn k (cause.Event e)) = omega arith
submissions_grow b (action.Connect m host port) = omega arith
submissions_grow b (action.Timer t ms what) = omega arith
submissions_grow b (action.Took who m count) = omega arith
submissions_grow b (action.Push m info) = omega arith
submissions_grow b (action.Message msg) = omega arith
submissions_grow b (action.Monitor v) = omega arith
submissions_grow b (action.NeedCreds c m) = omega arith
submissions_grow b (action.Generation g) = omega arith
submissions_grow b (action.Round who m) = omega arith
submissions_grow b (action.Close m) = omega arith
submissions_grow b (action.Write m bytes) = omega arith
submissions_grow b (action.Wait who kind) = omega arith
submissions_grow b (action.Start m k who count len) = omega arith
submissions_grow b (action.Created e) = omega arith
submissions_grow b (action.Outcome n o) = omega arith

-- so who isn't to start on a link that was asked for never is again
pub stays_out : (b : Book) (front : List Action) → AllStand b front → (l n : ℕ) → l < b.links → n < b.submissions → (is_to_start l (b.story n) ≡ true → ⊥) → is_to_start l ((entered_each b front).story n) ≡ true → ⊥
stays_out b [] all l n asked i out e = out e
stays_out b (a ∷ more) all l n asked i out e =
    let grows : b.submissions ≤ (entered b a).submissions = submissions_grow b a in
    let longer : b.links ≤ (entered b a).links = links_grow b a in
    stays_out (entered b a) more all.1 l n (omega (arith, asked, longer)) (omega (arith, i, grows)) (λ t. out (to_start_before b a all.0 l n i (λ due same. omega (arith, asked, same)) t)) e

-- and whoever starts no more on any link never does
pub stays_done : (b : Book) (front : List Action) → AllStand b front → (n : ℕ) → n < b.submissions → (is_unstarted (b.story n) ≡ true → ⊥) → is_unstarted ((entered_each b front).story n) ≡ true → ⊥
stays_done b [] all n i done e = done e
stays_done b (a ∷ more) all n i done e =
    let grows : b.submissions ≤ (entered b a).submissions = submissions_grow b a in
    stays_done (entered b a) more all.1 n (omega (arith, i, grows)) (λ u. done ((follows b a all.0 n i).unstarted u)) e

-- whoever starts on a link was to
pub starter_to_start : (b : Book) (l k n count len : ℕ) → MayStart b l k n count len → is_to_start l (b.story n) ≡ true
starter_to_start b l k n count len may = both_hold ((b.story n).link == l) (is_unstarted (b.story n)) (eq_test (b.story n).link l (sym may.on_its_link)) may.unstarted

-- what is counted of one, where the other is counted, too
one_at_most : (p q : Bool) → (p ≡ true → q ≡ true) → (if p then 1 else 0) ≤ (if q then 1 else 0)
one_at_most false q h = omega arith
one_at_most true true h = omega arith
one_at_most true false h = absurd (let x : false ≡ true = h refl in cc x)

-- where fewer stand in line, as many at most
pub shorter : (limit : Option ℕ) (after before : ℕ → Story) (l n : ℕ) → ((k : ℕ) → k < n → is_in_line limit l (after k) ≡ true → is_in_line limit l (before k) ≡ true) → line_before limit after l n ≤ line_before limit before l n
shorter limit after before l zero h = omega arith
shorter limit after before l (suc n) h =
    let few : line_before limit after l n ≤ line_before limit before l n = shorter limit after before l n (λ k i. h k (omega arith)) in
    let one : (if is_in_line limit l (after n) then 1 else 0) ≤ (if is_in_line limit l (before n) then 1 else 0) = one_at_most (is_in_line limit l (after n)) (is_in_line limit l (before n)) (h n (omega arith)) in
    omega (arith, few, one)

-- no more stand before an earlier submission
pub earlier : (limit : Option ℕ) (story : ℕ → Story) (l m n : ℕ) → m ≤ n → line_before limit story l m ≤ line_before limit story l n
earlier limit story l m zero i = let e : m ≡ 0 = omega arith in subst (λ k. line_before limit story l k ≤ line_before limit story l 0) (sym e) (omega arith)
earlier limit story l m (suc n) i = by_test (m == suc n) (line_before limit story l m ≤ line_before limit story l (suc n))
    (λ t. subst (λ k. line_before limit story l k ≤ line_before limit story l (suc n)) (sym (eq_from m (suc n) t)) (omega arith))
    (λ f. let apart = ne_from m (suc n) f in let less : line_before limit story l m ≤ line_before limit story l n = earlier limit story l m n (omega arith) in omega (arith, less))
