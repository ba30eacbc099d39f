-- What each front of the generated script leads to: none of its events is bad, and none of their steps is spent.
use Rattle.std.proofs.Common.{◌≡◌, ℕ, ◌+◌, ◌*◌, ◌^◌, ◌<◌, ◌≤◌, nat_le, false, ◌||◌, List, [], ◌∷◌, ◌++◌, length, ap, sym, ◌∙◌, subst, arith, length-append}
use Rattle.containers.proofs.Choices.{not_le_test}
use Rattle.driver_model.specs.declared.action.Action.{Action}
use Rattle.driver_model.specs.declared.action.Action.TheVariants as action
use Rattle.driver_model.specs.declared.action.Cause.TheVariants as cause
use Rattle.driver_model.specs.declared.event.Event.{Event}
use Rattle.legal_trace.specs.Book.{Book, book, entered_each}
use Rattle.legal_trace.proofs.Books.{book_append}
use Rattle.single_session.specs.declared.core_state.Core.{Core}
use Rattle.single_session.specs.Replay.{opening_core, run_on, state_after, trace_of, AreGood, AreGoodOn, AreUnspent, AreUnspentOn, is_bad_after, is_spent_after}
use Rattle.single_session.specs.Turn.{next_turn, actions_of, is_bad, has_run_out, spends}
use Rattle.single_session.proofs.Replays.{state_after-more, trace_of-more}
use Rattle.script_generator.specs.Script.{generated_config, generated_word}
use Rattle.script_generator.specs.Summary.{count, takes}
use Rattle.script_generator.proofs.Books.{Tells}

-- one more event of a history that isn't bad
pub good_on : (c : Core) (es : List Event) (e : Event) → AreGoodOn c es → is_bad (run_on c es) e.kind ≡ false → AreGoodOn c (es ++ e ∷ [])
good_on c [] e all g = (g, tt)
good_on c (d ∷ es) e all g = (all.0, good_on (next_turn c d.kind).core es e all.1 g)

pub unspent_on : (c : Core) (es : List Event) (e : Event) → AreUnspentOn c es → spends (run_on c es) e ≡ false → AreUnspentOn c (es ++ e ∷ [])
unspent_on c [] e all g = (g, tt)
unspent_on c (d ∷ es) e all g = (all.0, unspent_on (next_turn c d.kind).core es e all.1 g)

-- the state, the trace and the book that the script's configuration and these events lead to
abbrev pub state : List Event → Core
state es = state_after generated_config generated_word es

abbrev pub trace : List Event → List Action
trace es = trace_of generated_config generated_word es

-- these events lead to this session: none is bad and no step is spent; so many submissions were handed in, and so many items
-- dealt, which is what messages take. There are no more events than that
pub record Stands (es : List Event) (core : ℕ → Core) (submissions dealt needs most : ℕ) : Type 0 where
  pub state_is : state es ≡ core (1 + length es)
  pub good : AreGood generated_config generated_word es
  pub unspent : AreUnspent generated_config generated_word es
  pub tells : Tells (book (trace es)) submissions dealt needs
  pub takes : count takes (trace es) ≡ needs
  pub short : length es ≤ most
  pub few : length (trace es) ≤ 4 * most

pub count_append : (f : Action → ℕ) (s t : List Action) → count f (s ++ t) ≡ count f s + count f t
count_append f [] t = omega arith
count_append f (a ∷ s) t = let e : count f (s ++ t) ≡ count f s + count f t = count_append f s t in omega arith

-- the next event neither is bad nor is its step spent
pub record IsNext (es : List Event) (e : Event) : Type 0 where
  pub good : is_bad_after generated_config generated_word es e ≡ false
  pub unspent : is_spent_after generated_config generated_word es e ≡ false

-- what one event does to such a session
pub record Steps (core core' : ℕ → Core) (e : Event) (more : List Action) : Type 0 where
  pub turns : (t : ℕ) → (core t).turns ≡ t
  pub next : (t : ℕ) → (next_turn (core t) e.kind).core ≡ core' (t + 1)
  pub acts : (t : ℕ) → actions_of (core t) e ≡ action.Turn t (cause.Event e) ∷ more
  pub good : (t : ℕ) → is_bad (core t) e.kind ≡ false
  pub room : (t : ℕ) → has_run_out (core' t) ≡ false

pub is_next : (es : List Event) (e : Event) (core core' : ℕ → Core) (more : List Action) (n d s most : ℕ) → most < 2 ^ 30 → Stands es core n d s most → Steps core core' e more → IsNext es e
unfolding spends
is_next es e core core' more n d s most low h x =
    let short = h.short in
    record {
      good = ap (λ (c : Core). is_bad c e.kind) h.state_is ∙ x.good (1 + length es);
      unspent = ap (λ (c : Core). nat_le (2 ^ 32) c.turns || has_run_out (next_turn c e.kind).core) h.state_is
          ∙ ap (λ t. nat_le (2 ^ 32) t || has_run_out (next_turn (core (1 + length es)) e.kind).core) (x.turns (1 + length es))
          ∙ ap (λ b. b || has_run_out (next_turn (core (1 + length es)) e.kind).core) (not_le_test (2 ^ 32) (1 + length es) (omega arith))
          ∙ ap has_run_out (x.next (1 + length es)) ∙ x.room (1 + length es + 1);
    }

pub stands_more : (es : List Event) (e : Event) (core core' : ℕ → Core) (more : List Action) (n d s n' d' s' k most : ℕ) → most < 2 ^ 30 → Stands es core n d s most → Steps core core' e more
    → length more ≤ 3 → count takes more ≡ k → s' ≡ s + k → ((b : Book) (t : ℕ) → Tells b n d s → Tells (entered_each b (action.Turn t (cause.Event e) ∷ more)) n' d' s')
    → Stands (es ++ e ∷ []) core' n' d' s' (most + 1)
unfolding AreGood AreUnspent state_after
stands_more es e core core' more n d s n' d' s' k most low h x little takes_more sum tells =
    let next = is_next es e core core' more n d s most low h x in
    let t = 1 + length es in
    let acts : actions_of (state es) e ≡ action.Turn t (cause.Event e) ∷ more = ap (λ (c : Core). actions_of c e) h.state_is ∙ x.acts t in
    let grown : trace (es ++ e ∷ []) ≡ trace es ++ action.Turn t (cause.Event e) ∷ more = trace_of-more generated_config generated_word es e ∙ ap (λ (more' : List Action). trace es ++ more') acts in
    let long : length (es ++ e ∷ []) ≡ length es + 1 = length-append es (e ∷ []) in
    let later : 1 + length (es ++ e ∷ []) ≡ t + 1 = omega arith in
    let short = h.short in
    let few = h.few in
    let took = h.takes in
    let longer = ap length grown ∙ length-append (trace es) (action.Turn t (cause.Event e) ∷ more) in
    let summed = ap (count takes) grown ∙ count_append takes (trace es) (action.Turn t (cause.Event e) ∷ more) in
    record {
      state_is = state_after-more generated_config generated_word es e ∙ ap (λ (c : Core). (next_turn c e.kind).core) h.state_is ∙ x.next t ∙ ap core' (sym later);
      good = good_on (opening_core generated_config generated_word) es e h.good next.good;
      unspent = unspent_on (opening_core generated_config generated_word) es e h.unspent next.unspent;
      tells = subst (λ (b : Book). Tells b n' d' s') (sym (ap book grown ∙ book_append (trace es) (action.Turn t (cause.Event e) ∷ more))) (tells (book (trace es)) t h.tells);
      takes = omega arith;
      short = omega arith;
      few = omega arith;
    }
