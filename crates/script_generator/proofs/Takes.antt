-- The session takes the next line of the script.
use Rattle.std.proofs.Common.{◌≡◌, ℕ, suc, ◌+◌, true, false, List, [], ◌∷◌, ◌++◌, Some, None, refl, ap, sym, ◌∙◌, subst, arith}
use Rattle.std.specs.Prelude.{Result, Ok, Err, OnOk}
use Rattle.redis_error.specs.declared.config_name.ConfigName.{ConfigName}
use Rattle.driver_model.specs.Config.{first_fault}
use Rattle.driver_model.specs.declared.config.Config.{Config}
use Rattle.driver_model.specs.declared.action.Action.{Action}
use Rattle.driver_model.specs.declared.event.Event.{Event}
use Rattle.shared_session.specs.History.{History}
use Rattle.single_session.specs.Turn.{actions_of}
use Rattle.single_session.specs.Replay.{opening_actions, state_after, trace_of, is_bad_after, is_spent_after}
use Rattle.shared_session.specs.declared.session.Failure.TheVariants.{Sound}
use Rattle.single_session.proofs.Replays.{trace_of-none, trace_of-more}
use Rattle.script_generator.specs.Script.{generated_config, generated_word, is_cancelled, replies}
use Rattle.script_generator.specs.Fronts.{front, written, cancelled, IsAt}
use Rattle.script_generator.specs.Summary.{no_summary, counted, counted_each}
use Rattle.script_generator.specs.declared.summary.Summary.{Summary}
use Rattle.script_generator.proofs.Fronts.{IsNext}
use Rattle.script_generator.proofs.Whole.{generated_sound, next_front, next_front_gone}

-- what the session is asked with the next event
pub sound_at : (es : List Event) (s : History) (counts : Summary) → IsAt es s counts → s.failure ≡ Sound
sound_at es s counts h = ap (λ (x : History). x.failure) h.made

pub good_at : (es : List Event) (e : Event) (s : History) (counts : Summary) → IsAt es s counts → IsNext es e → is_bad_after s.config s.word s.events e ≡ false
good_at es e s counts h next = ap (λ (x : History). is_bad_after x.config x.word x.events e) h.made ∙ next.good

pub unspent_at : (es : List Event) (e : Event) (s : History) (counts : Summary) → IsAt es s counts → IsNext es e → is_spent_after s.config s.word s.events e ≡ false
unspent_at es e s counts h next = ap (λ (x : History). is_spent_after x.config x.word x.events e) h.made ∙ next.unspent

counted_append : (counts : Summary) (s t : List Action) → counted_each counts (s ++ t) ≡ counted_each (counted_each counts s) t
counted_append counts [] t = refl
counted_append counts (a ∷ s) t = counted_append (counted counts a) s t

-- it has taken it
pub at_more : (es : List Event) (e : Event) (s t : History) (before after : Summary) → IsAt es s before
    → t ≡ record s { events = s.events ++ e ∷ [] } → after ≡ counted_each before (actions_of (state_after s.config s.word s.events) e) → IsAt (es ++ e ∷ []) t after
at_more es e s t before after h taken counted = record {
  made = taken ∙ ap (λ (x : History). record x { events = x.events ++ e ∷ [] }) h.made;
  counted = counted ∙ ap (λ (x : History). counted_each before (actions_of (state_after x.config x.word x.events) e)) h.made
      ∙ ap (λ (c : Summary). counted_each c (actions_of (state_after generated_config generated_word es) e)) h.counted
      ∙ sym (counted_append no_summary (trace_of generated_config generated_word es) (actions_of (state_after generated_config generated_word es) e))
      ∙ ap (counted_each no_summary) (sym (trace_of-more generated_config generated_word es e));
}

-- at its opening
pub at_none : (s : History) (counts : Summary) → s ≡ record { config = generated_config; word = generated_word; events = []; failure = Sound }
    → counts ≡ counted_each no_summary (opening_actions generated_config generated_word) → IsAt [] s counts
at_none s counts made counted = record { made = made; counted = counted ∙ ap (counted_each no_summary) (sym (trace_of-none generated_config generated_word)) }

-- a round is over
pub round_over : (i : ℕ) (s : History) (counts : Summary) → is_cancelled i ≡ false → IsAt (written i ++ replies ∷ []) s counts → IsAt (front (i + 1)) s counts
round_over i s counts stays h = subst (λ es. IsAt es s counts) (next_front i stays ∙ (let e : suc i ≡ i + 1 = omega arith in ap front e)) h

pub round_over_gone : (i : ℕ) (s : History) (counts : Summary) → is_cancelled i ≡ true → IsAt (cancelled i ++ replies ∷ []) s counts → IsAt (front (i + 1)) s counts
round_over_gone i s counts gone h = subst (λ es. IsAt es s counts) (next_front_gone i gone ∙ (let e : suc i ≡ i + 1 = omega arith in ap front e)) h

-- the same of an event that is the script's
pub good_for : (es : List Event) (e d : Event) (s : History) (counts : Summary) → IsAt es s counts → e ≡ d → IsNext es d → is_bad_after s.config s.word s.events e ≡ false
good_for es e d s counts h is next = ap (λ (x : Event). is_bad_after s.config s.word s.events x) is ∙ good_at es d s counts h next

pub unspent_for : (es : List Event) (e d : Event) (s : History) (counts : Summary) → IsAt es s counts → e ≡ d → IsNext es d → is_spent_after s.config s.word s.events e ≡ false
unspent_for es e d s counts h is next = ap (λ (x : Event). is_spent_after s.config s.word s.events x) is ∙ unspent_at es d s counts h next

pub at_for : (es : List Event) (e d : Event) (s t : History) (before after : Summary) → IsAt es s before → e ≡ d
    → t ≡ record s { events = s.events ++ e ∷ [] } → after ≡ counted_each before (actions_of (state_after s.config s.word s.events) e) → IsAt (es ++ d ∷ []) t after
at_for es e d s t before after h is taken counted = subst (λ (x : Event). IsAt (es ++ x ∷ []) t after) is (at_more es e s t before after h taken counted)

-- what follows where a call is done
pub if_done : {A E : Type 0} (r : Result A E) (P Q R : Type 0) → OnOk r P → OnOk r Q → (P → Q → R) → OnOk r R
if_done (Ok a) P Q R p q f = f p q
if_done (Err e) P Q R p q f = tt

-- a session of the script's configuration is made
pub not_refused : (config : Config) (name : ConfigName) → config ≡ generated_config → first_fault config ≡ Some name → ⊥
not_refused config name is refused = let none : first_fault config ≡ None = ap first_fault is ∙ generated_sound in cc

pub opened : (config : Config) (s : History) → config ≡ generated_config → s ≡ record { config = config; word = 0; events = []; failure = Sound }
    → (before after : Summary) (cleared shown : List Action) → before ≡ no_summary → cleared ≡ [] → shown ≡ cleared ++ opening_actions config 0 → after ≡ counted_each before shown → IsAt [] s after
opened config s is made before after cleared shown none empty is_shown counted =
    at_none s after (made ∙ ap (λ (c : Config). record { config = c; word = 0; events = []; failure = Sound }) is)
    (counted ∙ ap (λ (c : Summary). counted_each c shown) none
    ∙ ap (counted_each no_summary) (is_shown ∙ (λ i. empty i ++ opening_actions (is i) 0)))
