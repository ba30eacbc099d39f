-- Before the first generation the newest submission alone is open, and without generations the first link is current.
use Rattle.std.proofs.Common.{◌≡◌, ◌⊎◌, inl, inr, ℕ, ◌+◌, ◌-◌, ◌<◌, ◌≤◌, ◌==◌, Bool, true, false, ◌&&◌, not, List, [], ◌∷◌, ◌++◌, None, is_some, if◌then◌else◌, refl, sym, ◌∙◌, ap, arith}
use Rattle.containers.proofs.Choices.{by_test, taken_if, left_if, both_left, eq_from, eq_test, not_both}
use Rattle.driver_model.specs.declared.action.Action.{Action}
use Rattle.driver_model.specs.declared.action.Action.TheVariants as action
use Rattle.driver_model.specs.declared.action.Cause.TheVariants as cause
use Rattle.driver_model.specs.declared.action.Purpose.{Purpose}
use Rattle.driver_model.specs.declared.event.Event.{Event}
use Rattle.driver_model.specs.declared.event.EventKind.{EventKind}
use Rattle.driver_model.specs.declared.event.EventKind.TheVariants as event
use Rattle.legal_trace.specs.Ledger.{failure_in}
use Rattle.legal_trace.specs.Story.{Story, is_open}
use Rattle.legal_trace.specs.Managers.{settings_in, is_lazy}
use Rattle.legal_trace.specs.Book.{Book, blank_book, book, entered, entered_each, has_generations, is_rest, submitted_by}
use Rattle.legal_trace.specs.Legal.{MayStand, MayTimer, AllStand, IsApplied, IsSettled, IsOpen, begins_first, current_link, generation_due, is_attempt, is_caused}
use Rattle.legal_trace.proofs.Clocks.{timer_keeps, timer_rests}
use Rattle.legal_trace.proofs.Moves.{both_hold}
use Rattle.legal_trace.proofs.Plain.{not_empty, not_none}
use Rattle.legal_laws.proofs.Generations.Lives.{due_parts}
use Rattle.legal_laws.proofs.Links.Opens.{due_has_no_link}
use Rattle.legal_laws.proofs.Submissions.InLine.{second_holds}
use Rattle.legal_laws.proofs.Submissions.Owes.{shut_owes}
use Rattle.legal_laws.proofs.Submissions.Steps.{action_keeps, fires_keeps, left_keeps}
use Rattle.legal_laws.proofs.Submissions.Tales.{open_has_none}
use Rattle.legal_laws.proofs.Traces.Numbers.{open_is_numbered, stories_kept}
use Rattle.legal_laws.proofs.Traces.Sound.{Sound, stays_sound, blank_is_sound}

-- whoever isn't open becomes so only where it is handed in
abbrev OpensNew : Book → ℕ → Story → Type 0
OpensNew b n s = is_open s ≡ true → b.submissions ≡ n

-- what is cancelled is not open
gone : (p q : Bool) → (p && q && not true) ≡ true → ⊥
gone true true e = cc e
gone true false e = cc e
gone false q e = cc e

-- so each action does
opens_new : (b : Book) (a : Action) (n : ℕ) → is_open (b.story n) ≡ false → is_open ((entered b a).story n) ≡ true → b.submissions ≡ n
opens_new b a n closed =
    let still : OpensNew b n (b.story n) = λ o. absurd (not_both (is_open (b.story n)) closed o) in
    action_keeps (OpensNew b n) b a n (record {
      events = record {
        handed = λ what t o. eq_from b.submissions n t;
        left = left_keeps (OpensNew b n) (b.story n) (λ was o. absurd (not_both (is_open (b.story n)) closed was)) still;
        fired = λ t c. fires_keeps (OpensNew b n) (b.story n) (λ was o. absurd (not_both (is_open (b.story n)) closed was)) still;
      };
      timed = λ t ms what e. timer_keeps (OpensNew b n) b n t what (λ r was o. absurd (not_both (is_open (b.story n)) closed was)) (λ c o. absurd (not_both (is_open (b.story n)) closed o)) still;
      held = λ l count round e o. absurd (not_both (is_open (b.story n)) closed o);
      rounded = λ o. absurd (not_both (is_open (b.story n)) closed o);
      waited = λ kind o. absurd (not_both (is_open (b.story n)) closed o);
      started = λ l k round count len e o. absurd (not_both (is_open (b.story n)) closed o);
      answered = λ o e still_open. absurd (not_empty (b.story n).outcomes o (open_has_none (record (b.story n) { outcomes = (b.story n).outcomes ++ o ∷ []; permits = 0; waiting = None }) still_open));
    }) still

-- whoever is open was, or is new
was_open : (b : Book) (a : Action) (n : ℕ) → is_open ((entered b a).story n) ≡ true → (is_open (b.story n) ≡ true) ⊎ (b.submissions ≡ n)
was_open b a n o = by_test (is_open (b.story n)) ((is_open (b.story n) ≡ true) ⊎ (b.submissions ≡ n)) (λ t. inl t) (λ f. inr (opens_new b a n f o))

-- without generations the first link is current, and before the first of them none is open but the newest submission
pub record Firsts (b : Book) : Type 0 where
  pub plain : has_generations b ≡ false → b.current ≡ 0
  pub first : has_generations b ≡ true → b.generation ≡ 0 → (n : ℕ) → IsOpen b n → n + 1 ≡ b.submissions

-- an open submission without a message, whose link isn't asked for, comes before any shutdown
pub unshut : (b : Book) (n : ℕ) → Sound b → IsApplied b → IsOpen b n → (b.story n).tries ≡ [] → (b.link (b.story n).link).asked ≡ false → b.shut ≡ false
unshut b n sound applied o none unasked = by_test b.shut (b.shut ≡ false) (λ t. absurd (shut_owes b (b.story n) t unasked none (applied.shown.answered n o))) (λ f. f)

-- where the event was applied, none is open before the first generation
pub none_first : (b : Book) (n : ℕ) → Sound b → Firsts b → IsApplied b → has_generations b ≡ true → b.generation ≡ 0 → IsOpen b n → (b.story n).tries ≡ [] → ⊥
none_first b n sound firsts applied has zero_yet o none =
    let links : b.links ≡ 0 = sound.lives.first has zero_yet in
    let unasked = sound.links.unasked b.current (omega (arith, links)) in
    let on : (b.story n).link ≡ b.current = (sound.goes n).open_on o in
    let open_still : b.shut ≡ false = unshut b n sound applied o none (ap (λ l. (b.link l).asked) on ∙ unasked.0) in
    let well : b.failed ≡ false = by_test b.failed (b.failed ≡ false)
    (λ t. let f = sound.lives.failed t in absurd (not_none (failure_in (current_link b).end) f.0 (ap failure_in unasked.2) f.1)) (λ f. f) in
    let newest : n + 1 ≡ b.submissions = firsts.first has zero_yet n o in
    let last : b.submissions - 1 ≡ n = omega (arith, newest) in
    let begins : begins_first b ≡ true = second_holds (not (is_lazy b.config)) (is_open (b.story (b.submissions - 1))) (ap (λ m. is_open (b.story m)) last ∙ o) in
    let by : Bool = if b.generation == 0 then begins_first b else is_caused b in
    let due : generation_due b ≡ true = both_hold (has_generations b) (not b.failed && (not b.shut && by)) has
    (both_hold (not b.failed) (not b.shut && by) (ap not well)
    (both_hold (not b.shut) by (ap not open_still) (taken_if (b.generation == 0) (begins_first b) (is_caused b) (eq_test b.generation 0 zero_yet) ∙ begins))) in
    not_both (generation_due b) applied.generated due

-- an action that leaves the counts as they are keeps it
unmoved : (b : Book) (a : Action) → MayStand b a → Sound b → (entered b a).config ≡ b.config → (entered b a).current ≡ b.current → (entered b a).generation ≡ b.generation → (entered b a).submissions ≡ b.submissions → Firsts b → Firsts (entered b a)
unmoved b a may sound config current generation submissions h = record {
  plain = λ p. current ∙ h.plain (sym (ap (λ c. is_some (settings_in c)) config) ∙ p);
  first = λ has zero_yet n o. elim (was_open b a n o) [
    | inl was ↦ h.first (sym (ap (λ c. is_some (settings_in c)) config) ∙ has) (sym generation ∙ zero_yet) n was ∙ sym submissions
    | inr new ↦ absurd (let i : n < (entered b a).submissions = open_is_numbered (entered b a) n (stories_kept b a may sound.stories) o in omega (arith, i, new, submissions))
  ];
}

-- one that asks for a link, or for a timer
moved : (b : Book) (a : Action) → MayStand b a → Sound b → (entered b a).config ≡ b.config → (has_generations b ≡ false → (entered b a).current ≡ 0) → (entered b a).generation ≡ b.generation → (entered b a).submissions ≡ b.submissions → Firsts b → Firsts (entered b a)
moved b a may sound config plain generation submissions h = record {
  plain = λ p. plain (sym (ap (λ c. is_some (settings_in c)) config) ∙ p);
  first = λ has zero_yet n o. elim (was_open b a n o) [
    | inl was ↦ h.first (sym (ap (λ c. is_some (settings_in c)) config) ∙ has) (sym generation ∙ zero_yet) n was ∙ sym submissions
    | inr new ↦ absurd (let i : n < (entered b a).submissions = open_is_numbered (entered b a) n (stories_kept b a may sound.stories) o in omega (arith, i, new, submissions))
  ];
}

-- an event hands in one submission at most
one_at_most : (kind : EventKind) → submitted_by kind ≤ 1
one_at_most (event.Submit what) = omega arith
one_at_most _ = omega arith

-- in a settled turn no open submission has a message before the first generation
untried_first : (b : Book) (n : ℕ) → Sound b → IsSettled b → has_generations b ≡ true → b.generation ≡ 0 → IsOpen b n → (b.story n).tries ≡ []
untried_first b n sound settled has zero_yet o = elim (settled.goes n o) [
  | inr waiting ↦ waiting.unstarted
  | inl started ↦
      let links : b.links ≡ 0 = sound.lives.first has zero_yet in
      absurd (not_both (b.link started.try.link).up (sound.links.unasked started.try.link (omega (arith, links))).1 started.up)
]

-- where an event comes
event_firsts : (b : Book) (k : ℕ) (e : Event) → MayStand b (action.Turn k (cause.Event e)) → Sound b → Firsts b → Firsts (entered b (action.Turn k (cause.Event e)))
event_firsts b k e may sound h = record {
  plain = h.plain;
  first = λ has zero_yet n o. elim (was_open b (action.Turn k (cause.Event e)) n o) [
    | inl was ↦ absurd (none_first b n sound h may.is_for.1.written.moved.begun.applied has zero_yet was (untried_first b n sound may.is_for.1 has zero_yet was))
    | inr new ↦
        let i : n < b.submissions + submitted_by e.kind = open_is_numbered (entered b (action.Turn k (cause.Event e))) n (stories_kept b (action.Turn k (cause.Event e)) may sound.stories) o in
        let one : submitted_by e.kind ≤ 1 = one_at_most e.kind in
        omega (arith, i, one, new)
  ];
}

-- where a timer is asked for that is for the wait behind an attempt, the session comes back
timer_plain : (b : Book) (t ms : ℕ) (what : Purpose) → MayTimer b t ms what → Firsts b → has_generations b ≡ false → (if is_rest what then b.links else b.current) ≡ 0
timer_plain b t ms what may h plain = elim (timer_rests b t ms what may) [
  | inl rest ↦ absurd (not_both (has_generations b) plain (both_left (has_generations b) (is_attempt (current_link b).end) rest.due))
  | inr other ↦ left_if (is_rest what) b.links b.current other ∙ h.plain plain
]

-- so each action that may stand keeps it
firsts_kept : (b : Book) (a : Action) → MayStand b a → Sound b → Firsts b → Firsts (entered b a)
firsts_kept b (action.Turn k (cause.Opening config word)) may sound h = record {
  plain = λ p. let none : b.links ≡ 0 = sound.opens.no_links may.is_for in elim sound.lives.near [ inl next ↦ next ∙ none | inr last ↦ absurd (omega (arith, last, none)) ];
  first = λ has zero_yet n o. absurd (
      let i : n < b.submissions = open_is_numbered b n sound.stories o in
      let start : b.turns ≡ 0 = may.is_for in
      let none : b.submissions ≡ 0 = sound.opens.none_yet (omega (arith, start)) in
      omega (arith, i, none)
      );
}
firsts_kept b (action.Turn k (cause.Event e)) may sound h = event_firsts b k e may sound h
firsts_kept b (action.Connect l host port) may sound h = moved b (action.Connect l host port) may sound refl (λ plain. may.next ∙ due_has_no_link b may.due plain) refl refl h
firsts_kept b (action.Timer t ms what) may sound h = moved b (action.Timer t ms what) may sound refl (timer_plain b t ms what may h) refl refl h
firsts_kept b (action.Generation g) may sound h = record {
  plain = λ p. absurd (not_both (has_generations b) p (due_parts b may.due).0);
  first = λ has zero_yet n o. absurd (let next : g ≡ b.generation + 1 = may.next in omega (arith, next, zero_yet));
}
firsts_kept b (action.Took who l count) may sound h = unmoved b (action.Took who l count) may sound refl refl refl refl h
firsts_kept b (action.Push l info) may sound h = unmoved b (action.Push l info) may sound refl refl refl refl h
firsts_kept b (action.Message m) may sound h = unmoved b (action.Message m) may sound refl refl refl refl h
firsts_kept b (action.Monitor v) may sound h = unmoved b (action.Monitor v) may sound refl refl refl refl h
firsts_kept b (action.NeedCreds c l) may sound h = unmoved b (action.NeedCreds c l) may sound refl refl refl refl h
firsts_kept b (action.Round who l) may sound h = unmoved b (action.Round who l) may sound refl refl refl refl h
firsts_kept b (action.Close l) may sound h = unmoved b (action.Close l) may sound refl refl refl refl h
firsts_kept b (action.Write l bytes) may sound h = unmoved b (action.Write l bytes) may sound refl refl refl refl h
firsts_kept b (action.Wait who kind) may sound h = unmoved b (action.Wait who kind) may sound refl refl refl refl h
firsts_kept b (action.Start l k who count len) may sound h = unmoved b (action.Start l k who count len) may sound refl refl refl refl h
firsts_kept b (action.Created e) may sound h = unmoved b (action.Created e) may sound refl refl refl refl h
firsts_kept b (action.Outcome n o) may sound h = unmoved b (action.Outcome n o) may sound refl refl refl refl h

-- and so do many
each_firsts : (b : Book) (front : List Action) → AllStand b front → Sound b → Firsts b → Firsts (entered_each b front)
each_firsts b [] all sound h = h
each_firsts b (a ∷ more) all sound h = each_firsts (entered b a) more all.1 (stays_sound b a all.0 sound) (firsts_kept b a all.0 sound h)

-- so it is behind actions that may stand
pub firsts_behind : (front : List Action) → AllStand blank_book front → Firsts (book front)
unfolding book
firsts_behind front all = each_firsts blank_book front all blank_is_sound (record { plain = λ p. refl; first = λ has zero_yet n o. absurd (cc o) })
