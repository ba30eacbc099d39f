-- Submissions that are open go to the current link, also where another one becomes it.
use Rattle.std.proofs.Common.{◌≡◌, inl, inr, ℕ, ◌+◌, ◌≤◌, ◌==◌, max, Bool, true, false, ◌&&◌, ◌||◌, [], Some, None, refl, sym, ◌∙◌, ap, subst, arith}
use Rattle.std.specs.Prelude.{slice_get}
use Rattle.containers.proofs.Choices.{by_test, chosen, eq_from, left_if, both_right, not_both}
use Rattle.driver_model.specs.declared.action.Action.{Action}
use Rattle.driver_model.specs.declared.action.Action.TheVariants as action
use Rattle.driver_model.specs.declared.action.Cause.TheVariants as cause
use Rattle.driver_model.specs.declared.action.Owner.TheVariants as owner
use Rattle.driver_model.specs.declared.action.Purpose.{Purpose}
use Rattle.driver_model.specs.declared.action.Purpose.TheVariants as purpose
use Rattle.driver_model.specs.declared.event.EventKind.{EventKind}
use Rattle.driver_model.specs.declared.event.EventKind.TheVariants as event
use Rattle.driver_model.specs.declared.outcome.Outcome.{Outcome}
use Rattle.legal_trace.specs.Ledger.{is_over}
use Rattle.legal_trace.specs.Story.{Story, Try, blank_story, is_open, handed_in, carried, left, holds, clocked, rounds, fires, tried, waits, answered, last_of}
use Rattle.legal_trace.specs.Book.{Book, entered, has_generations, if_own, is_clock_of, is_rest, after_event, after_timer, is_unspoken, shuts}
use Rattle.legal_trace.specs.Legal.{MayStand, MayTimer, MayRest, MayGenerate, IsOpen, current_link, is_attempt}
use Rattle.legal_trace.proofs.Clocks.{timer_own, timer_rests}
use Rattle.legal_trace.proofs.Plain.{not_empty, same_some}
use Rattle.legal_laws.proofs.Generations.Lives.{GoesOn, Goes, Lives, attempt_is_over, due_link_is_next, due_parts, generation_moves}
use Rattle.legal_laws.proofs.Traces.Numbers.{HasLinks, HasStories}
use Rattle.legal_laws.proofs.Submissions.Owes.{owed_story, over_owes, tried_owes}
use Rattle.legal_laws.proofs.Submissions.Tales.{last_behind, open_has_none}

-- what was shut down stays so
still_shut : (s more : Bool) → s ≡ true → (s || more) ≡ true
still_shut true more e = refl
still_shut false more e = absurd (cc e)

-- so a story goes on where everything may be shut down
goes_later : (generation current : ℕ) (shut more : Bool) (s : Story) → GoesOn generation current shut s → GoesOn generation current (shut || more) s
goes_later generation current shut more s h = record { open_on = h.open_on; open_in = h.open_in; tries_on = h.tries_on; late_on = λ late. still_shut shut more (h.late_on late); behind = h.behind }

-- one that is handed in goes to the current link
new_goes : (b : Book) (n : ℕ) (s : Story) (more : Bool) → HasStories b → b.submissions ≡ n → s.link ≡ b.current → s.generation ≡ max 1 b.generation → s.tries ≡ (b.story n).tries → s.late ≡ b.shut → GoesOn b.generation b.current (b.shut || more) s
new_goes b n s more stories new link of tries late =
    let blank : b.story n ≡ blank_story = stories n (omega (arith, new)) in
    record {
      open_on = λ o. link;
      open_in = λ o. of;
      tries_on = λ t last. absurd (let none : last_of [] ≡ Some t = sym (ap last_of (tries ∙ ap (λ (x : Story). x.tries) blank)) ∙ last in cc none);
      late_on = λ is. still_shut b.shut more (sym late ∙ is);
      behind = omega (arith, link);
    }

-- one whose caller goes
left_goes : (generation current : ℕ) (shut : Bool) (s : Story) → GoesOn generation current shut s → GoesOn generation current shut (left s)
left_goes generation current shut s h = chosen (GoesOn generation current shut) (is_open s) (record s { cancelled = true; permits = 0; waiting = None }) s
    (λ o. record { open_on = λ still. h.open_on o; open_in = λ still. h.open_in o; tries_on = h.tries_on; late_on = h.late_on; behind = h.behind }) (λ f. h)

-- and one whose timer fires
fires_goes : (generation current : ℕ) (shut : Bool) (s : Story) → GoesOn generation current shut s → GoesOn generation current shut (fires s)
fires_goes generation current shut s h = chosen (GoesOn generation current shut) (is_open s) (record s { overdue = true }) s
    (λ o. record { open_on = h.open_on; open_in = h.open_in; tries_on = h.tries_on; late_on = h.late_on; behind = h.behind }) (λ f. h)

-- so each does behind an event
event_goes : (b : Book) (n : ℕ) (kind : EventKind) → HasStories b → GoesOn b.generation b.current b.shut (b.story n) → GoesOn b.generation b.current (b.shut || shuts kind) (after_event b n kind)
event_goes b n (event.Submit what) stories h =
    chosen (GoesOn b.generation b.current (b.shut || false)) (b.submissions == n) (handed_in (b.story n) what b.shut (is_unspoken b what) (max 1 b.generation) b.current b.timeout) (b.story n)
    (λ t. new_goes b n (handed_in (b.story n) what b.shut (is_unspoken b what) (max 1 b.generation) b.current b.timeout) false stories (eq_from b.submissions n t) refl refl refl refl)
    (λ f. goes_later b.generation b.current b.shut false (b.story n) h)
event_goes b n (event.Cancel m) stories h =
    let k = goes_later b.generation b.current b.shut false (b.story n) h in
    chosen (GoesOn b.generation b.current (b.shut || false)) (m == n) (left (b.story n)) (b.story n) (λ t. left_goes b.generation b.current (b.shut || false) (b.story n) k) (λ f. k)
event_goes b n (event.Fired t) stories h =
    let k = goes_later b.generation b.current b.shut false (b.story n) h in
    chosen (GoesOn b.generation b.current (b.shut || false)) (is_clock_of n (slice_get b.timers t)) (fires (b.story n)) (b.story n) (λ e. fires_goes b.generation b.current (b.shut || false) (b.story n) k) (λ f. k)
event_goes b n (event.Connected l) stories h = goes_later b.generation b.current b.shut false (b.story n) h
event_goes b n (event.Refused l f) stories h = goes_later b.generation b.current b.shut false (b.story n) h
event_goes b n (event.Wrote l count) stories h = goes_later b.generation b.current b.shut false (b.story n) h
event_goes b n (event.Bytes l piece) stories h = goes_later b.generation b.current b.shut false (b.story n) h
event_goes b n (event.Ended l) stories h = goes_later b.generation b.current b.shut false (b.story n) h
event_goes b n (event.ReadFault l kind) stories h = goes_later b.generation b.current b.shut false (b.story n) h
event_goes b n (event.WriteFault l kind) stories h = goes_later b.generation b.current b.shut false (b.story n) h
event_goes b n (event.Timeout ms) stories h = goes_later b.generation b.current b.shut false (b.story n) h
event_goes b n (event.Creds c auth) stories h = goes_later b.generation b.current b.shut false (b.story n) h
event_goes b n (event.CredsError c text) stories h = goes_later b.generation b.current b.shut false (b.story n) h
event_goes b n (event.CredsEnd c) stories h = goes_later b.generation b.current b.shut false (b.story n) h
event_goes b n event.DropStream stories h = goes_later b.generation b.current b.shut false (b.story n) h
event_goes b n event.Shutdown stories h = goes_later b.generation b.current b.shut true (b.story n) h

-- where a timer is asked for
clock_goes : (generation current : ℕ) (shut own : Bool) (s : Story) (t : ℕ) → GoesOn generation current shut s → GoesOn generation current shut (if_own own (clocked s t) s)
clock_goes generation current shut own s t h = chosen (GoesOn generation current shut) own (clocked s t) s (λ e. record { open_on = h.open_on; open_in = h.open_in; tries_on = h.tries_on; late_on = h.late_on; behind = h.behind }) (λ f. h)

-- whoever goes to the next link has no message
carried_goes : (b : Book) (n : ℕ) → Goes b → is_over (current_link b) ≡ true → is_open (b.story n) ≡ true → owed_story b (b.story n) ≡ None → b.current ≤ b.links → GoesOn b.generation b.links b.shut (carried (b.story n) b.links)
carried_goes b n goes over o none i =
    let h = goes n in
    record {
      open_on = λ still. refl;
      open_in = λ still. h.open_in o;
      tries_on = λ t last. absurd (tried_owes b (b.story n) t last (ap (λ l. is_over (b.link l)) (h.tries_on t last ∙ h.open_on o) ∙ over) none);
      late_on = h.late_on;
      behind = omega arith;
    }

-- who isn't open doesn't
closed_goes : (b : Book) (n generation : ℕ) → Goes b → is_open (b.story n) ≡ false → b.current ≤ b.links → GoesOn generation b.links b.shut (b.story n)
closed_goes b n generation goes closed i =
    let h = goes n in
    record { open_on = λ o. absurd (not_both (is_open (b.story n)) closed o); open_in = λ o. absurd (not_both (is_open (b.story n)) closed o); tries_on = h.tries_on; late_on = h.late_on; behind = omega (arith, h.behind, i) }

-- no link is current that is behind the next one
current_within : (b : Book) → Lives b → b.current ≤ b.links
current_within b h = elim h.near [ inl next ↦ omega (arith, next) | inr last ↦ omega (arith, last) ]

-- so with the wait behind an attempt
rest_goes : (b : Book) (t ms g : ℕ) → MayRest b t ms (purpose.Backoff g) → Lives b → Goes b → Goes (entered b (action.Timer t ms (purpose.Backoff g)))
rest_goes b t ms g may lives goes n =
    let over : is_over (current_link b) ≡ true = attempt_is_over (current_link b).end (both_right (has_generations b) (is_attempt (current_link b).end) may.due) in
    let i : b.current ≤ b.links = current_within b lives in
    chosen (GoesOn b.generation b.links b.shut) (is_open (b.story n)) (carried (b.story n) b.links) (b.story n)
    (λ o. carried_goes b n goes over o (may.shown.answered n o) i) (λ f. closed_goes b n b.generation goes f i)

-- and with any timer
timer_goes : (b : Book) (t ms : ℕ) (what : Purpose) → MayTimer b t ms what → Lives b → Goes b → Goes (entered b (action.Timer t ms what))
timer_goes b t ms what may lives goes = elim (timer_rests b t ms what may) [
  | inl rest ↦ subst (λ x. Goes (entered b (action.Timer t ms x))) (sym rest.is_for) (rest_goes b t ms b.generation (subst (MayRest b t ms) rest.is_for rest) lives goes)
  | inr other ↦ λ n. subst (λ c. GoesOn b.generation c b.shut (after_timer b n t what)) (sym (left_if (is_rest what) b.links b.current other))
      (subst (GoesOn b.generation b.current b.shut) (sym (timer_own b n t what other)) (clock_goes b.generation b.current b.shut (is_clock_of n (Some what)) (b.story n) t (goes n)))
]

-- where the current link has ended no submission is open as a generation begins
pub none_open : (b : Book) (g : ℕ) → MayGenerate b g → Goes b → is_over (current_link b) ≡ true → (n : ℕ) → IsOpen b n → ⊥
none_open b g may goes over n o =
    let on : (b.story n).link ≡ b.current = (goes n).open_on o in
    let last : is_attempt (current_link b).end ≡ false = no_attempt (has_generations b) (is_attempt (current_link b).end) (due_parts b may.due).0 may.rested in
    over_owes b (b.story n) (goes n).tries_on (ap (λ l. is_over (b.link l)) on ∙ over) (ap (λ l. is_attempt (b.link l).end) on ∙ last) (may.shown.answered n o)
  where
    no_attempt : (p q : Bool) → p ≡ true → (p && q) ≡ false → q ≡ false
    no_attempt true q e f = f
    no_attempt false q e f = absurd (cc e)

-- so each submission goes on, or the next link is current already
generation_goes : (b : Book) (g : ℕ) → MayGenerate b g → Lives b → Goes b → Goes (entered b (action.Generation g))
generation_goes b g may lives goes n = elim (generation_moves b lives may.due) [
  | inl first ↦
      let h = goes n in
      let next : g ≡ b.generation + 1 = may.next in
      record {
        open_on = λ o. h.open_on o ∙ first.1;
        open_in = λ o. h.open_in o ∙ (ap (max 1) first.0 ∙ sym (ap (max 1) (next ∙ ap (λ k. k + 1) first.0)));
        tries_on = h.tries_on;
        late_on = h.late_on;
        behind = omega (arith, h.behind, first.1);
      }
  | inr over ↦
      let i : b.current ≤ b.links = current_within b lives in
      by_test (is_open (b.story n)) (GoesOn g b.links b.shut (b.story n)) (λ o. absurd (none_open b g may goes over n o)) (λ f. closed_goes b n g goes f i)
]

-- a message that starts does so on the link of its submission
tried_goes : (generation current : ℕ) (shut : Bool) (s : Story) (l k : ℕ) → l ≡ s.link → GoesOn generation current shut s → GoesOn generation current shut (tried s l k)
tried_goes generation current shut s l k on h = record {
  open_on = h.open_on;
  open_in = h.open_in;
  tries_on = λ t last. ap (λ (x : Try). x.link) (sym (same_some (record { link = l; message = k }) t (sym (last_behind s.tries (record { link = l; message = k })) ∙ last))) ∙ on;
  late_on = h.late_on;
  behind = h.behind;
}

-- what is answered is not open
answered_goes : (generation current : ℕ) (shut : Bool) (s : Story) (o : Outcome) → GoesOn generation current shut s → GoesOn generation current shut (answered s o)
answered_goes generation current shut s o h = record {
  open_on = λ still. absurd (not_empty s.outcomes o (open_has_none (answered s o) still));
  open_in = λ still. absurd (not_empty s.outcomes o (open_has_none (answered s o) still));
  tries_on = h.tries_on;
  late_on = h.late_on;
  behind = h.behind;
}

-- one that waits, or takes permits
holds_goes : (generation current : ℕ) (shut own : Bool) (s : Story) (count : ℕ) → GoesOn generation current shut s → GoesOn generation current shut (if_own own (holds s count) s)
holds_goes generation current shut own s count h = chosen (GoesOn generation current shut) own (holds s count) s (λ e. record { open_on = h.open_on; open_in = h.open_in; tries_on = h.tries_on; late_on = h.late_on; behind = h.behind }) (λ f. h)

-- so each action that may stand keeps it
pub goes_kept : (b : Book) (a : Action) → MayStand b a → HasLinks b → HasStories b → Lives b → Goes b → Goes (entered b a)
goes_kept b (action.Turn k (cause.Opening config word)) may links stories lives h n = h n
goes_kept b (action.Turn k (cause.Event e)) may links stories lives h n = event_goes b n e.kind stories (h n)
goes_kept b (action.Connect m host port) may links stories lives h n = subst (λ c. GoesOn b.generation c b.shut (b.story n)) (due_link_is_next b lives links may.due ∙ sym may.next) (h n)
goes_kept b (action.Timer t ms what) may links stories lives h n = timer_goes b t ms what may lives h n
goes_kept b (action.Took owner.Setup m count) may links stories lives h n = absurd may
goes_kept b (action.Took owner.Auth m count) may links stories lives h n = absurd may
goes_kept b (action.Took owner.Resub m count) may links stories lives h n = absurd may
goes_kept b (action.Took owner.Monitor m count) may links stories lives h n = absurd may
goes_kept b (action.Took (owner.Try i round) m count) may links stories lives h n = holds_goes b.generation b.current b.shut (i == n) (b.story n) count (h n)
goes_kept b (action.Push m info) may links stories lives h n = h n
goes_kept b (action.Message msg) may links stories lives h n = h n
goes_kept b (action.Monitor v) may links stories lives h n = h n
goes_kept b (action.NeedCreds c m) may links stories lives h n = h n
goes_kept b (action.Generation g) may links stories lives h n = generation_goes b g may lives h n
goes_kept b (action.Round owner.Setup on) may links stories lives h n = absurd may
goes_kept b (action.Round owner.Auth on) may links stories lives h n = absurd may
goes_kept b (action.Round owner.Resub on) may links stories lives h n = absurd may
goes_kept b (action.Round owner.Monitor on) may links stories lives h n = absurd may
goes_kept b (action.Round (owner.Try i round) on) may links stories lives h n = chosen (GoesOn b.generation b.current b.shut) (i == n) (rounds (b.story n)) (b.story n) (λ e. record { open_on = (h n).open_on; open_in = (h n).open_in; tries_on = (h n).tries_on; late_on = (h n).late_on; behind = (h n).behind }) (λ f. h n)
goes_kept b (action.Close m) may links stories lives h n = h n
goes_kept b (action.Write m bytes) may links stories lives h n = h n
goes_kept b (action.Wait owner.Setup kind) may links stories lives h n = absurd may
goes_kept b (action.Wait owner.Auth kind) may links stories lives h n = absurd may
goes_kept b (action.Wait owner.Resub kind) may links stories lives h n = absurd may
goes_kept b (action.Wait owner.Monitor kind) may links stories lives h n = absurd may
goes_kept b (action.Wait (owner.Try i round) kind) may links stories lives h n = chosen (GoesOn b.generation b.current b.shut) (i == n) (waits (b.story n) kind) (b.story n) (λ e. record { open_on = (h n).open_on; open_in = (h n).open_in; tries_on = (h n).tries_on; late_on = (h n).late_on; behind = (h n).behind }) (λ f. h n)
goes_kept b (action.Start m k owner.Setup count len) may links stories lives h n = h n
goes_kept b (action.Start m k owner.Auth count len) may links stories lives h n = h n
goes_kept b (action.Start m k owner.Resub count len) may links stories lives h n = h n
goes_kept b (action.Start m k owner.Monitor count len) may links stories lives h n = h n
goes_kept b (action.Start m k (owner.Try i round) count len) may links stories lives h n = chosen (GoesOn b.generation b.current b.shut) (i == n) (tried (b.story n) m k) (b.story n)
    (λ e. tried_goes b.generation b.current b.shut (b.story n) m k (subst (λ j. m ≡ (b.story j).link) (eq_from i n e) may.1.on_its_link) (h n)) (λ f. h n)
goes_kept b (action.Created e) may links stories lives h n = h n
goes_kept b (action.Outcome i o) may links stories lives h n = chosen (GoesOn b.generation b.current b.shut) (i == n) (answered (b.story n) o) (b.story n) (λ e. answered_goes b.generation b.current b.shut (b.story n) o (h n)) (λ f. h n)
