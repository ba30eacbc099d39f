-- One deed: a call and what came of its answer, or a timer that fires.
use Rattle.std.proofs.Common.{arith, ◌≡◌, ℕ, List, [], ◌∷◌, ◌++◌, Option, Some, refl, ◌∙◌, ap, inl, inr, subst}
use Rattle.std.specs.Prelude.{false}
use Rattle.std.proofs.lemmas.List.{append-nil}
use Rattle.driver_model.specs.declared.action.Action.{Action}
use Rattle.driver_model.specs.declared.config.Config.{Config}
use Rattle.driver_model.specs.declared.event.Event.{Event}
use Rattle.driver_model.specs.declared.event.EventKind.{EventKind}
use Rattle.driver_model.specs.declared.event.EventKind.TheVariants as event
use Rattle.outside.specs.World.{Adds}
use Rattle.outside.specs.declared.world.Call.{Call}
use Rattle.outside.specs.declared.world.Call.TheVariants as call
use Rattle.shared_session.specs.History.{History}
use Rattle.single_session.specs.Replay.{state_after, is_bad_after, is_spent_after}
use Rattle.single_session.specs.Turn.{actions_of, is_bad, next_turn, spends}
use Rattle.shared_session.specs.declared.errors.StepError.{StepError}
use Rattle.shared_session.specs.declared.errors.StepError.TheVariants.{BadEvent, Spent, NoMemory}
use Rattle.single_session.specs.declared.core_state.Core.{Core}
use Rattle.single_session.specs.Replay.{AreGood, AreGoodOn, AreUnspent, AreUnspentOn, opening_core, run_on}
use Rattle.shared_session.specs.declared.session.Failure.TheVariants as failure
use Rattle.single_session.proofs.Replays.{trace_of-more}
use Rattle.live_run.specs.declared.agenda.Agenda.{Agenda}
use Rattle.live_run.specs.Agenda.{answered, behind, first_due, noted_each}
use Rattle.live_run.specs.Deeds.{actions_of as deed_actions}
use Rattle.live_run.specs.Deeds.{Deed, did, fired, Went, Does, Broke, May, MayCall, MayStep, calls_of, events_of, of_call, of_timer, IsWhy, IsGood, IsUnspent, traced, answer_of, asked, made}
use Rattle.live_run.specs.Steps.{Stepped, Refuses, Refused, Settled, Unsettled, refused, unnoted}
use Rattle.live_run.proofs.Runs.{shown_by, told_adds, told_more, went_call, went_calls, went_none, went_more}

shown_step : (before after : History) (e : Event) → after ≡ record before { events = before.events ++ e ∷ [] }
    → traced after ≡ traced before ++ actions_of (state_after before.config before.word before.events) e
shown_step before after e is = rw is (trace_of-more before.config before.word before.events e)

good_on_more : (c : Core) (es : List Event) (e : Event) → AreGoodOn c es → is_bad (run_on c es) e.kind ≡ false → AreGoodOn c (es ++ e ∷ [])
good_on_more c [] e all fine = (fine, tt)
good_on_more c (d ∷ es) e all fine = (all.0, good_on_more (next_turn c d.kind).core es e all.1 fine)

good_more : (config : Config) (word : ℕ) (es : List Event) (e : Event) → AreGood config word es → is_bad_after config word es e ≡ false → AreGood config word (es ++ e ∷ [])
unfolding AreGood state_after
good_more config word es e all fine = good_on_more (opening_core config word) es e all fine

good_step : (before after : History) (e : Event) → after ≡ record before { events = before.events ++ e ∷ [] }
    → is_bad_after before.config before.word before.events e ≡ false → IsGood before → IsGood after
good_step before after e is fine good = rw is (good_more before.config before.word before.events e good fine)

unspent_on_more : (c : Core) (es : List Event) (e : Event) → AreUnspentOn c es → spends (run_on c es) e ≡ false → AreUnspentOn c (es ++ e ∷ [])
unspent_on_more c [] e all free = (free, tt)
unspent_on_more c (d ∷ es) e all free = (all.0, unspent_on_more (next_turn c d.kind).core es e all.1 free)

unspent_more : (config : Config) (word : ℕ) (es : List Event) (e : Event) → AreUnspent config word es → is_spent_after config word es e ≡ false → AreUnspent config word (es ++ e ∷ [])
unfolding AreUnspent state_after
unspent_more config word es e all free = unspent_on_more (opening_core config word) es e all free

unspent_step : (before after : History) (e : Event) → after ≡ record before { events = before.events ++ e ∷ [] }
    → is_spent_after before.config before.word before.events e ≡ false → IsUnspent before → IsUnspent after
unspent_step before after e is free unspent = rw is (unspent_more before.config before.word before.events e unspent free)

-- a word was asked for, and its event was taken
pub stepped : {old new : Option (List Call)} {before after : History} {start actions : List Action} (word : ℕ) (kind : EventKind) → Adds old new (call.Word word)
    → after ≡ record before { events = before.events ++ record { word = word; kind = kind } ∷ [] }
    → start ≡ [] → actions ≡ start ++ actions_of (state_after before.config before.word before.events) (record { word = word; kind = kind })
    → before.failure ≡ failure.Sound
    → is_bad_after before.config before.word before.events (record { word = word; kind = kind }) ≡ false
    → is_spent_after before.config before.word before.events (record { word = word; kind = kind }) ≡ false
    → Stepped old new before after kind actions
stepped {before = before} {after = after} word kind adds is none shows sound fine free =
    let e : Event = record { word = word; kind = kind } in
    record {
      asked_word = word;
      went = record {
        told = told_adds adds;
        grown = ap (λ (h : History). h.events) is;
        config = ap (λ (h : History). h.config) is;
        word = ap (λ (h : History). h.word) is;
        shown = rw (shows, none) (shown_step before after e is);
        good = good_step before after e is fine;
        unspent = unspent_step before after e is free;
        same_failure = ap (λ (h : History). h.failure) is;
        sound = inl sound;
      };
    }

-- nothing came of an answer
pub settled_none : {old : Option (List Call)} {before : History} {a : Agenda} → Settled old old before before [] a a
settled_none = record { asked_word = 0; actions = []; went = went_none; leads = refl }

pub unsettled_step : {error : StepError} {old new : Option (List Call)} {before after : History} {kind : EventKind} → Refused error old new before after kind → Unsettled error old new before after (kind ∷ [])
unsettled_step {kind = kind} refusal = refused kind refl refusal

pub unsettled_note : {old new : Option (List Call)} {before after : History} {kind : EventKind} {actions : List Action} → Stepped old new before after kind actions → Unsettled NoMemory old new before after (kind ∷ [])
unsettled_note {actions = actions} step = unnoted step.asked_word actions refl step.went

-- one call with its turn
abbrev pub Did : Call → List Deed → Type 0
Did c ds = (word : ℕ) × (actions : List Action) × (ds ≡ did c word actions ∷ [])

abbrev pub DidFire : ℕ → List Deed → Type 0
DidFire timer ds = (word : ℕ) × (actions : List Action) × (ds ≡ fired timer word actions ∷ [])

call_went : {old mid new : Option (List Call)} {before after : History} {kinds : List EventKind} (c : Call) (word : ℕ) (actions : List Action) → Adds old mid c → answer_of c ≡ kinds
    → Went mid new before after (asked word kinds) (made word kinds) actions → Went old new before after (c ∷ asked word (answer_of c)) (made word (answer_of c)) actions
call_went c word actions adds is went = rw is (went_more (went_call adds) went)

-- the deeds, the events and the actions of one deed
one_went : {old new : Option (List Call)} {before after : History} {cs : List Call} {es : List Event} {xs : List Action} → Went old new before after cs es xs → Went old new before after (cs ++ []) (es ++ []) (xs ++ [])
one_went {cs = cs} {es = es} {xs = xs} went = rw (append-nil cs, append-nil es, append-nil xs) went

-- a call that may be made, and what came of its answer
pub settled_call : {old mid new : Option (List Call)} {before after : History} {kinds : List EventKind} {a b d : Agenda} (c : Call) → Adds old mid c → answer_of c ≡ kinds → MayCall a c → b ≡ answered a c
    → Settled mid new before after kinds b d → Does old new before after a d (Did c)
settled_call c adds is may noted s = record {
  deeds = did c s.asked_word s.actions ∷ [];
  went = one_went (call_went c s.asked_word s.actions adds is s.went);
  shown = (shown_by (call_went c s.asked_word s.actions adds is s.went), tt);
  may = (may, tt);
  leads = s.leads ∙ ap (λ (x : Agenda). noted_each x s.actions) noted;
  form = (s.asked_word, s.actions, refl);
}

pub settled_fire : {old new : Option (List Call)} {before after : History} {a b d : Agenda} (timer : ℕ) → first_due a ≡ Some timer → b ≡ record a { timers = behind a.timers }
    → Settled old new before after (event.Fired timer ∷ []) b d → Does old new before after a d (DidFire timer)
settled_fire timer due noted s = record {
  deeds = fired timer s.asked_word s.actions ∷ [];
  went = one_went s.went;
  shown = (shown_by s.went, tt);
  may = (due, tt);
  leads = s.leads ∙ ap (λ (x : Agenda). noted_each x s.actions) noted;
  form = (s.asked_word, s.actions, refl);
}

-- why a step was refused, of what may be stepped
why_of : (error : StepError) (s : History) (a : Agenda) (e : Event) → Refuses error s e → MayStep a e.kind → IsWhy error s a
why_of BadEvent s a e why may = (e, may, why)
why_of (Spent n) s a e why may = (why.0, elim why.1 [ inl failed ↦ inl failed | inr by ↦ inr (e, may, by) ])
why_of NoMemory s a e why may = tt

-- a step that was refused
pub broke_step : {error : StepError} {old new : Option (List Call)} {before after : History} {kind : EventKind} {a : Agenda} → MayStep a kind → Refused error old new before after kind → Broke error old new before after a
broke_step {error} {old} {new} {before} {after} {kind} {a} may refusal = record {
  last = before;
  deeds = [];
  lost = call.Word refusal.asked_word ∷ [];
  few = omega arith;
  went = went_calls refusal.told;
  shown = tt;
  may = tt;
  why = why_of error before a (record { word = refusal.asked_word; kind = kind }) refusal.why may;
  kept = refusal.kept;
}

-- a call, and the step of what came of its answer was refused
broke_answer : {error : StepError} {old mid new : Option (List Call)} {before after : History} {kind : EventKind} {a : Agenda} (c : Call) → Adds old mid c → MayStep a kind → Refused error mid new before after kind
    → Broke error old new before after a
broke_answer {error} {old} {mid} {new} {before} {after} {kind} {a} c adds may refusal = record {
  last = before;
  deeds = [];
  lost = c ∷ call.Word refusal.asked_word ∷ [];
  few = omega arith;
  went = went_calls (told_more (told_adds adds) refusal.told);
  shown = tt;
  may = tt;
  why = why_of error before a (record { word = refusal.asked_word; kind = kind }) refusal.why may;
  kept = refusal.kept;
}

noting : {old new : Option (List Call)} {before after : History} {a : Agenda} (d : Deed) → May a d → Went old new before after (calls_of d) (events_of d) (deed_actions d) → Broke NoMemory old new before after a
noting {after = after} d may went = record {
  last = after;
  deeds = d ∷ [];
  lost = [];
  few = omega arith;
  went = rw (append-nil (calls_of d ++ [])) (one_went went);
  shown = (shown_by went, tt);
  may = (may, tt);
  why = tt;
  kept = refl;
}

-- a deed, and memory was refused to note what its turn asks
broke_noting : {error : StepError} {old new : Option (List Call)} {before after : History} {a : Agenda} (d : Deed) → error ≡ NoMemory → May a d
    → Went old new before after (calls_of d) (events_of d) (deed_actions d) → Broke error old new before after a
broke_noting {error} {old} {new} {before} {after} {a} d is may went = rw is (noting d may went)

fire_may : {a : Agenda} (timer : ℕ) (kind : EventKind) → first_due a ≡ Some timer → event.Fired timer ∷ [] ≡ kind ∷ [] → MayStep a kind
fire_may {a} timer kind due one = let is : event.Fired timer ≡ kind = cc in subst (λ (k : EventKind). MayStep a k) is (of_timer timer due)

-- a call that may be made, and what came of its answer was not settled
pub broke_settle : {error : StepError} {old mid new : Option (List Call)} {before after : History} {kinds : List EventKind} {a : Agenda} (c : Call) → Adds old mid c → answer_of c ≡ kinds → MayCall a c
    → Unsettled error mid new before after kinds → Broke error old new before after a
broke_settle c adds is may (refused kind one refusal) = broke_answer c adds (of_call c may kind (is ∙ one)) refusal
broke_settle c adds is may (unnoted word actions none went) = broke_noting (did c word actions) none may (call_went c word actions adds is went)

pub broke_fire : {error : StepError} {old new : Option (List Call)} {before after : History} {a : Agenda} (timer : ℕ) → first_due a ≡ Some timer → Unsettled error old new before after (event.Fired timer ∷ [])
    → Broke error old new before after a
broke_fire timer due (refused kind one refusal) = broke_step (fire_may timer kind due one) refusal
broke_fire timer due (unnoted word actions none went) = broke_noting (fired timer word actions) none due went
