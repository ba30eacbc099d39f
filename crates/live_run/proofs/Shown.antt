-- What the trace gains by deeds, one after another.
use Rattle.std.proofs.Common.{◌≡◌, ℕ, List, [], ◌∷◌, ◌++◌, append_assoc, refl, sym, ap, ◌∙◌, subst}
use Rattle.std.proofs.lemmas.List.{append-nil, append_cancel_left}
use Rattle.driver_model.specs.declared.action.Action.{Action}
use Rattle.driver_model.specs.declared.config.Config.{Config}
use Rattle.driver_model.specs.declared.event.Event.{Event}
use Rattle.driver_model.specs.declared.event.EventKind.{EventKind}
use Rattle.driver_model.specs.declared.event.EventKind.TheVariants as event
use Rattle.shared_session.specs.History.{History}
use Rattle.single_session.specs.declared.core_state.Core.{Core}
use Rattle.single_session.specs.Turn.{next_turn, actions_of}
use Rattle.single_session.specs.Replay.{opening_core, opening_actions, run_on, turns_on, state_after, trace_of}
use Rattle.single_session.proofs.Replays.{trace_of-more}
use Rattle.outside.specs.declared.world.Call.{Call}
use Rattle.live_run.specs.Deeds.{Deed, did, fired, AreShown, answer_of, made, events_of, events_in, actions_in}

turns_append : (c : Core) (xs ys : List Event) → turns_on c (xs ++ ys) ≡ turns_on c xs ++ turns_on (run_on c xs) ys
turns_append c [] ys = refl
turns_append c (x ∷ xs) ys =
    let next = (next_turn c x.kind).core in
    ap (λ (more : List Action). actions_of c x ++ more) (turns_append next xs ys) ∙ sym (append_assoc (actions_of c x) (turns_on next xs) (turns_on (run_on next xs) ys))

-- the trace of a history, and of what comes behind it
pub trace_append : (config : Config) (word : ℕ) (xs ys : List Event) → trace_of config word (xs ++ ys) ≡ trace_of config word xs ++ turns_on (state_after config word xs) ys
unfolding trace_of state_after
trace_append config word xs ys =
    let core = opening_core config word in
    ap (λ (more : List Action). opening_actions config word ++ more) (turns_append core xs ys) ∙ sym (append_assoc (opening_actions config word) (turns_on core xs) (turns_on (run_on core xs) ys))

-- what a trace gains by events is their turns
pub turns_gained : (config : Config) (word : ℕ) (xs ys : List Event) (actions : List Action) → trace_of config word (xs ++ ys) ≡ trace_of config word xs ++ actions → actions ≡ turns_on (state_after config word xs) ys
turns_gained config word xs ys actions is = append_cancel_left (trace_of config word xs) actions (turns_on (state_after config word xs) ys) (sym is ∙ trace_append config word xs ys)

-- one event
pub shown_one : (config : Config) (word : ℕ) (events : List Event) (e : Event) (actions : List Action) → actions ≡ actions_of (state_after config word events) e
    → trace_of config word (events ++ e ∷ []) ≡ trace_of config word events ++ actions
shown_one config word events e actions is = trace_of-more config word events e ∙ ap (λ (more : List Action). trace_of config word events ++ more) (sym is)

-- no event
pub shown_none : (config : Config) (word : ℕ) (events : List Event) → trace_of config word (events ++ []) ≡ trace_of config word events ++ []
shown_none config word events = ap (trace_of config word) (append-nil events) ∙ sym (append-nil (trace_of config word events))

-- two parts, one after the other
pub shown_more : (config : Config) (word : ℕ) (events : List Event) (xs ys : List Deed) → AreShown config word events xs → AreShown config word (events ++ events_in xs) ys → AreShown config word events (xs ++ ys)
shown_more config word events [] ys h k = subst (λ (es : List Event). AreShown config word es ys) (append-nil events) k
shown_more config word events (x ∷ xs) ys h k =
    (h.0, shown_more config word (events ++ events_of x) xs ys h.1 (subst (λ (es : List Event). AreShown config word es ys) (sym (append_assoc events (events_of x) (events_in xs))) k))

-- all that the trace gains
pub shown_whole : (config : Config) (word : ℕ) (events : List Event) (ds : List Deed) → AreShown config word events ds → trace_of config word (events ++ events_in ds) ≡ trace_of config word events ++ actions_in ds
shown_whole config word events [] h = shown_none config word events
shown_whole config word events (d ∷ ds) h =
    let behind = events ++ events_of d in
    ap (trace_of config word) (sym (append_assoc events (events_of d) (events_in ds)))
    ∙ shown_whole config word behind ds h.1
    ∙ ap (λ (front : List Action). front ++ actions_in ds) h.0
    ∙ append_assoc (trace_of config word events) (Rattle.live_run.specs.Deeds.actions_of d) (actions_in ds)

-- a call whose answer is an event
pub shown_answer : (s : History) (c : Call) (word : ℕ) (kind : EventKind) (actions : List Action) → answer_of c ≡ kind ∷ [] → actions ≡ actions_of (state_after s.config s.word s.events) (record { word = word; kind = kind })
    → AreShown s.config s.word s.events (did c word actions ∷ [])
shown_answer s c word kind actions is turn =
    let e : Event = record { word = word; kind = kind } in
    (subst (λ (kinds : List EventKind). trace_of s.config s.word (s.events ++ made word kinds) ≡ trace_of s.config s.word s.events ++ actions) (sym is) (shown_one s.config s.word s.events e actions turn), tt)

-- a call whose answer is none
pub shown_quiet : (s : History) (c : Call) (word : ℕ) → answer_of c ≡ [] → AreShown s.config s.word s.events (did c word [] ∷ [])
shown_quiet s c word is = (subst (λ (kinds : List EventKind). trace_of s.config s.word (s.events ++ made word kinds) ≡ trace_of s.config s.word s.events ++ []) (sym is) (shown_none s.config s.word s.events), tt)

pub shown_fired : (s : History) (timer word : ℕ) (actions : List Action) → actions ≡ actions_of (state_after s.config s.word s.events) (record { word = word; kind = event.Fired timer })
    → AreShown s.config s.word s.events (fired timer word actions ∷ [])
shown_fired s timer word actions turn = (shown_one s.config s.word s.events (record { word = word; kind = event.Fired timer }) actions turn, tt)

-- deeds of a session, and then those of the session that it is then
pub shown_then : (before between : History) (xs ys : List Deed) → between.config ≡ before.config → between.word ≡ before.word → between.events ≡ before.events ++ events_in xs
    → AreShown before.config before.word before.events xs → AreShown between.config between.word between.events ys → AreShown before.config before.word before.events (xs ++ ys)
shown_then before between xs ys config word grown one two =
    let moved = subst (λ (c : Config). AreShown c between.word between.events ys) config two in
    let same_word = subst (λ (w : ℕ). AreShown before.config w between.events ys) word moved in
    shown_more before.config before.word before.events xs ys one (subst (λ (es : List Event). AreShown before.config before.word es ys) grown same_word)
