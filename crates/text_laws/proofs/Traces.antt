-- The turns of a replay's trace are those of its history, and its text tells them.
use Rattle.std.proofs.Common.{◌≡◌, ℕ, false, List, [], ◌∷◌, ◌++◌, All, Some, map, refl, ap, ◌∙◌, subst}
use Rattle.std.specs.Prelude.{option_and_then}
use Rattle.std.proofs.lemmas.List.Elements.{All-nil, All-cons, All-head, All-tail, All-same}
use Rattle.driver_model.specs.declared.action.Action.{Action}
use Rattle.driver_model.specs.declared.action.Action.TheVariants as action
use Rattle.driver_model.specs.declared.action.Cause.{Cause}
use Rattle.driver_model.specs.declared.action.Cause.TheVariants as cause
use Rattle.driver_model.specs.declared.config.Config.{Config}
use Rattle.driver_model.specs.Config.{address, connect_timeout, manager_of, is_lazy}
use Rattle.driver_model.specs.declared.event.Event.{Event}
use Rattle.driver_model.specs.declared.event.EventKind.{EventKind}
use Rattle.driver_model.specs.declared.event.EventKind.TheVariants as event
use Rattle.mux_conn.specs.declared.act.LinkAct.{LinkAct}
use Rattle.mux_conn.specs.declared.act.LinkAct.TheVariants as act
use Rattle.single_session.specs.declared.core_state.Core.{Core}
use Rattle.single_session.specs.Turn.{next_turn, is_bad, shown, effects_of, actions_of}
use Rattle.single_session.specs.Replay.{opening_core, begun_as, connect_asked, turns_on, trace_of, AreGoodOn, AreGood}
use Rattle.legal_trace.specs.Legal.{causes, event_causes}
use Rattle.trace_text.specs.Show.{show}
use Rattle.text_laws.specs.Fits.{FitsEvent, FitsHistory, HasForm, WithForm, HaveForms}
use Rattle.text_laws.specs.History.{history_in, history_of}
use Rattle.text_laws.proofs.Back.{causes_back}
use Rattle.text_laws.proofs.Bytes.{FitsCause}
use Rattle.single_session.proofs.Stays.{turn_kind, opening_kind}
use Rattle.single_session.proofs.Effects.{EachIs, IsTrueOfEffects, each_effect, each_begun}
use Rattle.text_laws.proofs.Turns.{cause_line, turns_told}

-- it begins no turn
abbrev IsNoTurn : Action → Type 0
IsNoTurn (action.Turn k c) = ⊥
IsNoTurn _ = Unit {0}

-- what a connection shows begins none
no_turn : (l t c : ℕ) (x : LinkAct) → IsNoTurn (shown l t c x)
no_turn l t c (act.Created error) = tt
no_turn l t c (act.Round n) = tt
no_turn l t c (act.Took n count) = tt
no_turn l t c (act.Timer n ms) = tt
no_turn l t c (act.RenewalTimer k ms) = tt
no_turn l t c (act.RepeatTimer ms) = tt
no_turn l t c act.NeedCreds = tt
no_turn l t c act.NeedRenewals = tt
no_turn l t c act.Close = tt
no_turn l t c (act.Push info) = tt
no_turn l t c (act.Message m) = tt
no_turn l t c (act.Monitor v) = tt
no_turn l t c (act.Watch message need len) = tt
no_turn l t c (act.Write bytes) = tt
no_turn l t c (act.Wait n kind) = tt
no_turn l t c (act.SetUp message need len) = tt
no_turn l t c (act.Renewed message need len) = tt
no_turn l t c (act.Repeated message need len) = tt
no_turn l t c (act.Start message n need len) = tt
no_turn l t c (act.Outcome n o) = tt

effects_begin_none : IsTrueOfEffects IsNoTurn
effects_begin_none = record { shows = no_turn; generation = λ g. tt; connect = λ l host port. tt; timer = λ t ms what. tt; lazy = tt }

no_causes : (xs : List Action) → EachIs IsNoTurn xs → causes xs ≡ []
no_causes [] none = refl
no_causes (action.Turn k c ∷ xs) none = absurd none.0
no_causes (action.Connect link host port ∷ xs) none = no_causes xs none.1
no_causes (action.Timer timer ms what ∷ xs) none = no_causes xs none.1
no_causes (action.Took owner link count ∷ xs) none = no_causes xs none.1
no_causes (action.Push link info ∷ xs) none = no_causes xs none.1
no_causes (action.Message msg ∷ xs) none = no_causes xs none.1
no_causes (action.Monitor value ∷ xs) none = no_causes xs none.1
no_causes (action.NeedCreds source link ∷ xs) none = no_causes xs none.1
no_causes (action.Generation g ∷ xs) none = no_causes xs none.1
no_causes (action.Round who link ∷ xs) none = no_causes xs none.1
no_causes (action.Close link ∷ xs) none = no_causes xs none.1
no_causes (action.Write link bytes ∷ xs) none = no_causes xs none.1
no_causes (action.Wait owner kind ∷ xs) none = no_causes xs none.1
no_causes (action.Start link message owner need len ∷ xs) none = no_causes xs none.1
no_causes (action.Created error ∷ xs) none = no_causes xs none.1
no_causes (action.Outcome s outcome ∷ xs) none = no_causes xs none.1

causes_append : (xs ys : List Action) → causes (xs ++ ys) ≡ causes xs ++ causes ys
causes_append [] ys = refl
causes_append (action.Turn k c ∷ xs) ys = ap (λ (cs : List Cause). c ∷ cs) (causes_append xs ys)
causes_append (action.Connect link host port ∷ xs) ys = causes_append xs ys
causes_append (action.Timer timer ms what ∷ xs) ys = causes_append xs ys
causes_append (action.Took owner link count ∷ xs) ys = causes_append xs ys
causes_append (action.Push link info ∷ xs) ys = causes_append xs ys
causes_append (action.Message msg ∷ xs) ys = causes_append xs ys
causes_append (action.Monitor value ∷ xs) ys = causes_append xs ys
causes_append (action.NeedCreds source link ∷ xs) ys = causes_append xs ys
causes_append (action.Generation g ∷ xs) ys = causes_append xs ys
causes_append (action.Round who link ∷ xs) ys = causes_append xs ys
causes_append (action.Close link ∷ xs) ys = causes_append xs ys
causes_append (action.Write link bytes ∷ xs) ys = causes_append xs ys
causes_append (action.Wait owner kind ∷ xs) ys = causes_append xs ys
causes_append (action.Start link message owner need len ∷ xs) ys = causes_append xs ys
causes_append (action.Created error ∷ xs) ys = causes_append xs ys
causes_append (action.Outcome s outcome ∷ xs) ys = causes_append xs ys

-- a turn has its own cause alone
one_cause : (c : Core) (e : Event) → causes (actions_of c e) ≡ cause.Event e ∷ []
one_cause c e = ap (λ (cs : List Cause). cause.Event e ∷ cs) (no_causes (effects_of c e) (each_effect IsNoTurn effects_begin_none c e))

causes_on : (c : Core) (es : List Event) → causes (turns_on c es) ≡ event_causes es
causes_on c [] = refl
causes_on c (e ∷ es) =
    let next = (next_turn c e.kind).core in
    causes_append (actions_of c e) (turns_on next es) ∙ ap (λ (cs : List Cause). cs ++ causes (turns_on next es)) (one_cause c e)
    ∙ ap (λ (cs : List Cause). cause.Event e ∷ cs) (causes_on next es)

-- also where an event is bad
pub turns_of_history : (config : Config) (word : ℕ) (events : List Event) → causes (trace_of config word events) ≡ cause.Opening config word ∷ event_causes events
unfolding trace_of
turns_of_history config word events =
    let begun = begun_as (manager_of config) (is_lazy config) (connect_asked (address config) (connect_timeout config)) in
    let none = each_begun IsNoTurn effects_begin_none (manager_of config) (is_lazy config) (address config) (connect_timeout config) in
    let rest = turns_on (opening_core config word) events in
    ap (λ (cs : List Cause). cause.Opening config word ∷ cs)
    (causes_append begun rest ∙ ap (λ (cs : List Cause). cs ++ causes rest) (no_causes begun none) ∙ causes_on (opening_core config word) events)

events_fit : (es : List Event) → All FitsEvent es → All FitsCause (event_causes es)
events_fit [] fits = All-nil FitsCause
events_fit (e ∷ es) fits = All-cons FitsCause (cause.Event e) (event_causes es) (All-head FitsEvent e es fits) (events_fit es (All-tail FitsEvent e es fits))

causes_fit : (config : Config) (word : ℕ) (events : List Event) → FitsHistory config word events → All FitsCause (cause.Opening config word ∷ event_causes events)
causes_fit config word events fits = All-cons FitsCause (cause.Opening config word) (event_causes events) (fits.config, fits.word) (events_fit events fits.events)

-- also where an event is bad, if no submission is without a form
pub history_back : (config : Config) (word : ℕ) (events : List Event) → FitsHistory config word events → HaveForms config events
    → history_of (show (trace_of config word events)) ≡ Some (record { config = config; word = word; events = events })
unfolding history_of
history_back config word events fits forms =
    let turns = turns_of_history config word events in
    ap (option_and_then history_in) (turns_told (trace_of config word events) (All-same FitsCause _ _ turns (causes_fit config word events fits)))
    ∙ ap (λ (cs : List Cause). history_in (map cause_line cs)) turns ∙ causes_back config word events fits forms

-- a good event hands in nothing without a form
good_form : (c : Core) (kind : EventKind) → is_bad c kind ≡ false → HasForm c.kind kind
unfolding is_bad
good_form c (event.Submit what) good = good
good_form c (event.Cancel n) good = tt
good_form c (event.Connected l) good = tt
good_form c (event.Refused l kind) good = tt
good_form c (event.Wrote l count) good = tt
good_form c (event.Bytes l piece) good = tt
good_form c (event.Ended l) good = tt
good_form c (event.ReadFault l kind) good = tt
good_form c (event.WriteFault l kind) good = tt
good_form c (event.Fired timer) good = tt
good_form c (event.Creds source auth) good = tt
good_form c (event.CredsError source text) good = tt
good_form c (event.CredsEnd source) good = tt
good_form c (event.Timeout ms) good = tt
good_form c event.DropStream good = tt
good_form c event.Shutdown good = tt

good_forms_on : (c : Core) (es : List Event) → AreGoodOn c es → All (WithForm c.kind) es
good_forms_on c [] good = All-nil (WithForm c.kind)
good_forms_on c (e ∷ es) good =
    All-cons (WithForm c.kind) e es (good_form c e.kind good.0) (subst (λ session. All (WithForm session) es) (turn_kind c e.kind) (good_forms_on (next_turn c e.kind).core es good.1))

-- nor does a good history
pub good_forms : (config : Config) (word : ℕ) (events : List Event) → AreGood config word events → HaveForms config events
unfolding AreGood
good_forms config word events good = subst (λ session. All (WithForm session) events) (opening_kind config word) (good_forms_on (opening_core config word) events good)

-- without exception where no event is bad
pub good_history_back : (config : Config) (word : ℕ) (events : List Event) → FitsHistory config word events → AreGood config word events
    → history_of (show (trace_of config word events)) ≡ Some (record { config = config; word = word; events = events })
good_history_back config word events fits good = history_back config word events fits (good_forms config word events good)
