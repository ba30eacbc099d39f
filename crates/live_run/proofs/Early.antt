-- What was asked before the first pass is known once it is noted, and then all that is asked.
use Rattle.std.proofs.Common.{arith, ◌≡◌, ◌⊎◌, inl, inr, ℕ, false, List, [], ◌∷◌, ◌++◌, None, append_assoc, refl, sym, ap, ◌∙◌, subst}
use Rattle.std.proofs.lemmas.List.{append-nil}
use Rattle.containers.proofs.Choices.{chosen, not_both}
use Rattle.driver_model.specs.declared.action.Action.{Action}
use Rattle.driver_model.specs.declared.action.Action.TheVariants as action
use Rattle.driver_model.specs.declared.action.Cause.TheVariants as cause
use Rattle.driver_model.specs.declared.config.Config.{Config}
use Rattle.driver_model.specs.declared.event.Event.{Event}
use Rattle.outside.specs.declared.world.Call.{Call}
use Rattle.outside.specs.declared.world.Call.TheVariants as call
use Rattle.outside.specs.declared.world.Dialed.TheVariants as dialed
use Rattle.outside.specs.declared.world.LinkGot.TheVariants as got
use Rattle.outside.specs.declared.world.LinkPut.TheVariants as put
use Rattle.single_session.specs.declared.core_state.Core.{Core}
use Rattle.single_session.specs.Turn.{shown}
use Rattle.single_session.specs.Replay.{turns_on, state_after, trace_of}
use Rattle.legal_trace.specs.Book.{Book, blank_book, book, entered, entered_each}
use Rattle.legal_trace.specs.Legal.{MayStand, AllStand}
use Rattle.legal_trace.proofs.Plain.{not_none}
use Rattle.legal_trace.proofs.Books.{book_append, stand_front, stand_behind}
use Rattle.live_run.specs.Passes.{Each}
use Rattle.live_run.specs.declared.agenda.Agenda.{Agenda}
use Rattle.live_run.specs.Agenda.{agenda_of, answered, begun, behind, noted, noted_each, offered, removed, stands, undialled, without}
use Rattle.live_run.specs.Deeds.{Deed, did, fired, claim, events_of, events_in, actions_of, actions_in, after, after_each, May, AllMay, AreShown}
use Rattle.live_run.proofs.Shown.{turns_gained}
use Rattle.live_run.proofs.Standing.{IsKnownLink, Knows, noted_known}
use Rattle.live_run.proofs.Heard.{deed_known}

-- what was asked before the first pass is noted once
pub early_noted : (a : Agenda) (x : Action) → (noted a x).early ≡ a.early
early_noted a (action.Turn number c) = refl
early_noted a (action.Connect l host port) = refl
early_noted a (action.Timer t ms what) = refl
early_noted a (action.Close l) =
    let d : Agenda = record a { links = without l a.links; dials = undialled l a.dials } in
    chosen (λ (e : Agenda). e.early ≡ a.early) (stands l a.unclosed) (record d { unclosed = removed l a.unclosed; closes = a.closes ++ l ∷ [] }) d (λ t. refl) (λ f. refl)
early_noted a (action.Write l bytes) = refl
early_noted a (action.Took who l count) = refl
early_noted a (action.Push l info) = refl
early_noted a (action.Message m) = refl
early_noted a (action.Monitor v) = refl
early_noted a (action.NeedCreds c l) = refl
early_noted a (action.Generation g) = refl
early_noted a (action.Round who l) = refl
early_noted a (action.Start l message who count len) = refl
early_noted a (action.Wait who kind) = refl
early_noted a (action.Created e) = refl
early_noted a (action.Outcome n o) = refl

pub early_each : (a : Agenda) (xs : List Action) → (noted_each a xs).early ≡ a.early
early_each a [] = refl
early_each a (x ∷ xs) = early_each (noted a x) xs ∙ early_noted a x

early_begun : (a : Agenda) (moment : ℕ) → (begun a moment).early ≡ []
early_begun a moment = early_each (record a { early = []; moment = moment }) a.early

early_answered : (a : Agenda) (c : Call) → a.early ≡ [] → (answered a c).early ≡ []
early_answered a (call.Dial l host port dialed.Yes) none = none
early_answered a (call.Dial l host port (dialed.Failed fault)) none = none
early_answered a (call.Read l room (got.Read n) bytes) none = none
early_answered a (call.Read l room got.NotYet bytes) none = none
early_answered a (call.Read l room got.Ended bytes) none = none
early_answered a (call.Read l room (got.Failed fault) bytes) none = none
early_answered a (call.Write l piece (put.Took n)) none = none
early_answered a (call.Write l piece put.NotYet) none = none
early_answered a (call.Write l piece (put.Failed fault)) none = none
early_answered a (call.Close l) none = none
early_answered a (call.Now moment) none = early_begun a moment
early_answered a (call.Word word) none = none
early_answered a (call.Wait ms) none = none

early_after : (a : Agenda) (d : Deed) → a.early ≡ [] → (after a d).early ≡ []
early_after a (did c word actions) none = early_each (answered a c) actions ∙ early_answered a c none
early_after a (fired timer word actions) none = early_each (record a { timers = behind a.timers }) actions ∙ none
early_after a (claim number) none = none

-- while no link is up
pub links_none : (a : Agenda) (x : Action) → a.links ≡ [] → (noted a x).links ≡ []
links_none a (action.Turn number c) none = none
links_none a (action.Connect l host port) none = none
links_none a (action.Timer t ms what) none = none
links_none a (action.Close l) none =
    let d : Agenda = record a { links = without l a.links; dials = undialled l a.dials } in
    let gone : without l a.links ≡ [] = ap (without l) none in
    chosen (λ (e : Agenda). e.links ≡ []) (stands l a.unclosed) (record d { unclosed = removed l a.unclosed; closes = a.closes ++ l ∷ [] }) d (λ t. gone) (λ f. gone)
links_none a (action.Write l bytes) none = ap (offered l bytes) none
links_none a (action.Took who l count) none = none
links_none a (action.Push l info) none = none
links_none a (action.Message m) none = none
links_none a (action.Monitor v) none = none
links_none a (action.NeedCreds c l) none = none
links_none a (action.Generation g) none = none
links_none a (action.Round who l) none = none
links_none a (action.Start l message who count len) none = none
links_none a (action.Wait who kind) none = none
links_none a (action.Created e) none = none
links_none a (action.Outcome n o) none = none

early_known : (a : Agenda) (b : Book) (x : Action) → a.links ≡ [] → MayStand b x → Knows b a → Knows (entered b x) (noted a x)
early_known a b (action.Turn number (cause.Opening config word)) none may h =
    let c = entered b (action.Turn number (cause.Opening config word)) in record { dials = h.dials; links = subst (Each (IsKnownLink c)) (sym none) tt; single = h.single; timers = h.timers }
early_known a b (action.Turn number (cause.Event e)) none may h =
    let c = entered b (action.Turn number (cause.Event e)) in record { dials = h.dials; links = subst (Each (IsKnownLink c)) (sym none) tt; single = h.single; timers = h.timers }
early_known a b (action.Connect l host port) none may h = noted_known a b (action.Connect l host port) tt may h
early_known a b (action.Timer t ms what) none may h = noted_known a b (action.Timer t ms what) tt may h
early_known a b (action.Close l) none may h = noted_known a b (action.Close l) tt may h
early_known a b (action.Write l bytes) none may h = noted_known a b (action.Write l bytes) tt may h
early_known a b (action.Took who l count) none may h = noted_known a b (action.Took who l count) tt may h
early_known a b (action.Push l info) none may h = noted_known a b (action.Push l info) tt may h
early_known a b (action.Message m) none may h = noted_known a b (action.Message m) tt may h
early_known a b (action.Monitor v) none may h = noted_known a b (action.Monitor v) tt may h
early_known a b (action.NeedCreds c l) none may h = noted_known a b (action.NeedCreds c l) tt may h
early_known a b (action.Generation g) none may h = noted_known a b (action.Generation g) tt may h
early_known a b (action.Round who l) none may h = noted_known a b (action.Round who l) tt may h
early_known a b (action.Start l message who count len) none may h = noted_known a b (action.Start l message who count len) tt may h
early_known a b (action.Wait who kind) none may h = noted_known a b (action.Wait who kind) tt may h
early_known a b (action.Created e) none may h = noted_known a b (action.Created e) tt may h
early_known a b (action.Outcome n o) none may h = noted_known a b (action.Outcome n o) tt may h

early_each_known : (xs : List Action) (a : Agenda) (b : Book) → a.links ≡ [] → AllStand b xs → Knows b a → Knows (entered_each b xs) (noted_each a xs)
early_each_known [] a b none stand h = h
early_each_known (x ∷ xs) a b none stand h = early_each_known xs (noted a x) (entered b x) (links_none a x none) stand.1 (early_known a b x none stand.0 h)

-- an agenda before its first pass, or within one
abbrev pub Stands : Book → Agenda → Type 0
Stands b a = ((a.early ≡ []) × Knows b a) ⊎ ((early : List Action) × (a ≡ agenda_of early) × ((moment : ℕ) → Knows b (begun (agenda_of early) moment)))

knows_nothing : (b : Book) (early : List Action) → Knows b (agenda_of early)
knows_nothing b early = record { dials = tt; links = tt; single = tt; timers = tt }

pub known_of : (b : Book) (a : Agenda) → Stands b a → Knows b a
known_of b a (inl h) = h.1
known_of b a (inr h) = subst (Knows b) (sym h.1) (knows_nothing b h.0)

first_deed : (d : Deed) (b : Book) (early : List Action) (core : Core) → May (agenda_of early) d → actions_of d ≡ turns_on core (events_of d) → ((moment : ℕ) → Knows b (begun (agenda_of early) moment))
    → Stands (entered_each b (actions_of d)) (after (agenda_of early) d)
first_deed (did (call.Dial l host port answer) word actions) b early core may is h = absurd may.0
first_deed (did (call.Read l room answer bytes) word actions) b early core may is h = absurd (not_both false refl may.1)
first_deed (did (call.Write l piece answer) word actions) b early core may is h = absurd (not_none None piece refl may.1)
first_deed (did (call.Close l) word actions) b early core may is h = absurd may
first_deed (did (call.Now moment) word actions) b early core may is h =
    subst (λ (xs : List Action). Stands (entered_each b xs) (noted_each (begun (agenda_of early) moment) xs)) (sym is) (inl (early_begun (agenda_of early) moment, h moment))
first_deed (did (call.Word w) word actions) b early core may is h = absurd may
first_deed (did (call.Wait ms) word actions) b early core may is h = subst (λ (xs : List Action). Stands (entered_each b xs) (noted_each (agenda_of early) xs)) (sym is) (inr (early, refl, h))
first_deed (fired timer word actions) b early core may is h = absurd (not_none None timer refl may)
first_deed (claim number) b early core may is h = absurd (omega (arith, may.0, may.1))

deed_stands : (d : Deed) (b : Book) (a : Agenda) (core : Core) → May a d → actions_of d ≡ turns_on core (events_of d) → AllStand b (actions_of d) → Stands b a → Stands (entered_each b (actions_of d)) (after a d)
deed_stands d b a core may is stand (inl h) = inl (early_after a d h.0, deed_known d b a core h.0 may is stand h.1)
deed_stands d b a core may is stand (inr h) =
    subst (λ (x : Agenda). May x d → Stands (entered_each b (actions_of d)) (after x d)) (sym h.1) (λ first. first_deed d b h.0 core first is h.2) may

-- all deeds
pub deeds_stand : (config : Config) (word : ℕ) (deeds : List Deed) (events : List Event) (a : Agenda) → AllStand (book (trace_of config word events)) (actions_in deeds) → AllMay a deeds → AreShown config word events deeds
    → Stands (book (trace_of config word events)) a → Stands (book (trace_of config word (events ++ events_in deeds))) (after_each a deeds)
deeds_stand config word [] events a stand may shown h = subst (λ (es : List Event). Stands (book (trace_of config word es)) a) (sym (append-nil events)) h
deeds_stand config word (d ∷ ds) events a stand may shown h =
    let b = book (trace_of config word events) in
    let there : book (trace_of config word (events ++ events_of d)) ≡ entered_each b (actions_of d) = ap book shown.0 ∙ book_append (trace_of config word events) (actions_of d) in
    let one = deed_stands d b a (state_after config word events) may.0 (turns_gained config word events (events_of d) (actions_of d) shown.0) (stand_front b (actions_of d) (actions_in ds) stand) h in
    let rest = deeds_stand config word ds (events ++ events_of d) (after a d) (subst (λ (x : Book). AllStand x (actions_in ds)) (sym there) (stand_behind b (actions_of d) (actions_in ds) stand)) may.1 shown.1
    (subst (λ (x : Book). Stands x (after a d)) (sym there) one) in
    subst (λ (es : List Event). Stands (book (trace_of config word es)) (after_each (after a d) ds)) (append_assoc events (events_of d) (events_in ds)) rest

pub book_stands : (xs ys : List Action) → AllStand blank_book (xs ++ ys) → AllStand (book xs) ys
unfolding book
book_stands xs ys stand = stand_behind blank_book xs ys stand

-- what was asked before the first pass
pub agenda_stands : (early : List Action) → AllStand blank_book early → Stands (book early) (agenda_of early)
unfolding book
agenda_stands early stand = inr (early, refl, λ moment. early_each_known early (record (agenda_of early) { early = []; moment = moment }) blank_book refl stand (knows_nothing blank_book []))
