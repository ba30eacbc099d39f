-- Which links are dialled, deed by deed.
use Rattle.std.proofs.Common.{arith, ◌≡◌, ◌⊎◌, inl, inr, ℕ, ◌==◌, false, List, [], ◌∷◌, ◌++◌, None, append_assoc, refl, sym, ap, ◌∙◌, subst}
use Rattle.std.proofs.lemmas.List.{append-nil}
use Rattle.containers.proofs.Choices.{chosen, not_both}
use Rattle.driver_model.specs.declared.action.Action.{Action}
use Rattle.driver_model.specs.declared.action.Action.TheVariants as action
use Rattle.driver_model.specs.declared.config.Config.{Config}
use Rattle.driver_model.specs.declared.event.Event.{Event}
use Rattle.driver_model.specs.declared.event.EventKind.{EventKind}
use Rattle.outside.specs.declared.world.Call.{Call}
use Rattle.outside.specs.declared.world.Call.TheVariants as call
use Rattle.outside.specs.declared.world.Dialed.TheVariants as dialed
use Rattle.outside.specs.declared.world.LinkGot.TheVariants as got
use Rattle.outside.specs.declared.world.LinkPut.TheVariants as put
use Rattle.legal_trace.proofs.Plain.{not_none}
use Rattle.single_session.specs.declared.core_state.Core.{Core}
use Rattle.single_session.specs.Replay.{state_after, turns_on}
use Rattle.live_run.specs.Agenda.{agenda_of, answered, begun, behind, noted, noted_each, removed, stands, undialled, without}
use Rattle.live_run.specs.Deeds.{AllMay, AreShown, Deed, IsFirstOf, May, MayCall, did, fired, claim, actions_in, actions_of, after, answer_of, asked, calls_in, calls_of, events_of}
use Rattle.live_run.proofs.Shown.{turns_gained}
use Rattle.live_laws.specs.Dials.{IsPicked, connects_by, connects_in, dials_by, dials_in}
use Rattle.live_laws.proofs.Agendas.{Agenda, Target}
use Rattle.live_laws.proofs.Picked.{picked_behind, picked_front, picked_last, picked_more, picked_trans, picked_under}
use Rattle.live_run.proofs.Early.{early_each}

pub dials_append : (xs ys : List Call) → dials_in (xs ++ ys) ≡ dials_in xs ++ dials_in ys
dials_append [] ys = refl
dials_append (x ∷ xs) ys = ap (λ (more : List ℕ). dials_by x ++ more) (dials_append xs ys) ∙ sym (append_assoc (dials_by x) (dials_in xs) (dials_in ys))

pub connects_append : (xs ys : List Action) → connects_in (xs ++ ys) ≡ connects_in xs ++ connects_in ys
connects_append [] ys = refl
connects_append (x ∷ xs) ys = ap (λ (more : List ℕ). connects_by x ++ more) (connects_append xs ys) ∙ sym (append_assoc (connects_by x) (connects_in xs) (connects_in ys))

-- the links that are to be dialled
abbrev pub links_of : List Target → List ℕ
links_of [] = []
links_of (t ∷ ts) = t.link ∷ links_of ts

links_last : (ts : List Target) (t : Target) → links_of (ts ++ t ∷ []) ≡ links_of ts ++ t.link ∷ []
links_last [] t = refl
links_last (u ∷ ts) t = ap (λ (more : List ℕ). u.link ∷ more) (links_last ts t)

undialled_picked : (l : ℕ) (ts : List Target) → IsPicked (links_of (undialled l ts)) (links_of ts)
undialled_picked l [] = tt
undialled_picked l (t ∷ ts) =
    chosen (λ (us : List Target). IsPicked (links_of us) (t.link ∷ links_of ts)) (t.link == l) ts (t ∷ undialled l ts) (λ same. picked_behind t.link (links_of ts)) (λ apart. inl (refl, undialled_picked l ts))

-- what was dialled, and what is to be dialled, are picked of what was asked
abbrev pub Picks : List ℕ → List Target → List ℕ → Type 0
Picks done ts asks = IsPicked (done ++ links_of ts) asks

picks_nothing : (done : List ℕ) (ts : List Target) (asks : List ℕ) → Picks done ts asks → Picks done ts (asks ++ [])
picks_nothing done ts asks h = subst (IsPicked (done ++ links_of ts)) (sym (append-nil asks)) h

noted_picks : (a : Agenda) (x : Action) (done asks : List ℕ) → Picks done a.dials asks → Picks done (noted a x).dials (asks ++ connects_by x)
noted_picks a (action.Turn number c) done asks h = picks_nothing done a.dials asks h
noted_picks a (action.Connect l host port) done asks h =
    let t : Target = record { link = l; host = host; port = port; generation = a.generation } in
    let same : done ++ links_of (a.dials ++ t ∷ []) ≡ (done ++ links_of a.dials) ++ l ∷ [] = ap (λ (more : List ℕ). done ++ more) (links_last a.dials t) ∙ sym (append_assoc done (links_of a.dials) (l ∷ [])) in
    subst (λ (xs : List ℕ). IsPicked xs (asks ++ l ∷ [])) (sym same) (picked_last l (done ++ links_of a.dials) asks h)
noted_picks a (action.Timer t ms what) done asks h = picks_nothing done a.dials asks h
noted_picks a (action.Close l) done asks h =
    let d : Agenda = record a { links = without l a.links; dials = undialled l a.dials } in
    let fewer = picked_trans (done ++ links_of (undialled l a.dials)) (done ++ links_of a.dials) asks (picked_under done (links_of (undialled l a.dials)) (links_of a.dials) (undialled_picked l a.dials)) h in
    let known : Picks done (undialled l a.dials) (asks ++ []) = picks_nothing done (undialled l a.dials) asks fewer in
    chosen (λ (e : Agenda). Picks done e.dials (asks ++ [])) (stands l a.unclosed) (record d { unclosed = removed l a.unclosed; closes = a.closes ++ l ∷ [] }) d (λ t. known) (λ f. known)
noted_picks a (action.Write l bytes) done asks h = picks_nothing done a.dials asks h
noted_picks a (action.Took who l count) done asks h = picks_nothing done a.dials asks h
noted_picks a (action.Push l info) done asks h = picks_nothing done a.dials asks h
noted_picks a (action.Message m) done asks h = picks_nothing done a.dials asks h
noted_picks a (action.Monitor v) done asks h = picks_nothing done a.dials asks h
noted_picks a (action.NeedCreds c l) done asks h = picks_nothing done a.dials asks h
noted_picks a (action.Generation g) done asks h = picks_nothing done a.dials asks h
noted_picks a (action.Round who l) done asks h = picks_nothing done a.dials asks h
noted_picks a (action.Start l message who count len) done asks h = picks_nothing done a.dials asks h
noted_picks a (action.Wait who kind) done asks h = picks_nothing done a.dials asks h
noted_picks a (action.Created e) done asks h = picks_nothing done a.dials asks h
noted_picks a (action.Outcome n o) done asks h = picks_nothing done a.dials asks h

each_picks : (a : Agenda) (xs : List Action) (done asks : List ℕ) → Picks done a.dials asks → Picks done (noted_each a xs).dials (asks ++ connects_in xs)
each_picks a [] done asks h = picks_nothing done a.dials asks h
each_picks a (x ∷ xs) done asks h =
    subst (IsPicked (done ++ links_of (noted_each (noted a x) xs).dials)) (append_assoc asks (connects_by x) (connects_in xs)) (each_picks (noted a x) xs done (asks ++ connects_by x) (noted_picks a x done asks h))

-- the first that is to be dialled is dialled
first_dialled : (done : List ℕ) (ts : List Target) (l : ℕ) (name : List ℕ) (port : ℕ) (asks : List ℕ) → IsFirstOf ts l name port → Picks done ts asks → Picks (done ++ l ∷ []) (behind ts) asks
first_dialled done [] l name port asks first h = absurd first
first_dialled done (t ∷ ts) l name port asks first h =
    subst (λ (xs : List ℕ). IsPicked xs asks) (ap (λ (n : ℕ). done ++ n ∷ links_of ts) (sym first.0) ∙ sym (append_assoc done (l ∷ []) (links_of ts))) h

-- within a pass
pub record Dials (done : List ℕ) (a : Agenda) (asks : List ℕ) : Type 0 where
  pub early : a.early ≡ []
  pub picks : Picks done a.dials asks

same_dials : (done : List ℕ) (a : Agenda) (asks : List ℕ) → a.early ≡ [] → Picks done a.dials asks → Dials (done ++ []) a asks
same_dials done a asks early h = record { early = early; picks = subst (λ (xs : List ℕ). Picks xs a.dials asks) (sym (append-nil done)) h }

call_dials : (a : Agenda) (done asks : List ℕ) (c : Call) → MayCall a c → Dials done a asks → Dials (done ++ dials_by c) (answered a c) asks
call_dials a done asks (call.Dial l host port dialed.Yes) may h = record { early = h.early; picks = first_dialled done a.dials l host port asks may.0 h.picks }
call_dials a done asks (call.Dial l host port (dialed.Failed fault)) may h = record { early = h.early; picks = first_dialled done a.dials l host port asks may.0 h.picks }
call_dials a done asks (call.Read l room (got.Read k) piece) may h = same_dials done a asks h.early h.picks
call_dials a done asks (call.Read l room got.NotYet piece) may h = same_dials done a asks h.early h.picks
call_dials a done asks (call.Read l room got.Ended piece) may h = same_dials done (record a { links = without l a.links }) asks h.early h.picks
call_dials a done asks (call.Read l room (got.Failed fault) piece) may h = same_dials done (record a { links = without l a.links }) asks h.early h.picks
call_dials a done asks (call.Write l piece (put.Took k)) may h = same_dials done (answered a (call.Write l piece (put.Took k))) asks h.early h.picks
call_dials a done asks (call.Write l piece put.NotYet) may h = same_dials done a asks h.early h.picks
call_dials a done asks (call.Write l piece (put.Failed fault)) may h = same_dials done (record a { links = without l a.links }) asks h.early h.picks
call_dials a done asks (call.Close l) may h = same_dials done (record a { closes = behind a.closes }) asks h.early h.picks
call_dials a done asks (call.Now moment) may h =
    subst (λ (xs : List Action). Dials (done ++ []) (noted_each (record a { early = []; moment = moment }) xs) asks) (sym h.early) (same_dials done (record a { early = []; moment = moment }) asks refl h.picks)
call_dials a done asks (call.Word w) may h = absurd may
call_dials a done asks (call.Wait ms) may h = same_dials done a asks h.early h.picks

-- words dial nothing
asked_dials : (word : ℕ) (kinds : List EventKind) → dials_in (asked word kinds) ≡ []
asked_dials word [] = refl
asked_dials word (kind ∷ kinds) = asked_dials word kinds

noted_dials : (a : Agenda) (actions : List Action) (done asks : List ℕ) → Dials done a asks → Dials done (noted_each a actions) (asks ++ connects_in actions)
noted_dials a actions done asks h = record { early = early_each a actions ∙ h.early; picks = each_picks a actions done asks h.picks }

deed_dials : (d : Deed) (a : Agenda) (done asks : List ℕ) → May a d → Dials done a asks → Dials (done ++ dials_in (calls_of d)) (after a d) (asks ++ connects_in (actions_of d))
deed_dials (did c word actions) a done asks may h =
    let same : dials_by c ++ dials_in (asked word (answer_of c)) ≡ dials_by c = ap (λ (more : List ℕ). dials_by c ++ more) (asked_dials word (answer_of c)) ∙ append-nil (dials_by c) in
    subst (λ (xs : List ℕ). Dials (done ++ xs) (noted_each (answered a c) actions) (asks ++ connects_in actions)) (sym same)
    (noted_dials (answered a c) actions (done ++ dials_by c) asks (call_dials a done asks c may h))
deed_dials (fired timer word actions) a done asks may h =
    noted_dials (record a { timers = behind a.timers }) actions (done ++ []) asks (same_dials done (record a { timers = behind a.timers }) asks h.early h.picks)
deed_dials (claim number) a done asks may h = noted_dials (record a { claimed = number }) [] (done ++ []) asks (same_dials done (record a { claimed = number }) asks h.early h.picks)

-- within a pass, or before the first, where nothing was dialled
abbrev pub Stands : List ℕ → Agenda → List ℕ → Type 0
Stands done a asks = Dials done a asks ⊎ ((early : List Action) × (a ≡ agenda_of early) × (done ≡ []) × (asks ≡ connects_in early))

begins : (early : List Action) (moment : ℕ) → Dials [] (begun (agenda_of early) moment) (connects_in early)
begins early moment =
    let a : Agenda = record (agenda_of early) { early = []; moment = moment } in
    record { early = early_each a early; picks = each_picks a early [] [] tt }

first_deed : (d : Deed) (early : List Action) (core : Core) → May (agenda_of early) d → actions_of d ≡ turns_on core (events_of d)
    → Stands ([] ++ dials_in (calls_of d)) (after (agenda_of early) d) (connects_in early ++ connects_in (actions_of d))
first_deed (did (call.Dial l host port answer) word actions) early core may is = absurd may.0
first_deed (did (call.Read l room answer piece) word actions) early core may is = absurd (not_both false refl may.1)
first_deed (did (call.Write l piece answer) word actions) early core may is = absurd (not_none None piece refl may.1)
first_deed (did (call.Close l) word actions) early core may is = absurd may
first_deed (did (call.Now moment) word actions) early core may is =
    inl (noted_dials (begun (agenda_of early) moment) actions [] (connects_in early) (begins early moment))
first_deed (did (call.Word w) word actions) early core may is = absurd may
first_deed (did (call.Wait ms) word actions) early core may is =
    subst (λ (xs : List Action). Stands [] (noted_each (agenda_of early) xs) (connects_in early ++ connects_in xs)) (sym is) (inr (early, refl, refl, append-nil (connects_in early)))
first_deed (fired timer word actions) early core may is = absurd (not_none None timer refl may)
first_deed (claim number) early core may is = absurd (omega (arith, may.0, may.1))

deed_stands : (d : Deed) (a : Agenda) (core : Core) (done asks : List ℕ) → May a d → actions_of d ≡ turns_on core (events_of d) → Stands done a asks → Stands (done ++ dials_in (calls_of d)) (after a d) (asks ++ connects_in (actions_of d))
deed_stands d a core done asks may is (inl h) = inl (deed_dials d a done asks may h)
deed_stands d a core done asks may is (inr h) =
    subst (λ (x : Agenda). May x d → Stands (done ++ dials_in (calls_of d)) (after x d) (asks ++ connects_in (actions_of d))) (sym h.1)
    (λ first. subst (λ (xs : List ℕ). Stands (xs ++ dials_in (calls_of d)) (after (agenda_of h.0) d) (asks ++ connects_in (actions_of d))) (sym h.2)
    (subst (λ (xs : List ℕ). Stands ([] ++ dials_in (calls_of d)) (after (agenda_of h.0) d) (xs ++ connects_in (actions_of d))) (sym h.3) (first_deed d h.0 core first is)))
    may

picked_then : (done : List ℕ) (a : Agenda) (asks : List ℕ) → Stands done a asks → IsPicked done asks
picked_then done a asks (inl h) = picked_front done (links_of a.dials) asks h.picks
picked_then done a asks (inr h) = subst (λ (xs : List ℕ). IsPicked xs asks) (sym h.2) tt

-- all deeds
pub deeds_picked : (config : Config) (word : ℕ) (deeds : List Deed) (events : List Event) (a : Agenda) (done asks : List ℕ) → AllMay a deeds → AreShown config word events deeds → Stands done a asks
    → IsPicked (done ++ dials_in (calls_in deeds)) (asks ++ connects_in (actions_in deeds))
deeds_picked config word [] events a done asks may shown h =
    subst (λ (xs : List ℕ). IsPicked xs (asks ++ [])) (sym (append-nil done)) (picked_more done asks [] (picked_then done a asks h))
deeds_picked config word (d ∷ ds) events a done asks may shown h =
    let one = deed_stands d a (state_after config word events) done asks may.0 (turns_gained config word events (events_of d) (actions_of d) shown.0) h in
    let rest = deeds_picked config word ds (events ++ events_of d) (after a d) (done ++ dials_in (calls_of d)) (asks ++ connects_in (actions_of d)) may.1 shown.1 one in
    let dials : done ++ dials_in (calls_of d ++ calls_in ds) ≡ (done ++ dials_in (calls_of d)) ++ dials_in (calls_in ds) =
    ap (λ (xs : List ℕ). done ++ xs) (dials_append (calls_of d) (calls_in ds)) ∙ sym (append_assoc done (dials_in (calls_of d)) (dials_in (calls_in ds))) in
    let connects : asks ++ connects_in (actions_of d ++ actions_in ds) ≡ (asks ++ connects_in (actions_of d)) ++ connects_in (actions_in ds) =
    ap (λ (xs : List ℕ). asks ++ xs) (connects_append (actions_of d) (actions_in ds)) ∙ sym (append_assoc asks (connects_in (actions_of d)) (connects_in (actions_in ds))) in
    subst (λ (xs : List ℕ). IsPicked xs (asks ++ connects_in (actions_of d ++ actions_in ds))) (sym dials)
    (subst (IsPicked ((done ++ dials_in (calls_of d)) ++ dials_in (calls_in ds))) (sym connects) rest)
