-- What a link takes, deed by deed.
use Rattle.std.proofs.Common.{arith, ◌≡◌, ◌⊎◌, inl, inr, ℕ, false, List, [], ◌∷◌, ◌++◌, None, refl, sym, ap, ◌∙◌, subst}
use Rattle.std.proofs.lemmas.List.{append-nil}
use Rattle.containers.proofs.Choices.{not_both}
use Rattle.driver_model.specs.declared.action.Action.{Action}
use Rattle.driver_model.specs.declared.event.Event.{Event}
use Rattle.driver_model.specs.declared.event.EventKind.{EventKind}
use Rattle.driver_model.specs.declared.event.EventKind.TheVariants as event
use Rattle.outside.specs.declared.world.Call.{Call}
use Rattle.outside.specs.declared.world.Call.TheVariants as call
use Rattle.outside.specs.declared.world.Dialed.TheVariants as dialed
use Rattle.outside.specs.declared.world.LinkGot.TheVariants as got
use Rattle.outside.specs.declared.world.LinkPut.TheVariants as put
use Rattle.single_session.specs.declared.core_state.Core.{Core}
use Rattle.single_session.specs.Turn.{effects_of}
use Rattle.single_session.proofs.Effects.{EachIs}
use Rattle.single_session.specs.Replay.{turns_on}
use Rattle.legal_trace.specs.Book.{Book, entered, entered_each}
use Rattle.legal_trace.specs.Legal.{AllStand}
use Rattle.legal_trace.proofs.Plain.{not_none}
use Rattle.live_run.specs.Agenda.{agenda_of, answered, begun, behind, dialled, noted, noted_each, stands, tried, without}
use Rattle.live_run.specs.Deeds.{Deed, did, fired, claim, answer_of, asked, made, calls_of, events_of, actions_of, after, May, MayCall}
use Rattle.live_laws.specs.Taken.{IsNoWrote, taken, taken_by}
use Rattle.live_laws.proofs.Agendas.{Agenda}
use Rattle.live_run.proofs.Early.{early_each, early_noted, links_none}
use Rattle.live_run.proofs.Heard.{none_begins}
use Rattle.live_run.proofs.Hearing.{turn_of, IsNoTurn}
use Rattle.live_laws.proofs.Taking.{action_taken, taken_of, turn_stays}
use Rattle.live_laws.proofs.Offers.{Ties, dialled_ties, gone_ties, noted_ties, turn_ties, wrote_taken, wrote_ties}

-- while no link is up
links_each : (a : Agenda) (xs : List Action) → a.links ≡ [] → (noted_each a xs).links ≡ []
links_each a [] none = none
links_each a (x ∷ xs) none = links_each (noted a x) xs (links_none a x none)

-- within a pass: the links are tied, and link n has taken these bytes
pub record Took (b : Book) (a : Agenda) (n : ℕ) (bytes : List ℕ) : Type 0 where
  pub early : a.early ≡ []
  pub ties : Ties b a.links
  pub took : taken_of b n ≡ bytes

acts_took : (xs : List Action) (b : Book) (a : Agenda) (n : ℕ) (bytes : List ℕ) → EachIs IsNoTurn xs → AllStand b xs → Took b a n bytes → Took (entered_each b xs) (noted_each a xs) n bytes
acts_took [] b a n bytes none stand h = h
acts_took (y ∷ xs) b a n bytes none stand h =
    acts_took xs (entered b y) (noted a y) n bytes none.1 stand.1
    (record { early = early_noted a y ∙ h.early; ties = noted_ties a b y none.0 stand.0 h.ties; took = action_taken b y n none.0 ∙ h.took })

-- once the turn of an answer began, if it has one
abbrev Hears : Book → Agenda → ℕ → ℕ → List EventKind → ℕ → List ℕ → Type 0
Hears b a number word [] n bytes = Took b a n bytes
Hears b a number word (kind ∷ []) n bytes = Took (entered b (turn_of number word kind)) a n bytes
Hears b a number word (kind ∷ next ∷ more) n bytes = ⊥

-- and once the turn is over
abbrev Told : Book → Agenda → List Action → ℕ → List ℕ → Type 0
Told b a actions n bytes = AllStand b actions → Took (entered_each b actions) (noted_each a actions) n bytes

heard_told : (b : Book) (a : Agenda) (core : Core) (word : ℕ) (kinds : List EventKind) (n : ℕ) (bytes : List ℕ) → Hears b a core.turns word kinds n bytes → Told b a (turns_on core (made word kinds)) n bytes
heard_told b a core word [] n bytes h = λ stand. h
heard_told b a core word (kind ∷ []) n bytes h =
    let e : Event = record { word = word; kind = kind } in
    λ stand. subst (λ (xs : List Action). Told (entered b (turn_of core.turns word kind)) a xs n bytes) (sym (append-nil (effects_of core e)))
    (λ stands. acts_took (effects_of core e) (entered b (turn_of core.turns word kind)) a n bytes (none_begins core e) stands h) stand.1
heard_told b a core word (kind ∷ next ∷ more) n bytes h = absurd h

module _ (a : Agenda) (b : Book) (number word n : ℕ) (bytes : List ℕ) (h : Took b a n bytes) where
  -- an event that tells of no taken bytes
  quiet_took : (kind : EventKind) → IsNoWrote kind → (d : Agenda) → d.early ≡ [] → Ties b d.links → Took (entered b (turn_of number word kind)) d n (bytes ++ [])
  quiet_took kind quiet d early ties = record { early = early; ties = turn_ties b number word kind d.links quiet ties; took = (turn_stays b number word n kind quiet).2 ∙ h.took ∙ sym (append-nil bytes) }

  still_took : (d : Agenda) → d.early ≡ [] → d.links ≡ a.links → Took b d n (bytes ++ [])
  still_took d early same = record { early = early; ties = subst (Ties b) (sym same) h.ties; took = h.took ∙ sym (append-nil bytes) }

  gone : (l : ℕ) → Ties b (without l a.links)
  gone l = gone_ties b b l a.links (λ m other. (λ u. u, refl, refl)) h.ties

  call_heard : (c : Call) → MayCall a c → Hears b (answered a c) number word (answer_of c) n (bytes ++ taken_by n c)
  call_heard (call.Dial l host port dialed.Yes) may = quiet_took (event.Connected l) tt (dialled (tried a) l) h.early (dialled_ties b l a.links h.ties)
  call_heard (call.Dial l host port (dialed.Failed fault)) may = quiet_took (event.Refused l fault) tt (tried a) h.early h.ties
  call_heard (call.Read l room (got.Read k) piece) may = quiet_took (event.Bytes l piece) tt a h.early h.ties
  call_heard (call.Read l room got.NotYet piece) may = still_took a h.early refl
  call_heard (call.Read l room got.Ended piece) may = quiet_took (event.Ended l) tt (record a { links = without l a.links }) h.early (gone l)
  call_heard (call.Read l room (got.Failed fault) piece) may = quiet_took (event.ReadFault l fault) tt (record a { links = without l a.links }) h.early (gone l)
  call_heard (call.Write l piece (put.Took k)) may =
      record { early = h.early; ties = wrote_ties b number word l k a.links h.ties; took = wrote_taken b number word l k n a.links piece may.0 may.1 h.ties ∙ ap (λ (xs : List ℕ). xs ++ taken_by n (call.Write l piece (put.Took k))) h.took }
  call_heard (call.Write l piece put.NotYet) may = still_took a h.early refl
  call_heard (call.Write l piece (put.Failed fault)) may = quiet_took (event.WriteFault l fault) tt (record a { links = without l a.links }) h.early (gone l)
  call_heard (call.Close l) may = still_took (record a { closes = behind a.closes }) h.early refl
  call_heard (call.Now moment) may =
      subst (λ (xs : List Action). Took b (noted_each (record a { early = []; moment = moment }) xs) n (bytes ++ [])) (sym h.early) (still_took (record a { early = []; moment = moment }) refl refl)
  call_heard (call.Word w) may = absurd may
  call_heard (call.Wait ms) may = still_took a h.early refl

  fired_heard : (timer : ℕ) → Took (entered b (turn_of number word (event.Fired timer))) (record a { timers = behind a.timers }) n (bytes ++ [])
  fired_heard timer = quiet_took (event.Fired timer) tt (record a { timers = behind a.timers }) h.early h.ties

-- words take nothing
asked_taken : (n word : ℕ) (kinds : List EventKind) → taken n (asked word kinds) ≡ []
asked_taken n word [] = refl
asked_taken n word (kind ∷ kinds) = asked_taken n word kinds

call_taken : (n : ℕ) (c : Call) (word : ℕ) (actions : List Action) (bytes : List ℕ) → bytes ++ taken n (calls_of (did c word actions)) ≡ bytes ++ taken_by n c
call_taken n c word actions bytes = ap (λ (xs : List ℕ). bytes ++ (taken_by n c ++ xs)) (asked_taken n word (answer_of c)) ∙ ap (λ (xs : List ℕ). bytes ++ xs) (append-nil (taken_by n c))

-- a deed within a pass
deed_took : (d : Deed) (b : Book) (a : Agenda) (core : Core) (n : ℕ) (bytes : List ℕ) → May a d → actions_of d ≡ turns_on core (events_of d) → AllStand b (actions_of d) → Took b a n bytes
    → Took (entered_each b (actions_of d)) (after a d) n (bytes ++ taken n (calls_of d))
deed_took (did c word actions) b a core n bytes may is stand h =
    subst (Took (entered_each b actions) (noted_each (answered a c) actions) n) (sym (call_taken n c word actions bytes))
    (subst (λ (xs : List Action). Told b (answered a c) xs n (bytes ++ taken_by n c)) (sym is) (heard_told b (answered a c) core word (answer_of c) n (bytes ++ taken_by n c) (call_heard a b core.turns word n bytes h c may)) stand)
deed_took (fired timer word actions) b a core n bytes may is stand h =
    subst (λ (xs : List Action). Told b (record a { timers = behind a.timers }) xs n (bytes ++ [])) (sym is)
    (heard_told b (record a { timers = behind a.timers }) core word (event.Fired timer ∷ []) n (bytes ++ []) (fired_heard a b core.turns word n bytes h timer)) stand
deed_took (claim number) b a core n bytes may is stand h = record { early = h.early; ties = h.ties; took = h.took ∙ sym (append-nil bytes) }

-- an agenda within a pass, or before the first
abbrev pub Stands : Book → Agenda → ℕ → List ℕ → Type 0
Stands b a n bytes = Took b a n bytes ⊎ ((early : List Action) × (a ≡ agenda_of early) × (taken_of b n ≡ bytes))

pub taken_then : (b : Book) (a : Agenda) (n : ℕ) (bytes : List ℕ) → Stands b a n bytes → taken_of b n ≡ bytes
taken_then b a n bytes (inl h) = h.took
taken_then b a n bytes (inr h) = h.2

-- the first pass begins
begins : (b : Book) (early : List Action) (moment n : ℕ) (bytes : List ℕ) → taken_of b n ≡ bytes → Took b (begun (agenda_of early) moment) n bytes
begins b early moment n bytes took =
    let a : Agenda = record (agenda_of early) { early = []; moment = moment } in
    record { early = early_each a early; ties = subst (Ties b) (sym (links_each a early refl)) (record { each = tt; single = tt }); took = took }

first_deed : (d : Deed) (b : Book) (early : List Action) (core : Core) (n : ℕ) (bytes : List ℕ) → May (agenda_of early) d → actions_of d ≡ turns_on core (events_of d) → taken_of b n ≡ bytes
    → Stands (entered_each b (actions_of d)) (after (agenda_of early) d) n (bytes ++ taken n (calls_of d))
first_deed (did (call.Dial l host port answer) word actions) b early core n bytes may is h = absurd may.0
first_deed (did (call.Read l room answer piece) word actions) b early core n bytes may is h = absurd (not_both false refl may.1)
first_deed (did (call.Write l piece answer) word actions) b early core n bytes may is h = absurd (not_none None piece refl may.1)
first_deed (did (call.Close l) word actions) b early core n bytes may is h = absurd may
first_deed (did (call.Now moment) word actions) b early core n bytes may is h =
    subst (λ (xs : List Action). Stands (entered_each b xs) (noted_each (begun (agenda_of early) moment) xs) n (bytes ++ [])) (sym is) (inl (begins b early moment n (bytes ++ []) (h ∙ sym (append-nil bytes))))
first_deed (did (call.Word w) word actions) b early core n bytes may is h = absurd may
first_deed (did (call.Wait ms) word actions) b early core n bytes may is h =
    subst (λ (xs : List Action). Stands (entered_each b xs) (noted_each (agenda_of early) xs) n (bytes ++ [])) (sym is) (inr (early, refl, h ∙ sym (append-nil bytes)))
first_deed (fired timer word actions) b early core n bytes may is h = absurd (not_none None timer refl may)
first_deed (claim number) b early core n bytes may is h = absurd (omega (arith, may.0, may.1))

pub deed_stands : (d : Deed) (b : Book) (a : Agenda) (core : Core) (n : ℕ) (bytes : List ℕ) → May a d → actions_of d ≡ turns_on core (events_of d) → AllStand b (actions_of d) → Stands b a n bytes
    → Stands (entered_each b (actions_of d)) (after a d) n (bytes ++ taken n (calls_of d))
deed_stands d b a core n bytes may is stand (inl h) = inl (deed_took d b a core n bytes may is stand h)
deed_stands d b a core n bytes may is stand (inr h) =
    subst (λ (x : Agenda). May x d → Stands (entered_each b (actions_of d)) (after x d) n (bytes ++ taken n (calls_of d))) (sym h.1) (λ first. first_deed d b h.0 core n bytes first is h.2) may
