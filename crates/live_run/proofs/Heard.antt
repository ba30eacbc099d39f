-- What is asked of the world stays known, deed by deed.
use Rattle.std.proofs.Common.{◌≡◌, ℕ, ◌<◌, List, [], ◌∷◌, refl, sym, subst, arith, length}
use Rattle.std.proofs.lemmas.List.{append-nil}
use Rattle.driver_model.specs.declared.action.Action.{Action}
use Rattle.driver_model.specs.declared.event.Event.{Event}
use Rattle.driver_model.specs.declared.event.EventKind.{EventKind}
use Rattle.driver_model.specs.declared.event.EventKind.TheVariants as event
use Rattle.outside.specs.declared.world.Call.{Call}
use Rattle.outside.specs.declared.world.Call.TheVariants as call
use Rattle.outside.specs.declared.world.Dialed.TheVariants as dialed
use Rattle.outside.specs.declared.world.LinkGot.TheVariants as got
use Rattle.outside.specs.declared.world.LinkPut.TheVariants as put
use Rattle.mux_conn.specs.declared.act.LinkAct.{LinkAct}
use Rattle.mux_conn.specs.declared.act.LinkAct.TheVariants as act
use Rattle.single_session.specs.declared.core_state.Core.{Core}
use Rattle.single_session.specs.Turn.{shown, effects_of}
use Rattle.single_session.proofs.Effects.{EachIs, IsTrueOfEffects, each_effect}
use Rattle.single_session.specs.Replay.{turns_on}
use Rattle.legal_trace.specs.Book.{Book, entered, entered_each}
use Rattle.legal_trace.specs.Legal.{AllStand}
use Rattle.live_run.specs.declared.agenda.Agenda.{Agenda}
use Rattle.live_run.specs.declared.agenda.Target.{Target}
use Rattle.live_run.specs.declared.links.Link.{Link}
use Rattle.live_run.specs.declared.timers.Pending.{Pending}
use Rattle.live_run.specs.Agenda.{answered, behind, dialled, noted, noted_each, offered, tried, without}
use Rattle.live_run.specs.Deeds.{Deed, did, fired, claim, answer_of, made, events_of, actions_of, after, MayCall, May}
use Rattle.live_run.proofs.Agendas.{each_behind, each_last, each_offered, each_without, first_dialled, none_offered, single_last, single_offered, single_without}
use Rattle.live_run.proofs.Hearing.{IsNoTurn, IsNoWrote, turn_grows, turn_of}
use Rattle.live_run.proofs.Standing.{IsKnown, IsKnownLink, Knows, known_grown, noted_known, wrote_known}

-- no act of a connection begins a turn
pub no_turn : (l t c : ℕ) (x : LinkAct) → IsNoTurn (shown l t c x)
no_turn l t c (act.Created e) = tt
no_turn l t c (act.Round n) = tt
no_turn l t c (act.Took n count) = tt
no_turn l t c (act.Timer n ms) = tt
no_turn l t c (act.RenewalTimer k ms) = tt
no_turn l t c (act.RepeatTimer ms) = tt
no_turn l t c (act.SetUp message need len) = tt
no_turn l t c (act.Watch message need len) = tt
no_turn l t c (act.Renewed message need len) = tt
no_turn l t c (act.Repeated message need len) = tt
no_turn l t c (act.Push info) = tt
no_turn l t c (act.Message m) = tt
no_turn l t c (act.Monitor v) = tt
no_turn l t c act.Close = tt
no_turn l t c (act.Write bytes) = tt
no_turn l t c (act.Wait n kind) = tt
no_turn l t c act.NeedCreds = tt
no_turn l t c act.NeedRenewals = tt
no_turn l t c (act.Start message n need len) = tt
no_turn l t c (act.Outcome n o) = tt

-- nor does an effect of a turn
pub effects_begin_none : IsTrueOfEffects IsNoTurn
effects_begin_none = record { shows = no_turn; generation = λ g. tt; connect = λ l host port. tt; timer = λ t ms what. tt; lazy = tt }

pub none_begins : (c : Core) (e : Event) → EachIs IsNoTurn (effects_of c e)
none_begins c e = each_effect IsNoTurn effects_begin_none c e

acts_known : (xs : List Action) (b : Book) (a : Agenda) → EachIs IsNoTurn xs → AllStand b xs → Knows b a → Knows (entered_each b xs) (noted_each a xs)
acts_known [] b a none stand h = h
acts_known (y ∷ xs) b a none stand h = acts_known xs (entered b y) (noted a y) none.1 stand.1 (noted_known a b y none.0 stand.0 h)

-- what is known once the turn of an answer began, if it has one
abbrev Hears : Book → Agenda → ℕ → ℕ → List EventKind → Type 0
Hears b a number word [] = Knows b a
Hears b a number word (kind ∷ []) = Knows (entered b (turn_of number word kind)) a
Hears b a number word (kind ∷ next ∷ more) = ⊥

-- and once the turn is over
abbrev Told : Book → Agenda → List Action → Type 0
Told b a actions = AllStand b actions → Knows (entered_each b actions) (noted_each a actions)

heard_told : (b : Book) (a : Agenda) (core : Core) (word : ℕ) (kinds : List EventKind) → Hears b a core.turns word kinds → Told b a (turns_on core (made word kinds))
heard_told b a core word [] h = λ stand. h
heard_told b a core word (kind ∷ []) h =
    let e : Event = record { word = word; kind = kind } in
    λ stand. subst (Told (entered b (turn_of core.turns word kind)) a) (sym (append-nil (effects_of core e)))
    (λ stands. acts_known (effects_of core e) (entered b (turn_of core.turns word kind)) a (none_begins core e) stands h) stand.1
heard_told b a core word (kind ∷ next ∷ more) h = absurd h

module _ (a : Agenda) (b : Book) (number word : ℕ) (h : Knows b a) where
  ended_known : (l : ℕ) (kind : EventKind) → IsNoWrote kind → Knows (entered b (turn_of number word kind)) (record a { links = without l a.links })
  ended_known l kind quiet =
      let k = known_grown (turn_grows b number word kind quiet) h in
      record { dials = k.dials; links = each_without (IsKnownLink (entered b (turn_of number word kind))) l a.links k.links; single = single_without l a.links k.single; timers = k.timers }

  dialled_known : (l : ℕ) → l < b.links → Knows (entered b (turn_of number word (event.Connected l))) (dialled (tried a) l)
  dialled_known l less =
      let c = entered b (turn_of number word (event.Connected l)) in
      let k = known_grown (turn_grows b number word (event.Connected l) tt) h in
      let fresh : IsKnownLink c (record { number = l; offer = [] }) = (less, λ going. omega arith) in
      record {
        dials = each_behind (λ (t : Target). t.link < c.links) a.dials k.dials;
        links = each_last (IsKnownLink c) a.links (record { number = l; offer = [] }) k.links fresh;
        single = single_last a.links (record { number = l; offer = [] }) refl k.single;
        timers = k.timers;
      }

  refused_known : (l : ℕ) (kind : EventKind) → IsNoWrote kind → Knows (entered b (turn_of number word kind)) (tried a)
  refused_known l kind quiet =
      let k = known_grown (turn_grows b number word kind quiet) h in
      record { dials = each_behind (λ (t : Target). t.link < (entered b (turn_of number word kind)).links) a.dials k.dials; links = k.links; single = k.single; timers = k.timers }

  taken_known : (l count : ℕ) → Knows (entered b (turn_of number word (event.Wrote l count))) (record a { links = offered l [] a.links })
  taken_known l count =
      let offers_nothing : (x : Link) → x.number ≡ l → IsKnownLink b x → IsKnownLink b (record x { offer = [] }) = λ x is known. (known.0, λ going. omega arith) in
      let known : IsKnown a.dials (offered l [] a.links) a.timers b = record {
        dials = h.dials;
        links = each_offered (IsKnownLink b) l [] a.links offers_nothing h.links;
        single = single_offered l [] a.links h.single;
        timers = h.timers;
      } in
      wrote_known a.dials (offered l [] a.links) a.timers b number word l count (none_offered l a.links h.single) known

  call_heard : (c : Call) → a.early ≡ [] → MayCall a c → Hears b (answered a c) number word (answer_of c)
  call_heard (call.Dial l host port dialed.Yes) none may = dialled_known l (first_dialled (λ n. n < b.links) a.dials l host port h.dials may.0)
  call_heard (call.Dial l host port (dialed.Failed fault)) none may = refused_known l (event.Refused l fault) tt
  call_heard (call.Read l room (got.Read n) bytes) none may = known_grown (turn_grows b number word (event.Bytes l bytes) tt) h
  call_heard (call.Read l room got.NotYet bytes) none may = h
  call_heard (call.Read l room got.Ended bytes) none may = ended_known l (event.Ended l) tt
  call_heard (call.Read l room (got.Failed fault) bytes) none may = ended_known l (event.ReadFault l fault) tt
  call_heard (call.Write l piece (put.Took n)) none may = taken_known l n
  call_heard (call.Write l piece put.NotYet) none may = h
  call_heard (call.Write l piece (put.Failed fault)) none may = ended_known l (event.WriteFault l fault) tt
  call_heard (call.Close l) none may = h
  call_heard (call.Now moment) none may = subst (λ (xs : List Action). Knows b (noted_each (record a { early = []; moment = moment }) xs)) (sym none) h
  call_heard (call.Word w) none may = absurd may
  call_heard (call.Wait ms) none may = h

  fired_heard : (timer : ℕ) → Knows (entered b (turn_of number word (event.Fired timer))) (record a { timers = behind a.timers })
  fired_heard timer =
      let c = entered b (turn_of number word (event.Fired timer)) in
      let k = known_grown (turn_grows b number word (event.Fired timer) tt) h in
      record { dials = k.dials; links = k.links; single = k.single; timers = each_behind (λ (t : Pending). t.timer < length c.timers) a.timers k.timers }

-- a deed has the actions of its own turn
pub deed_known : (d : Deed) (b : Book) (a : Agenda) (core : Core) → a.early ≡ [] → May a d → actions_of d ≡ turns_on core (events_of d) → AllStand b (actions_of d) → Knows b a → Knows (entered_each b (actions_of d)) (after a d)
deed_known (did c word actions) b a core none may is stand h =
    subst (Told b (answered a c)) (sym is) (heard_told b (answered a c) core word (answer_of c) (call_heard a b core.turns word h c none may)) stand
deed_known (fired timer word actions) b a core none may is stand h =
    subst (Told b (record a { timers = behind a.timers })) (sym is) (heard_told b (record a { timers = behind a.timers }) core word (event.Fired timer ∷ []) (fired_heard a b core.turns word h timer)) stand
deed_known (claim number) b a core none may is stand h = record { dials = h.dials; links = h.links; single = h.single; timers = h.timers }
