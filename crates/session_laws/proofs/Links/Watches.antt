-- MONITOR starts on a link whose server is put into monitor mode.
use Rattle.std.proofs.Common.{List, [], ap, arith, false, inl, inr, length, refl, subst, sym, true, ℕ, ◌++◌, ◌∙◌, ◌∷◌, ◌≡◌, ◌⊎◌}
use Rattle.containers.proofs.Choices.{by_test, left_if, not_both, taken_if}
use Rattle.driver_model.specs.Shape.{need_of}
use Rattle.driver_model.specs.declared.action.Action.{Action}
use Rattle.driver_model.specs.declared.action.Action.TheVariants as action
use Rattle.driver_model.specs.declared.action.Owner.{Owner}
use Rattle.driver_model.specs.declared.action.Owner.TheVariants as owner
use Rattle.link_core.specs.Link.{LinkState, holds_back, start_of, started_each, started_one}
use Rattle.link_core.specs.declared.message.Queued.{Queued}
use Rattle.link_laws.proofs.TiedLink.{TiedLink, begun_tied, queue_tied}
use Rattle.link_laws.specs.Starts.{begun}
use Rattle.mux_conn.specs.Connection.{Work, acted, with_setup}
use Rattle.mux_conn.specs.Passes.{greeting_act, greets_with, started_at}
use Rattle.mux_conn.specs.declared.life.Greeting.{Greeting}
use Rattle.mux_conn.specs.declared.life.Greeting.TheVariants as greet
use Rattle.mux_conn.specs.declared.life.Life.{Life}
use Rattle.mux_conn.specs.declared.life.Life.TheVariants.{SettingUp}
use Rattle.single_session.specs.declared.core_state.Core.{Core}
use Rattle.legal_trace.specs.Book.{Book, book, entered}
use Rattle.legal_trace.specs.Ledger.{begins, monitor_message, noted, setup_due}
use Rattle.legal_trace.specs.Legal.{MayWatch, NoneEnds}
use Rattle.legal_trace.proofs.Setups.{greeted_is_undue}
use Rattle.legal_trace.proofs.Watching.{monitor_has_bytes, watch_is_up, watch_stays}
use Rattle.session_laws.proofs.Ties.Ahead.{held_by}
use Rattle.session_laws.proofs.Ties.Entered.{shown_more}
use Rattle.conn_laws.proofs.Requests.Going.{none_given}
use Rattle.session_laws.proofs.Requests.Going.{IsGoing, applied_up, going_more, none_ends_mine, setups_started}
use Rattle.conn_laws.proofs.Turn.Heard.{setting_waits}
use Rattle.session_laws.proofs.Ties.Kept.{mine_noted, others_kept, tied_by}
use Rattle.conn_laws.proofs.Internal.Renewals.{none_begins}
use Rattle.conn_laws.proofs.Links.SetUp.{setups_begins}
use Rattle.conn_laws.proofs.Links.SetsUp.{none_set_up}
use Rattle.session_laws.proofs.Links.SetsUp.{HasBegun, setting_on, setup_begun}
use Rattle.session_laws.proofs.Requests.Settle.{quiet_asks, seen, trace_of_acts}
use Rattle.conn_laws.proofs.Requests.Start.{with_queue}
use Rattle.conn_laws.proofs.Ties.States.{IsFit}
use Rattle.conn_laws.proofs.Links.Server.{IsWatchDue, IsWatching, watch_queued}
use Rattle.session_laws.proofs.Ties.Tied.{TurnState, Tied, numbers_kept}
use Rattle.conn_laws.proofs.Internal.Repeats.{begins_held}
use Rattle.conn_laws.proofs.Links.Watches.{queued, tries_watched, watch_due, watched, watching_next}

-- the session
--
-- what the start of MONITOR shows
abbrev pub watch_action : TurnState → LinkState → Action
watch_action t link = action.Start t.link link.started owner.Monitor (need_of watch_queued.shape) (length watch_queued.packed)

-- it may start, where nothing holds it back
watch_may : (b : Book) (t : TurnState) (link : LinkState) → IsWatchDue (b.link t.link) (queued link) → IsFit t.size t.bound link → holds_back link ≡ false → Tied b (setting_on t (queued link) greet.Monitor) → NoneEnds b
    → MayWatch b t.link link.started (need_of watch_queued.shape) (length watch_queued.packed)
watch_may b t link due fit free h ended =
    let l = b.link t.link in
    let was = setting_on t (queued link) greet.Monitor in
    let said : IsWatching l (queued link) = h.setup.said.1 in
    record {
      applied = applied_up b was h refl (refl, refl) refl refl ended;
      setups = setups_started b was h (λ x u e. inl (none_given (setup_due l) (λ k d. greeted_is_undue l k said.greeted d)));
      due = watch_due l (queued link) h.life.1 said due;
      free = held_by b was (λ (p : ℕ). owner.Monitor) (queued link) h.numbers fit.bound_is (h.link refl) ∙ free;
      in_order = λ m less d. absurd (not_both (b.link m).up (h.others m (λ same. absurd (omega arith))).down (watch_is_up (b.link m) d));
      next = (h.link refl).started;
      needs_its_items = refl;
      long_as_its_bytes = refl;
    }

-- the session is tied to the book with that start
watch_tied : (b : Book) (t : TurnState) (link : LinkState) → IsWatchDue (b.link t.link) (queued link) → Tied b (setting_on t (queued link) greet.Monitor) → Tied (entered b (watch_action t link)) (setting_on t (watched link) greet.Monitor)
watch_tied b t link due h =
    let l = b.link t.link in
    let s = monitor_message in
    let was = setting_on t (queued link) greet.Monitor in
    let name : ℕ → Owner = λ p. owner.Monitor in
    let tied : TiedLink name l (queued link) = h.link refl in
    let said = h.setup.said in
    tied_by (entered b (watch_action t link)) (setting_on t (watched link) greet.Monitor) (noted l (begins s)) (mine_noted l t.link (begins s))
    (record {
      numbers = numbers_kept b _ _ _ _ _ _ was _ _ _ _ _ _ _ _ _ _ h.numbers;
      others = others_kept b t.link (begins s) h.others;
      notices = h.notices;
      life = h.life;
      course = h.course;
      calm = h.calm;
      creds = record { wanted_is = h.creds.wanted_is; sought = h.creds.sought };
      creation = h.creation;
      uses = h.uses;
      renewal = none_begins l t.renewal s refl h.renewal;
      repeat = begins_held l s b.tracked t.renewal.within t.again refl h.repeat;
      setup = record { info_is = h.setup.info_is; sent = setups_begins l s refl h.setup.sent; said = (said.0, watching_next l link tied.within due said.1) };
      link = λ e. queue_tied name (noted l (begins s)) (begun (queued link) watch_queued) [] (begun_tied name l (queued link) watch_queued monitor_has_bytes tied);
      names = h.names;
      story = h.story;
      tries = tries_watched l b.story t.requests t.link t.started said.1.watches said.0 h.tries;
      lines = h.lines;
      told = h.told;
      waits = setting_waits b.story t.requests t.again (queued link) (watched link) greet.Monitor greet.Monitor t.fresh t.moved h.waits;
      permits = h.permits;
      rounds = h.rounds;
      early = λ unserved alive. (let k = h.early unserved alive in record { unbegun = k.unbegun; empty = k.empty });
      late = h.late;
    })

-- which ends no link
watch_ends_none : (b : Book) (t : TurnState) (link : LinkState) → IsWatchDue (b.link t.link) (queued link) → Tied b (setting_on t (queued link) greet.Monitor) → NoneEnds b → NoneEnds (entered b (watch_action t link))
watch_ends_none b t link due h ended =
    let l = b.link t.link in
    none_ends_mine b t.link (begins monitor_message) (watch_stays l monitor_message refl (watch_due l (queued link) h.life.1 h.setup.said.1 due) (h.link refl).within (ended t.link)) ended

-- so it goes on with it
watch_going : (trace : List Action) (t : TurnState) (link : LinkState) → IsWatchDue ((book trace).link t.link) (queued link) → IsFit t.size t.bound link → holds_back link ≡ false → IsGoing trace (setting_on t (queued link) greet.Monitor)
    → IsGoing (trace ++ watch_action t link ∷ []) (setting_on t (watched link) greet.Monitor)
watch_going trace t link due fit free h =
    let b = book trace in
    going_more trace (watch_action t link) (setting_on t (watched link) greet.Monitor) h.sound.stands
    (watch_may b t link due fit free h.sound.tied h.ended)
    (watch_tied b t link due h.sound.tied)
    (watch_ends_none b t link due h.sound.tied h.ended) (λ x e. cc) (λ up. cc)

-- the pass
--
-- MONITOR starts where nothing holds it back
watch_begun : (before : List Action) (f : Core) (w : Work) (started : List ℕ) (link : LinkState) → w.conn.life ≡ SettingUp link greet.Monitor → IsFit w.conn.size w.conn.boundary link → w.conn.admitted ≡ []
    → IsGoing (trace_of_acts before f w.acts) (seen f w.acts w.conn [] started) → HasBegun before f (started_at w (SettingUp link greet.Monitor)) started greet.Monitor
watch_begun before f w started link life fit none h =
    let greeting = greet.Monitor in
    let t = seen f w.acts w.conn [] started in
    let trace = trace_of_acts before f w.acts in
    let q = watch_queued in
    let here : IsGoing trace (setting_on t link greeting) = subst (λ (x : Life). IsGoing trace (record t { life = x })) life h in
    let stays : (queue : List Queued) → link.queue ≡ queue → started_each (record { link = link; out = [] }) queue ≡ record { link = with_queue link queue; out = [] } → (link.queue ≡ []) ⊎ (holds_back link ≡ true)
    → HasBegun before f (started_at w (SettingUp link greeting)) started greeting = λ queue same e held.
    subst (λ (x : Work). HasBegun before f x started greeting) (sym (none_set_up w link greeting queue life same e)) (record { link = link; life = life; fit = fit; held = held; going = h; admitted = none }) in
    elim here.sound.tied.setup.said.1.stage [
      | inl d ↦
          by_test (holds_back link) _
          (λ held. stays (q ∷ []) d.queue (taken_if (holds_back link) _ _ held) (inr held))
          (λ free.
          let at : IsGoing trace (setting_on t (queued link) greeting) = subst (λ (qs : List Queued). IsGoing trace (setting_on t (with_queue link qs) greeting)) d.queue here in
          let due : IsWatchDue ((book trace).link f.single.link) (queued link) = record { alone = d.alone; answered = d.answered; queue = refl; row = d.row } in
          let going = watch_going trace t link due fit free at in
          let a = greeting_act greeting (start_of link.started q) in
          let after = watched link in
          let is : started_at w (SettingUp link greeting) ≡ acted (with_setup w after greeting) a =
          ap (λ (qs : List Queued). greets_with w greeting (started_each (record { link = link; out = [] }) qs)) d.queue
          ∙ ap (greets_with w greeting) (left_if (holds_back link) (record { link = with_queue link (q ∷ []); out = [] }) (started_each (started_one (record { link = link; out = [] }) q) []) free) in
          let there = subst (λ (x : List Action). IsGoing x (setting_on t after greeting)) (sym (shown_more before f.single.link (length f.timers) (length f.sources) w.acts a)) going in
          subst (λ (x : Work). HasBegun before f x started greeting) (sym is) (record {
            link = after;
            life = refl;
            fit = record { sound = fit.sound; size_is = fit.size_is; bound_is = fit.bound_is; within = omega arith };
            held = inl refl;
            going = subst (IsGoing (trace_of_acts before f (w.acts ++ a ∷ []))) (quiet_asks f (setting_on t after greeting) w.acts a refl refl) there;
            admitted = none;
          }))
      | inr sent ↦ stays [] sent.queue refl (inl sent.queue)
    ]

-- and so does any greeting
pub setting_begun : (before : List Action) (f : Core) (w : Work) (started : List ℕ) (link : LinkState) (greeting : Greeting) → w.conn.life ≡ SettingUp link greeting → IsFit w.conn.size w.conn.boundary link → w.conn.admitted ≡ []
    → IsGoing (trace_of_acts before f w.acts) (seen f w.acts w.conn [] started) → HasBegun before f (started_at w (SettingUp link greeting)) started greeting
setting_begun before f w started link greet.WithUser life fit none h = setup_begun before f w started link greet.WithUser refl life fit none h
setting_begun before f w started link greet.WithoutUser life fit none h = setup_begun before f w started link greet.WithoutUser refl life fit none h
setting_begun before f w started link greet.Monitor life fit none h = watch_begun before f w started link life fit none h
