-- The setup of a link starts.
use Rattle.std.proofs.Common.{List, None, Option, Some, [], ap, arith, false, inl, inr, length, refl, subst, sym, true, ℕ, ◌++◌, ◌∙◌, ◌∷◌, ◌≡◌, ◌⊎◌}
use Rattle.containers.proofs.Choices.{by_test, left_if, taken_if}
use Rattle.driver_model.specs.Shape.{need_of}
use Rattle.driver_model.specs.declared.action.Action.{Action}
use Rattle.driver_model.specs.declared.action.Action.TheVariants as action
use Rattle.driver_model.specs.declared.action.Owner.{Owner}
use Rattle.driver_model.specs.declared.action.Owner.TheVariants as owner
use Rattle.link_core.specs.Link.{LinkState, holds_back, started_each, started_one, start_of}
use Rattle.link_core.specs.declared.message.Queued.{Queued}
use Rattle.link_laws.proofs.TiedLink.{TiedLink, begun_tied, queue_tied}
use Rattle.link_laws.specs.Starts.{begun}
use Rattle.mux_conn.specs.Connection.{Work, acted, with_setup}
use Rattle.mux_conn.specs.Passes.{started_at, greets_with}
use Rattle.mux_conn.specs.declared.act.LinkAct.TheVariants as act
use Rattle.mux_conn.specs.declared.life.Greeting.{Greeting}
use Rattle.mux_conn.specs.declared.life.Life.{Life}
use Rattle.mux_conn.specs.declared.life.Life.TheVariants.{SettingUp}
use Rattle.single_session.specs.declared.core_state.Core.{Core}
use Rattle.legal_trace.specs.Book.{Book, book, entered}
use Rattle.legal_trace.specs.Ledger.{begins, noted, setup_after, setup_count}
use Rattle.legal_trace.specs.Legal.{MaySetUp, NoneEnds}
use Rattle.legal_trace.proofs.Setups.{setup_packed, setup_stays}
use Rattle.session_laws.proofs.Ties.Ahead.{held_by}
use Rattle.session_laws.proofs.Ties.Entered.{shown_more}
use Rattle.session_laws.proofs.Requests.Going.{IsGoing, applied_up, going_more, none_ends_mine}
use Rattle.conn_laws.proofs.Turn.Heard.{setting_waits}
use Rattle.session_laws.proofs.Ties.Kept.{mine_noted, others_kept, tied_by}
use Rattle.conn_laws.proofs.Links.SetUp.{down_undue}
use Rattle.session_laws.proofs.Requests.Settle.{quiet_asks, seen, trace_of_acts}
use Rattle.conn_laws.proofs.Requests.Start.{with_queue}
use Rattle.conn_laws.proofs.Ties.States.{IsFit}
use Rattle.conn_laws.proofs.Links.Server.{greeting_at}
use Rattle.conn_laws.proofs.Ties.Tied.{greeter}
use Rattle.session_laws.proofs.Ties.Tied.{TurnState, Tied, numbers_kept}
use Rattle.conn_laws.proofs.Internal.Renewals.{none_begins}
use Rattle.conn_laws.proofs.Links.SameSaid.{greeter_at, greeting_of, setting_of}
use Rattle.conn_laws.proofs.Internal.Repeats.{begins_held}
use Rattle.conn_laws.proofs.Links.SetsUp.{due_queued, due_start, none_set_up, setting_next, setup_act, setups_next, tries_set}

-- the session
--
-- whose link is set up, while nothing is to be answered
abbrev pub setting_on : TurnState → LinkState → Greeting → TurnState
setting_on t link greeting = record t { life = SettingUp link greeting; pending = []; untold = []; parting = false }

-- what the start of the setup shows
abbrev set_up_action : TurnState → LinkState → Queued → Action
set_up_action t link q = action.Start t.link link.started owner.Setup (need_of q.shape) (length q.packed)

-- the setup that is due may start, where nothing holds it back
set_up_may : (b : Book) (t : TurnState) (link : LinkState) (greeting : Greeting)
    → (let q = due_queued (b.link t.link) greeting in
    setup_after (b.link t.link) (setup_count (b.link t.link).starts) ≡ Some (setup_count (b.link t.link).starts) → IsFit t.size t.bound link → holds_back link ≡ false → Tied b (setting_on t (with_queue link (q ∷ [])) greeting) → NoneEnds b
    → MaySetUp b t.link link.started (need_of q.shape) (length q.packed))
set_up_may b t link greeting due fit free h ended =
    let l = b.link t.link in
    let c = setup_count l.starts in
    let q = due_queued l greeting in
    let was = setting_on t (with_queue link (q ∷ [])) greeting in
    record {
      applied = applied_up b was h refl (refl, refl) refl refl ended;
      k = c;
      due = taken_if l.up (setup_after l c) None h.life.1 ∙ due;
      free = held_by b was (λ (p : ℕ). greeter greeting) (with_queue link (q ∷ [])) h.numbers fit.bound_is (h.link refl) ∙ free;
      in_order = λ m i less e. absurd (let no : ◌≡◌ {A = Option ℕ} None (Some i) = sym (down_undue (b.link m) (h.others m (λ same. absurd (omega arith))).down) ∙ e in cc);
      next = (h.link refl).started;
      needs_its_items = refl;
      long_as_its_bytes = refl;
    }

-- the session is tied to the book with that start
set_up_tied : (b : Book) (t : TurnState) (link : LinkState) (greeting : Greeting)
    → (let q = due_queued (b.link t.link) greeting in
    setup_after (b.link t.link) (setup_count (b.link t.link).starts) ≡ Some (setup_count (b.link t.link).starts) → greeting ≡ greeting_at (setup_count (b.link t.link).starts) → Tied b (setting_on t (with_queue link (q ∷ [])) greeting)
    → Tied (entered b (set_up_action t link q)) (setting_on t (with_queue (begun link q) []) greeting))
set_up_tied b t link greeting due user h =
    let l = b.link t.link in
    let q = due_queued l greeting in
    let s = due_start l in
    let was = setting_on t (with_queue link (q ∷ [])) greeting in
    let now = setting_on t (with_queue (begun link q) []) greeting in
    let name : ℕ → Owner = λ p. owner.Setup in
    let own : greeter greeting ≡ owner.Setup = ap greeter user ∙ greeter_at (setup_count l.starts) in
    let tied : TiedLink name l (with_queue link (q ∷ [])) = subst (λ (who : Owner). TiedLink (λ (p : ℕ). who) l (with_queue link (q ∷ []))) own (h.link refl) in
    let said = h.setup.said in
    let setting = setting_of l (with_queue link (q ∷ [])) greeting own said.1 in
    let all = setting.alone in
    tied_by (entered b (set_up_action t link q)) now (noted l (begins s)) (mine_noted l t.link (begins s))
    (record {
      numbers = numbers_kept b _ _ _ _ _ _ was _ _ _ _ _ _ _ _ _ _ h.numbers;
      others = others_kept b t.link (begins s) h.others;
      notices = h.notices;
      life = h.life;
      course = h.course;
      calm = h.calm;
      creds = record { wanted_is = h.creds.wanted_is; sought = h.creds.sought };
      creation = h.creation;
      uses = h.uses;
      renewal = none_begins l t.renewal s refl h.renewal;
      repeat = begins_held l s b.tracked t.renewal.within t.again refl h.repeat;
      setup = record { info_is = h.setup.info_is; sent = setups_next l all h.setup.sent; said = (said.0, greeting_of (noted l (begins s)) (with_queue (begun link q) []) greeting own (setting_next l link greeting all tied.within due user setting)) };
      link = λ e. subst (λ (who : Owner). TiedLink (λ (p : ℕ). who) (noted l (begins s)) (with_queue (begun link q) [])) (sym own)
          (queue_tied name (noted l (begins s)) (begun (with_queue link (q ∷ [])) q) [] (begun_tied name l (with_queue link (q ∷ [])) q (setup_packed l (setup_count l.starts) setting.says) tied));
      names = h.names;
      story = h.story;
      tries = tries_set l s b.story t.requests t.link t.started refl said.0 all h.tries;
      lines = h.lines;
      told = h.told;
      waits = setting_waits b.story t.requests t.again (with_queue link (q ∷ [])) (with_queue (begun link q) []) greeting greeting t.fresh t.moved h.waits;
      permits = h.permits;
      rounds = h.rounds;
      early = λ unserved alive. (let k = h.early unserved alive in record { unbegun = k.unbegun; empty = k.empty });
      late = h.late;
    })

-- which ends no link
set_up_ends_none : (b : Book) (t : TurnState) (link : LinkState) (greeting : Greeting)
    → (let q = due_queued (b.link t.link) greeting in
    setup_after (b.link t.link) (setup_count (b.link t.link).starts) ≡ Some (setup_count (b.link t.link).starts) → Tied b (setting_on t (with_queue link (q ∷ [])) greeting) → NoneEnds b
    → NoneEnds (entered b (set_up_action t link q)))
set_up_ends_none b t link greeting due h ended =
    let l = b.link t.link in
    let c = setup_count l.starts in
    none_ends_mine b t.link (begins (due_start l)) (setup_stays l (due_start l) c refl (taken_if l.up (setup_after l c) None h.life.1 ∙ due) (h.link refl).within (ended t.link)) ended

-- so it goes on with it
set_up_going : (trace : List Action) (t : TurnState) (link : LinkState) (greeting : Greeting)
    → (let l = (book trace).link t.link in
    let q = due_queued l greeting in
    setup_after l (setup_count l.starts) ≡ Some (setup_count l.starts) → greeting ≡ greeting_at (setup_count l.starts) → IsFit t.size t.bound link → holds_back link ≡ false → IsGoing trace (setting_on t (with_queue link (q ∷ [])) greeting)
    → IsGoing (trace ++ set_up_action t link q ∷ []) (setting_on t (with_queue (begun link q) []) greeting))
set_up_going trace t link greeting due user fit free h =
    let b = book trace in
    let q = due_queued (b.link t.link) greeting in
    going_more trace (set_up_action t link q) (setting_on t (with_queue (begun link q) []) greeting) h.sound.stands
    (set_up_may b t link greeting due fit free h.sound.tied h.ended)
    (set_up_tied b t link greeting due user h.sound.tied)
    (set_up_ends_none b t link greeting due h.sound.tied h.ended) (λ x e. cc) (λ up. cc)

-- the pass
--
-- a connection whose link is set up, and whose setup has started, or is held back
pub record HasBegun (before : List Action) (f : Core) (w : Work) (started : List ℕ) (greeting : Greeting) : Type 0 where
  pub link : LinkState
  pub life : w.conn.life ≡ SettingUp link greeting
  pub fit : IsFit w.conn.size w.conn.boundary link
  pub held : (link.queue ≡ []) ⊎ (holds_back link ≡ true)
  pub going : IsGoing (trace_of_acts before f w.acts) (seen f w.acts w.conn [] started)
  pub admitted : w.conn.admitted ≡ []

-- the setup starts where nothing holds it back
pub setup_begun : (before : List Action) (f : Core) (w : Work) (started : List ℕ) (link : LinkState) (greeting : Greeting) → greeter greeting ≡ owner.Setup → w.conn.life ≡ SettingUp link greeting → IsFit w.conn.size w.conn.boundary link → w.conn.admitted ≡ []
    → IsGoing (trace_of_acts before f w.acts) (seen f w.acts w.conn [] started) → HasBegun before f (started_at w (SettingUp link greeting)) started greeting
setup_begun before f w started link greeting own life fit none h =
    let t = seen f w.acts w.conn [] started in
    let trace = trace_of_acts before f w.acts in
    let l = (book trace).link f.single.link in
    let here : IsGoing trace (setting_on t link greeting) = subst (λ (x : Life). IsGoing trace (record t { life = x })) life h in
    let stays : (queue : List Queued) → link.queue ≡ queue → started_each (record { link = link; out = [] }) queue ≡ record { link = with_queue link queue; out = [] } → (link.queue ≡ []) ⊎ (holds_back link ≡ true)
    → HasBegun before f (started_at w (SettingUp link greeting)) started greeting = λ queue same e held.
    subst (λ (x : Work). HasBegun before f x started greeting) (sym (none_set_up w link greeting queue life same e)) (record { link = link; life = life; fit = fit; held = held; going = h; admitted = none }) in
    elim (setting_of l link greeting own here.sound.tied.setup.said.1).stage [
      | inl d ↦
          let q = due_queued l greeting in
          by_test (holds_back link) _
          (λ held. stays (q ∷ []) d.queue (taken_if (holds_back link) _ _ held) (inr held))
          (λ free.
          let at : IsGoing trace (setting_on t (with_queue link (q ∷ [])) greeting) = subst (λ (qs : List Queued). IsGoing trace (setting_on t (with_queue link qs) greeting)) d.queue here in
          let going = set_up_going trace t link greeting d.due d.user fit free at in
          let a = act.SetUp link.started (need_of q.shape) (length q.packed) in
          let after = with_queue (begun link q) [] in
          let is : started_at w (SettingUp link greeting) ≡ acted (with_setup w after greeting) a =
          ap (λ (qs : List Queued). greets_with w greeting (started_each (record { link = link; out = [] }) qs)) d.queue
          ∙ ap (greets_with w greeting) (left_if (holds_back link) (record { link = with_queue link (q ∷ []); out = [] }) (started_each (started_one (record { link = link; out = [] }) q) []) free)
          ∙ ap (acted (with_setup w after greeting)) (setup_act greeting own (start_of link.started q)) in
          let there = subst (λ (x : List Action). IsGoing x (setting_on t after greeting)) (sym (shown_more before f.single.link (length f.timers) (length f.sources) w.acts a)) going in
          subst (λ (x : Work). HasBegun before f x started greeting) (sym is) (record {
            link = after;
            life = refl;
            fit = record { sound = fit.sound; size_is = fit.size_is; bound_is = fit.bound_is; within = omega arith };
            held = inl refl;
            going = subst (IsGoing (trace_of_acts before f (w.acts ++ a ∷ []))) (quiet_asks f (setting_on t after greeting) w.acts a refl refl) there;
            admitted = none;
          }))
      | inr sent ↦ stays [] sent.queue refl (inl sent.queue)
    ]
