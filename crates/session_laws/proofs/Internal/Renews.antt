-- New credentials are told behind the requests that are ahead of them, behind their timer.
use Rattle.std.proofs.Common.{List, None, Option, Some, [], ap, arith, false, inl, inr, length, length-append, refl, subst, sym, true, ℕ, ◌+◌, ◌++◌, ◌≤◌, ◌∙◌, ◌∷◌, ◌≡◌, ◌≢◌, ◌⊎◌}
use Rattle.std.proofs.lemmas.List.{append-nil}
use Rattle.std.specs.Prelude.{if◌then◌else◌, ◌&&◌, ◌||◌}
use Rattle.containers.proofs.Choices.{both_right, chosen, left_if, not_both, by_test}
use Rattle.credentials.specs.Credentials.{Credentials}
use Rattle.credentials.specs.Message.{auth_bytes}
use Rattle.driver_model.specs.Shape.{need_of}
use Rattle.driver_model.specs.declared.action.Action.{Action}
use Rattle.driver_model.specs.declared.action.Action.TheVariants as action
use Rattle.driver_model.specs.declared.action.Owner.TheVariants as owner
use Rattle.driver_model.specs.declared.action.Purpose.{Purpose}
use Rattle.driver_model.specs.declared.action.Purpose.TheVariants as purpose
use Rattle.driver_model.specs.declared.outcome.Shape.TheVariants.{Confirmation}
use Rattle.link_core.specs.Link.{LinkState, Starting, begun, entry_of, holds_back, is_first_up_to, started_to}
use Rattle.link_laws.proofs.TiedLink.{all_push, begun_tied, timed_tied}
use Rattle.link_laws.specs.Settles.{awaited_ids}
use Rattle.link_laws.specs.Starts.{start_from}
use Rattle.mux_conn.specs.Connection.{Work, are_some, is_due as is_renewal_due, is_outstanding, is_ready, last_queued, with_link}
use Rattle.mux_conn.specs.declared.act.LinkAct.{LinkAct}
use Rattle.mux_conn.specs.Renewals.{asked_next, renewal_asked, renewal_id, renewal_moved, renewal_queued, renewal_timed, renewal_told, renewed, renewing, started_ahead, started_ahead_at, told_next}
use Rattle.mux_conn.specs.declared.act.LinkAct.TheVariants as act
use Rattle.mux_conn.specs.declared.life.Life.{Life}
use Rattle.mux_conn.specs.declared.life.Life.TheVariants.{Ready}
use Rattle.single_session.specs.declared.core_state.Core.{Core}
use Rattle.single_session.specs.Turn.{timers_of}
use Rattle.legal_trace.specs.Book.{Book, book, entered, message_of, renewal_in}
use Rattle.legal_trace.specs.Ledger.{begins, is_of_setup, noted, renewal_count, renewal_due, renewals_asked, times, is_of_again}
use Rattle.legal_trace.specs.Legal.{MayRenew, MayTimeRenewal, NoneEnds}
use Rattle.session_laws.proofs.Ties.Ahead.{held_by}
use Rattle.conn_laws.proofs.Requests.Going.{HasRenewed}
use Rattle.session_laws.proofs.Requests.Going.{applied_up, none_ends_kept, none_ends_mine, renewals_timed, setups_started, monitors_started}
use Rattle.conn_laws.proofs.Ties.InLine.{kept_ids}
use Rattle.session_laws.proofs.Ties.Kept.{mine_noted, others_kept, tied_by}
use Rattle.conn_laws.proofs.Ties.Names.{get_more}
use Rattle.conn_laws.proofs.Ties.Numbers.{IsIn, Rising, requests_behind, requests_in, requests_in-append, auth_is_own}
use Rattle.legal_trace.specs.Steps.{any_below, is_ahead}
use Rattle.conn_laws.proofs.Internal.Ahead.{to_fit, to_stopped}
use Rattle.conn_laws.proofs.Changes.Rest.{held_ahead as to_held}
use Rattle.session_laws.proofs.Internal.Ahead.{IsTelling, each_ahead, ordered_more}
use Rattle.conn_laws.proofs.Internal.Serving.{outstanding_serves}
use Rattle.session_laws.proofs.Ties.Ordered.{AreOrdered, IsOrdered, StaysOrdered, asked_ordered, none_ahead}
use Rattle.session_laws.proofs.Ties.Places.{known, since_begun}
use Rattle.conn_laws.proofs.Internal.Renewals.{auth_renewed, asked_renewed, down_renewed_due, due_first, due_is, due_well, some_wait, timed_renewed}
use Rattle.conn_laws.proofs.Links.SetUp.{set_up_begins, setups_begins}
use Rattle.session_laws.proofs.Requests.Settle.{Holds, book_of_more, renewal_tied, seen, sound_act, trace_of_acts}
use Rattle.conn_laws.proofs.Requests.Start.{not_setting}
use Rattle.session_laws.proofs.Requests.Start.{on_link}
use Rattle.conn_laws.proofs.Requests.Starts.{begins_ends_none, shown_is, shows}
use Rattle.session_laws.proofs.Requests.Starts.{shows_sources, shows_timers}
use Rattle.conn_laws.proofs.Ties.States.{IsFit}
use Rattle.conn_laws.proofs.Links.Server.{TiedRenewal}
use Rattle.conn_laws.proofs.Ties.Tied.{IsEntry, has_ended, link_in, owner_of, queue_ids}
use Rattle.session_laws.proofs.Ties.Tied.{AreAimed, TurnState, IsAim, Tied, numbers_kept}
use Rattle.conn_laws.proofs.Links.Took.{queue_waits}
use Rattle.mux_conn.specs.declared.life.Greeting.TheVariants as greet
use Rattle.driver_model.specs.Hearing.{is_watching}
use Rattle.conn_laws.proofs.Internal.Repeats.{repeated_alike, begins_repeated}
use Rattle.conn_laws.proofs.Internal.Repeating.{HasRepeated}
use Rattle.session_laws.proofs.Internal.RepeatsDue.{repeating_timed, repeating_started}
use Rattle.conn_laws.proofs.Internal.Renews.{auth_owner, bound_fit, one_link, timed_is_asked, tries_told, wanted_told}

-- their timer
--
-- where a time is set, there is one
pub time_is_set : (within : Option ℕ) (ms : ℕ) → within ≡ Some ms → within ≢ None
time_is_set within ms e none = let no : ◌≡◌ {A = Option ℕ} None (Some ms) = sym none ∙ e in cc

-- a timer more for the link
aims_renewed : (timers : List Purpose) (link count number : ℕ) → AreAimed timers link count → AreAimed (timers ++ purpose.Renewal link number ∷ []) link count
aims_renewed timers link count number h k what e = let own : link ≤ link = omega arith in elim (get_more timers (purpose.Renewal link number) k what e) [
  | inl i ↦ h k what i
  | inr x ↦ subst (λ w. IsAim w link count) x.1 own
]

-- it may be asked for
may_time_renewal : (b : Book) (t : TurnState) (link : LinkState) (number ms : ℕ) → number ≡ length t.timers → t.renewal.pending ≡ false → is_renewal_due t.renewal ≡ true → t.renewal.within ≡ Some ms → IsFit t.size t.bound link → HasRepeated t.again (Ready link) → Tied b (on_link t link) → NoneEnds b
    → MayTimeRenewal b number ms (purpose.Renewal t.link t.renewal.asked)
may_time_renewal b t link number ms counted none due within fit repeated h ended =
    let was = on_link t link in
    let l = b.link t.link in
    let r = t.renewal in
    let timed = timed_is_asked l r ms within h.renewal in
    let pending : ℕ = if r.pending then 1 else 0 in
    let unasked : pending ≡ 0 = left_if r.pending 1 0 none in
    let one : renewals_asked l ≡ renewal_count l.starts + 1 = ap (λ x. renewal_count l.starts + (if x then 1 else 0)) (due_is l r h.life.1 h.renewal ∙ due) in
    record {
      applied = applied_up b was h refl (refl, refl) refl refl ended;
      setups = setups_started b was h (λ x u e. absurd (not_setting link x u e));
      monitors = monitors_started b was h (λ x e. absurd (not_setting link x greet.Monitor e));
      repeats_timed = repeating_timed b was h repeated;
      repeated = repeating_started b was h (bound_fit t.size t.bound link fit) repeated;
      l = t.link;
      within = h.numbers.within ∙ within;
      asked = omega (arith, timed, one, unasked, h.renewal.asked_is);
      in_order = λ m less. (h.others m (λ e. omega (arith, e))).timed (time_is_set r.within ms within);
      next = counted ∙ ap length (sym h.numbers.timers);
      is_for = ap (purpose.Renewal t.link) (sym timed);
    }

-- and is
time_tied : (b : Book) (t : TurnState) (link : LinkState) (last : Option ℕ) (number ms : ℕ) → t.renewal.pending ≡ false → is_renewal_due t.renewal ≡ true → t.renewal.within ≡ Some ms → Tied b (on_link t link)
    → Tied (entered b (action.Timer number ms (purpose.Renewal t.link t.renewal.asked))) (record (on_link t link) { timers = t.timers ++ purpose.Renewal t.link t.renewal.asked ∷ []; renewal = asked_next t.renewal last })
time_tied b t link last number ms none due within h =
    let l = b.link t.link in
    let r = t.renewal in
    let what = purpose.Renewal t.link r.asked in
    let k = numbers_kept b b.link b.story b.tracked b.errors b.placed b.since (on_link t link) (Ready link) t.free t.requests t.waiting t.admitted t.fresh t.moved t.being_admitted [] t.started h.numbers in
    tied_by (entered b (action.Timer number ms what)) (record (on_link t link) { timers = t.timers ++ what ∷ []; renewal = asked_next r last }) (noted l times) (mine_noted l t.link times) (record {
      numbers = record {
        turns = k.turns;
        links = k.links;
        timers = ap (λ ts. ts ++ what ∷ []) h.numbers.timers;
        sources = k.sources;
        aims = aims_renewed t.timers t.link (length t.table) r.asked h.numbers.aims;
        timed = k.timed;
        submissions = k.submissions;
        timeout = k.timeout;
        shut = k.shut;
        within = k.within;
        few = k.few;
        settings = record { size_is = k.settings.size_is; bound_is = k.settings.bound_is; limit_is = k.settings.limit_is; some = k.settings.some; limited = k.settings.limited };
        kind_is = k.kind_is;
        quiet = λ w. let q = h.numbers.quiet w in record { none = q.none; unwanted = q.unwanted; unrenewed = q.unrenewed; unrepeated = q.unrepeated };
        comes_back = k.comes_back;
        lazy = k.lazy;
        current_is = k.current_is;
        speaks = k.speaks;
        address_is = k.address_is;
        wants = k.wants;
        alone = k.alone;
      };
      others = others_kept b t.link times h.others;
      notices = h.notices;
      life = h.life;
      course = h.course;
      calm = h.calm;
      creds = record { wanted_is = h.creds.wanted_is; sought = h.creds.sought };
      creation = h.creation;
      uses = h.uses;
      renewal = timed_renewed l r last ms none due within h.renewal;
      repeat = repeated_alike l (noted l times) b.tracked t.renewal.within t.again refl refl refl h.repeat;
      setup = record { info_is = h.setup.info_is; sent = h.setup.sent; said = record { well = h.setup.said.well; none = h.setup.said.none } };
      link = λ e. timed_tied (owner_of t.requests) l link (h.link refl);
      names = h.names;
      story = h.story;
      tries = record { owners = h.tries.owners; greeted = h.tries.greeted; shapes = h.tries.shapes; tried = h.tries.tried; untried = h.tries.untried };
      lines = h.lines;
      told = h.told;
      waits = h.waits;
      permits = h.permits;
      rounds = h.rounds;
      early = h.early;
      late = h.late;
    })

-- AUTH
--
-- it carries bytes
auth_some : (c : Credentials) → auth_bytes c.username c.password ≢ []
auth_some c e = cc

-- what shows it
abbrev auth_action : TurnState → LinkState → Credentials → Action
auth_action t link c = action.Start t.link link.started owner.Auth (need_of Confirmation) (length (auth_bytes c.username c.password))

-- the session then
abbrev after_auth : TurnState → LinkState → Credentials → List Credentials → TurnState
after_auth t link c cs = record (on_link t (begun link (renewal_queued c))) { renewal = told_next t.renewal cs; started = t.started ++ renewal_id ∷ [] }

-- it may start, where nothing holds the link back, and nobody is ahead
may_renew : (b : Book) (t : TurnState) (link : LinkState) (c : Credentials) (cs : List Credentials) → is_renewal_due t.renewal ≡ true → t.renewal.pending ≡ true → t.renewal.waiting ≡ c ∷ cs → IsFit t.size t.bound link → holds_back link ≡ false → any_below (is_ahead b t.link) b.submissions ≡ false → HasRepeated t.again (Ready link) → Tied b (on_link t link) → NoneEnds b
    → MayRenew b t.link link.started (need_of Confirmation) (length (auth_bytes c.username c.password))
may_renew b t link c cs due pending waits fit free nobody repeated h ended =
    let was = on_link t link in
    let l = b.link t.link in
    record {
      applied = applied_up b was h refl (refl, refl) refl refl ended;
      setups = setups_started b was h (λ x u e. absurd (not_setting link x u e));
      monitors = monitors_started b was h (λ x e. absurd (not_setting link x greet.Monitor e));
      repeats_timed = repeating_timed b was h repeated;
      repeated = repeating_started b was h (bound_fit t.size t.bound link fit) repeated;
      timed = renewals_timed b was h (λ x e d. pending);
      credentials = c;
      due = due_first l t.renewal c cs h.life.1 h.renewal due waits;
      free = (λ i. held_by b was (owner_of t.requests) link h.numbers fit.bound_is (h.link refl) i || any_below (is_ahead b t.link) b.submissions) ∙ (λ i. free i || nobody i);
      in_order = λ m other less some. absurd (none_due m other (down_renewed_due (b.link m) (h.others m (λ e. omega (arith, e))).down) some);
      next = (h.link refl).started;
      needs_its_items = refl;
      long_as_its_bytes = refl;
    }
  where
    none_due : (m : ℕ) (other : Credentials) → renewal_due (b.link m) ≡ None → renewal_due (b.link m) ≡ Some other → ⊥
    none_due m other none some = let no : ◌≡◌ {A = Option Credentials} None (Some other) = sym none ∙ some in cc

-- the session is tied to the book with it
auth_tied : (b : Book) (t : TurnState) (link : LinkState) (c : Credentials) (cs : List Credentials) → is_renewal_due t.renewal ≡ true → t.renewal.pending ≡ true → t.renewal.waiting ≡ c ∷ cs → Tied b (on_link t link) → Tied (entered b (auth_action t link c)) (after_auth t link c cs)
auth_tied b t link c cs due pending waits h =
    let l = b.link t.link in
    let q = renewal_queued c in
    let name = owner_of t.requests in
    let s = start_from name q in
    let owned : s.owner ≡ owner.Auth = auth_owner t.requests in
    let told : message_of b t.link owner.Auth ≡ s = ap renewal_in (due_first l t.renewal c cs h.life.1 h.renewal due waits) ∙ (λ i. record { owner = sym owned i; shape = Confirmation; bytes = auth_bytes c.username c.password }) in
    let up = h.link refl in
    let plain : is_watching t.hears ≡ true → ⊥ = λ w. (let no : [] ≡ c ∷ cs = sym (h.numbers.quiet w).unrenewed ∙ waits in cc) in
    let unwatched : is_watching l.hearing ≡ false = by_test (is_watching l.hearing) _ (λ w. absurd (plain (ap is_watching (sym h.notices.hearing_is) ∙ w))) (λ f. f) in
    let few : length t.requests ≤ renewal_id = omega (arith, h.names.few, h.numbers.few) in
    let k = numbers_kept b b.link b.story b.tracked b.errors b.placed b.since (on_link t link) (Ready (begun link q)) t.free t.requests t.waiting t.admitted t.fresh t.moved t.being_admitted [] (t.started ++ renewal_id ∷ []) h.numbers in
    tied_by (entered b (auth_action t link c)) (after_auth t link c cs) (noted l (begins s)) (mine_noted l t.link (begins (message_of b t.link owner.Auth)) ∙ ap (λ x. noted l (begins x)) told) (record {
      numbers = record {
        turns = k.turns;
        links = k.links;
        timers = k.timers;
        sources = k.sources;
        aims = k.aims;
        timed = k.timed;
        submissions = k.submissions;
        timeout = k.timeout;
        shut = k.shut;
        within = k.within;
        few = k.few;
        settings = record { size_is = k.settings.size_is; bound_is = k.settings.bound_is; limit_is = k.settings.limit_is; some = k.settings.some; limited = k.settings.limited };
        kind_is = k.kind_is;
        quiet = λ w. absurd (plain w);
        comes_back = k.comes_back;
        lazy = k.lazy;
        current_is = k.current_is;
        speaks = k.speaks;
        address_is = k.address_is;
        wants = k.wants;
        alone = k.alone;
      };
      others = others_kept b t.link (begins (message_of b t.link owner.Auth)) h.others;
      notices = h.notices;
      life = h.life;
      course = h.course;
      calm = h.calm;
      creds = record { wanted_is = h.creds.wanted_is; sought = h.creds.sought };
      creation = h.creation;
      uses = h.uses;
      renewal = auth_renewed l t.renewal s c cs owned refl up.within due pending waits h.renewal;
      repeat = begins_repeated l s b.tracked t.renewal.within t.again (ap is_of_again owned) h.repeat;
      setup = record { info_is = h.setup.info_is; sent = setups_begins l s (ap is_of_setup owned) h.setup.sent; said = set_up_begins l s (ap is_of_setup owned) h.setup.said };
      link = λ e. begun_tied name l link q (auth_some c) up;
      names = h.names;
      story = h.story;
      tries = tries_told l b.story t.requests t.link t.started s renewal_id few (ap is_of_setup owned) refl unwatched h.tries;
      lines = record {
        line = subst (λ ns. Rising 0 (ns ++ (queue_ids link.queue ++ kept_ids t.admitted t.waiting)) (length t.requests)) (sym (requests_in-append t.started (renewal_id ∷ []) ∙ ap (λ ns. requests_in t.started ++ ns) (requests_behind renewal_id [] (auth_is_own renewal_id refl)) ∙ append-nil (requests_in t.started))) h.lines.line;
        queued = h.lines.queued;
        entries = all_push (IsEntry t.requests) link.row (entry_of q) h.lines.entries (inr (record { is = auth_is_own renewal_id refl; awaited_is = refl; shape_is = λ e. refl }));
        packs = h.lines.packs;
        packed_in = h.lines.packed_in;
        there = λ p e. elim (h.lines.there p e) [
          | inl i ↦ inl (subst (λ ns. IsIn p (ns ++ awaited_ids link.queue)) (sym (wanted_told link.row q (auth_is_own renewal_id refl) refl)) i)
          | inr k ↦ inr k
        ];
      };
      told = λ e. h.told refl;
      waits = queue_waits b.story t.requests t.again link (begun link q) t.fresh t.moved (λ p i. i) h.waits;
      permits = h.permits;
      rounds = h.rounds;
      early = λ unserved alive. (let k = h.early unserved alive in record { unbegun = k.unbegun; empty = k.empty });
      late = h.late;
    })

-- all of it
--
-- new credentials were told that may be, behind what is subscribed again and those that were ahead of them
pub record HasTold (before : List Action) (f : Core) (v : Work) : Type 0 where
  pub started : List ℕ
  pub link : LinkState
  pub life : v.conn.life ≡ Ready link
  pub holds : Holds before f v [] started
  pub ended : NoneEnds (book (trace_of_acts before f v.acts))
  pub fit : IsFit v.conn.size v.conn.boundary link
  pub moved : v.conn.moved ≡ []
  pub repeated : HasRepeated v.conn.again v.conn.life
  pub renewed : HasRenewed v.conn.renewal v.conn.life
  pub ordered : IsOrdered (book (trace_of_acts before f v.acts)) f.single.link f.table v.conn.life v.conn.renewal

-- their timer was asked for
record HasAsked (before : List Action) (f : Core) (v : Work) (started : List ℕ) (link : LinkState) : Type 0 where
  life : v.conn.life ≡ Ready link
  holds : Holds before f v [] started
  ended : NoneEnds (book (trace_of_acts before f v.acts))
  fit : IsFit v.conn.size v.conn.boundary link
  moved : v.conn.moved ≡ []
  repeated : HasRepeated v.conn.again v.conn.life
  due : is_renewal_due v.conn.renewal ≡ true
  pending : v.conn.renewal.pending ≡ true
  ordered : AreOrdered (book (trace_of_acts before f v.acts)) f.single.link f.table v.conn.renewal.last

-- so it is, where they are to be told
asked_told : (before : List Action) (f : Core) (w : Work) (started : List ℕ) (link : LinkState) → w.conn.life ≡ Ready link → Holds before f w [] started → NoneEnds (book (trace_of_acts before f w.acts)) → IsFit w.conn.size w.conn.boundary link → w.conn.moved ≡ [] → HasRepeated w.conn.again w.conn.life
    → StaysOrdered (book (trace_of_acts before f w.acts)) f.single.link f.table w.conn.renewal → is_renewal_due w.conn.renewal ≡ true → HasAsked before f (renewal_asked w) started link
asked_told before f w started link life holds ended fit moved repeated stays due =
    let r = w.conn.renewal in
    chosen (λ (x : Work). HasAsked before f x started link) r.pending w (renewal_timed (renewing w (asked_next r (last_queued w.conn.life))) r.asked r.within)
    (λ p. record { life = life; holds = holds; ended = ended; fit = fit; moved = moved; repeated = repeated; due = due; pending = p; ordered = stays.ordered p (due_well r due).1 })
    (λ n. by_within r.within refl n)
  where
    trace : List Action
    trace = trace_of_acts before f w.acts

    b : Book
    b = book trace

    t : TurnState
    t = seen f w.acts w.conn [] started

    last : Option ℕ
    last = last_queued w.conn.life

    -- all that are in the queue are ahead of them
    ordered : w.conn.renewal.pending ≡ false → AreOrdered b f.single.link f.table last
    ordered n = subst (λ (x : Life). AreOrdered b f.single.link f.table (last_queued x)) (sym life) (asked_ordered b t link holds.tied (known trace holds.stands) refl moved life (stays.before n due))

    by_within : (within : Option ℕ) → w.conn.renewal.within ≡ within → w.conn.renewal.pending ≡ false → HasAsked before f (renewal_timed (renewing w (asked_next w.conn.renewal last)) w.conn.renewal.asked within) started link
    by_within None e n =
        let l = b.link f.single.link in
        let r = w.conn.renewal in
        let now = subst (TiedRenewal l (asked_next r last)) (sym life) (asked_renewed l r last n due e (subst (TiedRenewal l r) life holds.tied.renewal)) in
        record { life = life; holds = record { stands = holds.stands; tied = renewal_tied b t (asked_next r last) refl refl refl now holds.tied }; ended = ended; fit = fit; moved = moved; repeated = repeated; due = due; pending = refl; ordered = ordered n }
    by_within (Some ms) e n =
        let r = w.conn.renewal in
        let a = act.RenewalTimer r.asked ms in
        let was = subst (λ (x : Life). Tied b (record t { life = x })) life holds.tied in
        let number = length f.timers + length (timers_of f.single.link w.acts) in
        let may = may_time_renewal b t link number ms (sym (length-append f.timers (timers_of f.single.link w.acts))) n due e fit (subst (HasRepeated w.conn.again) life repeated) was ended in
        let what = purpose.Renewal f.single.link r.asked in
        let timer = action.Timer number ms what in
        let tied = subst (λ (x : Life). Tied (entered b timer) (record t { life = x; timers = t.timers ++ what ∷ []; renewal = asked_next r last })) (sym life) (time_tied b t link last number ms n due e was) in
        record {
          life = life;
          holds = sound_act before f w.acts a (record w.conn { renewal = asked_next r last }) [] started holds.stands (inr (inr (inl may))) tied;
          ended = subst NoneEnds (sym (book_of_more before f w.acts a)) (none_ends_kept b f.single.link times (λ l x. x) ended);
          fit = fit;
          moved = moved;
          repeated = repeated;
          due = due;
          pending = refl;
          ordered = subst (λ (x : Book). AreOrdered x f.single.link f.table last) (sym (book_of_more before f w.acts a))
              (ordered_more b t link timer last holds.tied life (known trace holds.stands) (since_begun trace holds.stands) (inr (inr (inl may))) refl (ordered n));
        }

-- those that are ahead of them have started, as far as they could
record HasLed (before : List Action) (f : Core) (v : Work) : Type 0 where
  started : List ℕ
  link : LinkState
  asked : HasAsked before f v started link
  stopped : (holds_back link ≡ true) ⊎ (is_first_up_to v.conn.renewal.last link.queue ≡ false)

-- by their link
asked_led : (before : List Action) (f : Core) (v : Work) (started : List ℕ) (link : LinkState) → HasAsked before f v started link → HasLed before f (started_ahead_at v (Ready link))
asked_led before f v started link h =
    let last = v.conn.renewal.last in
    let from : Starting = record { link = link; out = [] } in
    let s = started_to last from in
    let t = seen f v.acts v.conn [] started in
    let first : IsTelling (trace_of_acts before f v.acts) (on_link t link) = record {
      sound = record { stands = h.holds.stands; tied = subst (λ (x : Life). Tied (book (trace_of_acts before f v.acts)) (record t { life = x })) h.life h.holds.tied };
      ended = h.ended;
      due = h.due;
      pending = h.pending;
      ordered = h.ordered;
    } in
    let empty : is_outstanding v.conn.again ≡ true → link.queue ≡ [] = λ goes. ap (λ (x : Life). (link_in x).queue) (sym h.life) ∙ (h.holds.tied.early (outstanding_serves v.conn.life v.conn.again goes) (ap has_ended h.life)).empty in
    let all = each_ahead before (length f.timers) (length f.sources) v.acts t from link.queue h.fit h.moved empty (subst (λ (x : List LinkAct). IsTelling (trace_of_acts before f x) (on_link t link)) (sym (append-nil v.acts)) first) in
    let acts = v.acts ++ shows v.conn.requests s.out in
    let done = all.0 in
    let told : IsTelling (trace_of_acts before f acts) (seen f acts (with_link v s.link).conn [] done) =
    subst (λ ss. IsTelling (trace_of_acts before f acts) (record (on_link t s.link) { started = done; timers = f.timers ++ timers_of f.single.link acts; sources = f.sources ++ ss })) (sym (shows_sources f.single.link v.acts v.conn.requests s.out))
    (subst (λ ts. IsTelling (trace_of_acts before f acts) (record (on_link t s.link) { started = done; timers = f.timers ++ ts })) (sym (shows_timers f.single.link v.acts v.conn.requests s.out)) all.1) in
    subst (HasLed before f) (sym (shown_is (with_link v s.link) s.out)) (record {
      started = done;
      link = s.link;
      asked = record {
        life = refl;
        holds = told.sound;
        ended = told.ended;
        fit = to_fit v.conn.size v.conn.boundary last from link.queue h.fit;
        moved = h.moved;
        repeated = λ x e start.
            let was = h.repeated link h.life start in
            (was.0, subst (λ (y : LinkState). holds_back y ≡ true) (one_link s.link x e) (to_held last from link.queue was.1));
        due = h.due;
        pending = h.pending;
        ordered = told.ordered;
      };
      stopped = to_stopped last from link.queue;
    })

-- they are told, where nothing holds the link back
asked_moved : (before : List Action) (f : Core) (v : Work) (started : List ℕ) (link : LinkState) (cs : List Credentials) → v.conn.renewal.waiting ≡ cs → HasAsked before f v started link → (holds_back link ≡ true) ⊎ (is_first_up_to v.conn.renewal.last link.queue ≡ false) → HasTold before f (renewal_moved v (Ready link) cs)
asked_moved before f v started link [] none h stopped = absurd (not_both (are_some v.conn.renewal.waiting) (ap are_some none) (some_wait v.conn.renewal h.due))
asked_moved before f v started link (c ∷ cs) waits h stopped =
    chosen (HasTold before f) (holds_back link) v (renewal_told v link c cs)
    (λ held. record {
      started = started;
      link = link;
      life = h.life;
      holds = h.holds;
      ended = h.ended;
      fit = h.fit;
      moved = h.moved;
      repeated = h.repeated;
      renewed = λ x e due. (h.pending, subst (λ (y : LinkState). holds_back y ≡ true) (one_link link x (sym h.life ∙ e)) held);
      ordered = λ ready pending kept. h.ordered;
    })
    (λ free.
    let trace = trace_of_acts before f v.acts in
    let b = book trace in
    let t = seen f v.acts v.conn [] started in
    let q = renewal_queued c in
    let a = act.Renewed link.started (need_of Confirmation) (length (auth_bytes c.username c.password)) in
    let was = subst (λ (x : Life). Tied b (record t { life = x })) h.life h.holds.tied in
    let l = b.link f.single.link in
    let message = message_of b f.single.link owner.Auth in
    let first : is_first_up_to v.conn.renewal.last link.queue ≡ false = elim stopped [ inl held ↦ absurd (not_both (holds_back link) free held) | inr none ↦ none ] in
    let nobody = none_ahead b t link v.conn.renewal.last h.holds.tied (known trace h.holds.stands) refl h.life h.ordered first in
    record {
      started = started ++ renewal_id ∷ [];
      link = begun link q;
      life = refl;
      holds = sound_act before f v.acts a (record v.conn { renewal = told_next v.conn.renewal cs; life = Ready (begun link q) }) [] (started ++ renewal_id ∷ []) h.holds.stands
          (may_renew b t link c cs h.due h.pending waits h.fit free nobody (subst (HasRepeated v.conn.again) h.life h.repeated) was h.ended) (auth_tied b t link c cs h.due h.pending waits was);
      ended = subst NoneEnds (sym (book_of_more before f v.acts a)) (none_ends_mine b f.single.link (begins message) (begins_ends_none l message was.life.1 refl was.setup.said (h.ended f.single.link)) h.ended);
      fit = record { sound = h.fit.sound; size_is = h.fit.size_is; bound_is = h.fit.bound_is; within = h.fit.within };
      moved = h.moved;
      repeated = λ x e start. absurd (not_both (holds_back link) free (h.repeated link h.life start).1);
      renewed = λ x e due. cc;
      ordered = λ ready pending kept. absurd (let no : false ≡ true = pending in cc);
    })

-- behind those that were ahead of them
led_moved : (before : List Action) (f : Core) (v : Work) → HasLed before f v → HasTold before f (renewal_moved v v.conn.life v.conn.renewal.waiting)
led_moved before f v h = subst (λ (x : Life). HasTold before f (renewal_moved v x v.conn.renewal.waiting)) (sym h.asked.life) (asked_moved before f v h.started h.link v.conn.renewal.waiting refl h.asked h.stopped)

-- so all are told that may be
pub renewed_told : (before : List Action) (f : Core) (w : Work) (started : List ℕ) (link : LinkState) → w.conn.life ≡ Ready link → Holds before f w [] started → NoneEnds (book (trace_of_acts before f w.acts)) → IsFit w.conn.size w.conn.boundary link → w.conn.moved ≡ [] → HasRepeated w.conn.again w.conn.life
    → StaysOrdered (book (trace_of_acts before f w.acts)) f.single.link f.table w.conn.renewal → HasTold before f (renewed w)
renewed_told before f w started link life holds ended fit moved repeated stays =
    let r = w.conn.renewal in
    let ready : is_ready w.conn.life ≡ true = ap is_ready life in
    let ahead = started_ahead (renewal_asked w) in
    chosen (HasTold before f) (is_ready w.conn.life && is_renewal_due r) (renewal_moved ahead ahead.conn.life ahead.conn.renewal.waiting) w
    (λ t.
    let asked = asked_told before f w started link life holds ended fit moved repeated stays (both_right (is_ready w.conn.life) (is_renewal_due r) t) in
    led_moved before f ahead (subst (λ (x : Life). HasLed before f (started_ahead_at (renewal_asked w) x)) (sym asked.life) (asked_led before f (renewal_asked w) started link asked)))
    (λ f1. record {
      started = started;
      link = link;
      life = life;
      holds = holds;
      ended = ended;
      fit = fit;
      moved = moved;
      repeated = repeated;
      renewed = λ x e due. absurd (not_both (is_ready w.conn.life && is_renewal_due r) f1 (λ i. ready i && due i));
      ordered = λ up. stays.ordered;
    })
