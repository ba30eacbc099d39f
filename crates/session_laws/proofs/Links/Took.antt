-- Offered bytes were taken.
use Rattle.std.proofs.Common.{◌≡◌, ℕ, ◌≤◌, false, List, [], ◌∷◌, ◌++◌, ap, refl, subst, ◌∙◌, inl}
use Rattle.driver_model.specs.declared.action.Action.{Action}
use Rattle.driver_model.specs.declared.action.Owner.TheVariants as owner
use Rattle.driver_model.specs.declared.event.EventKind.{EventKind}
use Rattle.driver_model.specs.News.{took, news_of}
use Rattle.link_core.specs.Link.{wrote_of}
use Rattle.link_laws.proofs.TiedLink.{TiedLink, wrote_tied}
use Rattle.mux_conn.specs.declared.life.Life.{Life}
use Rattle.mux_conn.specs.declared.life.Life.TheVariants.{Resting, Dialing, Wanting, SettingUp, Ready, Ended}
use Rattle.mux_conn.specs.Effects.{taken_at, CanTake}
use Rattle.single_session.specs.declared.core_state.Core.{Core}
use Rattle.single_session.specs.Turn.{with_work, is_bad}
use Rattle.legal_trace.specs.Ledger.{hears, noted}
use Rattle.legal_trace.specs.Book.{book, has_generations, hearing_in}
use Rattle.conn_laws.proofs.Requests.Rounded.{rounds_down, early_on}
use Rattle.conn_laws.proofs.Links.Server.{TiedSetup, TiedCreds, TiedRenewal}
use Rattle.conn_laws.proofs.Ties.Tied.{carried, link_in, owner_of, whole_link, TiedLife, TiedLines, AreQueued, TiedWaits, has_ended, greeter, TiedRounds, AreEarly}
use Rattle.session_laws.proofs.Ties.Tied.{HasCourse}
use Rattle.session_laws.proofs.Ties.States.{Between, HasApplied}
use Rattle.conn_laws.proofs.Turn.Announce.{asked_hear}
use Rattle.session_laws.proofs.Turn.Announce.{turn_of, turned, IsNewsKind}
use Rattle.conn_laws.proofs.Turn.Heard.{setting_waits, wanting_waits}
use Rattle.session_laws.proofs.Turn.Heard.{quiet_applied, ended_quiet, dialing_quiet, still_none, pushes_still, resting_quiet, hushed_there, heard_by, repeat_still}
use Rattle.conn_laws.proofs.Links.Said.{setup_hears, setup_link, setup_ready, wanting_link, pushes_there}
use Rattle.mux_conn.specs.Connection.{is_ready, is_resting}
use Rattle.conn_laws.proofs.Internal.Repeats.{serves, TiedRepeat}
use Rattle.conn_laws.proofs.Internal.Serving.{unready_serves}
use Rattle.session_laws.proofs.Internal.Held.{held_hears}
use Rattle.conn_laws.proofs.Links.Took.{queue_waits, took_creds, took_life, took_no_end, took_renewal, took_setting, took_wanting, wrote_fit, wrote_fit_set, wrote_fit_want, wrote_lines}

-- so much was taken of what was offered
pub took_applied : (before : List Action) (c : Core) (started : List ℕ) (word count : ℕ) (kind : EventKind) → Between before c started → is_bad c kind ≡ false → IsNewsKind c.timers kind → news_of c.timers c.sources c.single.link kind ≡ took count → CanTake c.single.connection.life count
    → HasApplied (before ++ turn_of c word kind ∷ []) (with_work (record { core = turned c kind; acts = [] }) (taken_at (record { conn = c.single.connection; acts = [] }) count c.single.connection.life)) started
took_applied before c started word count kind h good k is can = by_life c.single.connection.life refl
  where
    by_life : (x : Life) → c.single.connection.life ≡ x → HasApplied (before ++ turn_of c word kind ∷ []) (with_work (record { core = turned c kind; acts = [] }) (taken_at (record { conn = c.single.connection; acts = [] }) count x)) started
    by_life Resting e = resting_quiet before c started word kind (took count) (λ z. cc) h good k is e
    by_life Dialing e = dialing_quiet before c started word kind (took count) tt h good k is e
    by_life (Ended x) e = ended_quiet before c started word kind (took count) x h good k is e
    by_life (Wanting link) e =
        let b = book before in
        let l = b.link c.single.link in
        let conn = c.single.connection in
        let life = subst (TiedLife l b.created) e h.sound.tied.life in
        let creds = subst (TiedCreds l.creds conn.renewal.wanted) e h.sound.tied.creds in
        let course = subst (λ (x : Life). HasCourse l.last l.end c.links c.single.link c.shut c.manager conn.last conn.opened conn.info conn.address x) e h.sound.tied.course in
        let tied : TiedLink (λ (p : ℕ). owner.Setup) l link = subst (λ (x : Life). TiedLink (carried x conn.requests) l (whole_link x)) e (h.sound.tied.link (ap has_ended e)) in
        let few : count ≤ link.outbox.offered = subst (λ (x : Life). CanTake x count) e can in
        let said = setup_hears l c.turns (took count) conn.info started (Wanting link) tt (subst (TiedSetup l conn.info started) e h.sound.tied.setup) in
        quiet_applied before c started word kind (took count) (Wanting (wrote_of link count)) h good k is
        (record {
          lived = took_wanting l b.created c.turns count link (wrote_of link count) life;
          course = (course.0, course.1, course.2, (asked_hear l c.turns (took count)).last ∙ course.3);
          creds = took_creds l conn.renewal.wanted c.turns count (Wanting (wrote_of link count)) (record { wanted_is = creds.wanted_is; sought = creds.sought });
          renewal_is = took_renewal l conn.renewal c.turns count (Wanting (wrote_of link count)) (subst (TiedRenewal l conn.renewal) e h.sound.tied.renewal);
          repeat_is = held_hears b c started (took count) h.sound.tied (ap is_resting e) (ap is_ready e) (ap has_ended e);
          said = wanting_link (noted l (hears c.turns (took count))) conn.info started link (wrote_of link count) refl refl said;
          linked = λ n. wrote_tied (λ (p : ℕ). owner.Setup) l link c.turns count life.1 few tied;
          lines = subst (λ (x : Life). TiedLines b.story conn.requests (link_in x) conn.waiting conn.admitted [] started) e h.sound.tied.lines;
          told = λ n. subst (λ (x : Life). AreQueued b.story conn.requests c.single.link (link_in x)) e (h.sound.tied.told (ap has_ended e));
          waits = wanting_waits b.story conn.requests conn.again link (wrote_of link count) conn.fresh conn.moved (subst (λ (x : Life). TiedWaits b.story conn.requests conn.again x conn.fresh conn.moved) e h.sound.tied.waits);
          rounds = rounds_down b.story conn.requests conn.fresh conn.fresh refl h.sound.tied.rounds;
          early = early_on conn.requests conn.again conn.again conn.life (Wanting (wrote_of link count)) (unready_serves conn.life conn.again (ap is_ready e)) (ap has_ended e) refl h.sound.tied.early;
          notices = pushes_there conn.life (Wanting link) (hearing_in b.config) conn.hears (heard_by b c (took count)) e (pushes_still before c started (took count) h (inl tt));
        })
        (took_no_end l c.turns count (still_none before c started h c.single.link)) (record {
          wanting = wrote_fit_want conn.size conn.boundary link count (h.fit.wanting link e);
          setup = λ x u r. cc;
          link = λ x r. cc;
          none = λ down. h.fit.none (unready_serves conn.life conn.again (ap is_ready e));
        })
        (hushed_there c kind (took count) (Wanting (wrote_of link count)) is (λ z. cc) (ap is_resting e) (ap has_ended e) h.hushed)
    by_life (SettingUp link greeting) e =
        let b = book before in
        let l = b.link c.single.link in
        let conn = c.single.connection in
        let life = subst (TiedLife l b.created) e h.sound.tied.life in
        let creds = subst (TiedCreds l.creds conn.renewal.wanted) e h.sound.tied.creds in
        let course = subst (λ (x : Life). HasCourse l.last l.end c.links c.single.link c.shut c.manager conn.last conn.opened conn.info conn.address x) e h.sound.tied.course in
        let tied : TiedLink (λ (p : ℕ). greeter greeting) l link = subst (λ (x : Life). TiedLink (carried x conn.requests) l (whole_link x)) e (h.sound.tied.link (ap has_ended e)) in
        let few : count ≤ link.outbox.offered = subst (λ (x : Life). CanTake x count) e can in
        let said = setup_hears l c.turns (took count) conn.info started (SettingUp link greeting) tt (subst (TiedSetup l conn.info started) e h.sound.tied.setup) in
        quiet_applied before c started word kind (took count) (SettingUp (wrote_of link count) greeting) h good k is
        (record {
          lived = took_setting l b.created c.turns count link (wrote_of link count) greeting life;
          course = (course.0, course.1, course.2, (asked_hear l c.turns (took count)).last ∙ course.3);
          creds = took_creds l conn.renewal.wanted c.turns count (SettingUp (wrote_of link count) greeting) (record { wanted_is = creds.wanted_is; sought = creds.sought });
          renewal_is = took_renewal l conn.renewal c.turns count (SettingUp (wrote_of link count) greeting) (subst (TiedRenewal l conn.renewal) e h.sound.tied.renewal);
          repeat_is = held_hears b c started (took count) h.sound.tied (ap is_resting e) (ap is_ready e) (ap has_ended e);
          said = setup_link (noted l (hears c.turns (took count))) conn.info started link (wrote_of link count) greeting refl refl said;
          linked = λ n. wrote_tied (λ (p : ℕ). greeter greeting) l link c.turns count life.1 few tied;
          lines = subst (λ (x : Life). TiedLines b.story conn.requests (link_in x) conn.waiting conn.admitted [] started) e h.sound.tied.lines;
          told = λ n. subst (λ (x : Life). AreQueued b.story conn.requests c.single.link (link_in x)) e (h.sound.tied.told (ap has_ended e));
          waits = setting_waits b.story conn.requests conn.again link (wrote_of link count) greeting greeting conn.fresh conn.moved (subst (λ (x : Life). TiedWaits b.story conn.requests conn.again x conn.fresh conn.moved) e h.sound.tied.waits);
          rounds = rounds_down b.story conn.requests conn.fresh conn.fresh refl h.sound.tied.rounds;
          early = early_on conn.requests conn.again conn.again conn.life (SettingUp (wrote_of link count) greeting) (unready_serves conn.life conn.again (ap is_ready e)) (ap has_ended e) refl h.sound.tied.early;
          notices = pushes_there conn.life (SettingUp link greeting) (hearing_in b.config) conn.hears (heard_by b c (took count)) e (pushes_still before c started (took count) h (inl tt));
        })
        (took_no_end l c.turns count (still_none before c started h c.single.link)) (record {
          wanting = λ x r. cc;
          setup = wrote_fit_set conn.size conn.boundary link count greeting (h.fit.setup link greeting e);
          link = λ x r. cc;
          none = λ down. h.fit.none (unready_serves conn.life conn.again (ap is_ready e));
        })
        (hushed_there c kind (took count) (SettingUp (wrote_of link count) greeting) is (λ z. cc) (ap is_resting e) (ap has_ended e) h.hushed)
    by_life (Ready link) e =
        let b = book before in
        let l = b.link c.single.link in
        let conn = c.single.connection in
        let life = subst (TiedLife l b.created) e h.sound.tied.life in
        let creds = subst (TiedCreds l.creds conn.renewal.wanted) e h.sound.tied.creds in
        let course = subst (λ (x : Life). HasCourse l.last l.end c.links c.single.link c.shut c.manager conn.last conn.opened conn.info conn.address x) e h.sound.tied.course in
        let tied : TiedLink (owner_of conn.requests) l link = subst (λ (x : Life). TiedLink (carried x conn.requests) l (whole_link x)) e (h.sound.tied.link (ap has_ended e)) in
        let few : count ≤ link.outbox.offered = subst (λ (x : Life). CanTake x count) e can in
        let said = setup_hears l c.turns (took count) conn.info started (Ready link) tt (subst (TiedSetup l conn.info started) e h.sound.tied.setup) in
        quiet_applied before c started word kind (took count) (Ready (wrote_of link count)) h good k is
        (record {
          lived = took_life l b.created c.turns count link (wrote_of link count) life;
          course = (course.0, course.1, course.2, (asked_hear l c.turns (took count)).last ∙ course.3);
          creds = took_creds l conn.renewal.wanted c.turns count (Ready (wrote_of link count)) (record { wanted_is = creds.wanted_is; sought = creds.sought });
          renewal_is = took_renewal l conn.renewal c.turns count (Ready (wrote_of link count)) (subst (TiedRenewal l conn.renewal) e h.sound.tied.renewal);
          repeat_is = subst (TiedRepeat (heard_by b c (took count)) b.tracked conn.renewal.within conn.again) e (repeat_still b c started (took count) h.sound.tied (inl tt));
          said = setup_ready (noted l (hears c.turns (took count))) conn.info started link (wrote_of link count) said;
          linked = λ n. wrote_tied (owner_of conn.requests) l link c.turns count life.1 few tied;
          lines = wrote_lines b.story conn.requests link count conn.waiting conn.admitted [] started (subst (λ (x : Life). TiedLines b.story conn.requests (link_in x) conn.waiting conn.admitted [] started) e h.sound.tied.lines);
          told = λ n. subst (λ (x : Life). AreQueued b.story conn.requests c.single.link (link_in x)) e (h.sound.tied.told (ap has_ended e));
          waits = queue_waits b.story conn.requests conn.again link (wrote_of link count) conn.fresh conn.moved (λ p i. i) (subst (λ (x : Life). TiedWaits b.story conn.requests conn.again x conn.fresh conn.moved) e h.sound.tied.waits);
          rounds = subst (λ (x : Life). TiedRounds (has_generations b) b.story conn.requests (serves x conn.again) conn.fresh conn.rounds) e h.sound.tied.rounds;
          early = λ unserved alive. (let k = subst (AreEarly conn.requests conn.again) e h.sound.tied.early unserved alive in record { unbegun = k.unbegun; empty = k.empty });
          notices = pushes_there conn.life (Ready link) (hearing_in b.config) conn.hears (heard_by b c (took count)) e (pushes_still before c started (took count) h (inl tt));
        })
        (took_no_end l c.turns count (still_none before c started h c.single.link)) (record {
          wanting = λ x r. cc;
          setup = λ x u r. cc;
          link = wrote_fit conn.size conn.boundary link count (h.fit.link link e);
          none = λ down. h.fit.none (ap (λ (x : Life). serves x conn.again) e ∙ down);
        })
        (hushed_there c kind (took count) (Ready (wrote_of link count)) is (λ z. cc) (ap is_resting e) (ap has_ended e) h.hushed)
