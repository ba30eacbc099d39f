-- Bytes come on a link whose setup waits for credentials: they answer nothing, and those that begin no value end it.
use Rattle.std.proofs.Common.{◌≡◌, ℕ, ◌≤◌, Bool, true, false, if◌then◌else◌, List, [], ◌∷◌, ◌++◌, length, Some, None, refl, sym, ap, ◌∙◌, subst, arith, inl}
use Rattle.containers.proofs.Choices.{chosen, taken_if, left_if}
use Rattle.redis_error.specs.declared.redis_error.RedisError.{RedisError}
use Rattle.redis_error.specs.declared.redis_error.RedisError.TheVariants as error
use Rattle.resp_read.specs.Values.{values}
use Rattle.driver_model.specs.declared.action.Action.{Action}
use Rattle.driver_model.specs.declared.action.Owner.{Owner}
use Rattle.driver_model.specs.declared.action.Owner.TheVariants as owner
use Rattle.driver_model.specs.declared.event.EventKind.{EventKind}
use Rattle.driver_model.specs.declared.news.LinkFault.TheVariants as fault
use Rattle.driver_model.specs.News.{came, news_of}
use Rattle.driver_model.specs.declared.hearing.Hearing.TheVariants as hearing
use Rattle.link_core.specs.Dealing.{dealing_with}
use Rattle.link_core.specs.Link.{LinkState, read_on, read_with}
use Rattle.link_laws.proofs.SetUp.{all_done}
use Rattle.link_laws.proofs.TiedLink.{TiedLink, deals, has_read, heard_is}
use Rattle.mux_conn.specs.declared.life.Life.{Life}
use Rattle.mux_conn.specs.declared.life.Life.TheVariants.{Wanting}
use Rattle.mux_conn.specs.Connection.{Work, with_wanting, is_ready, is_resting}
use Rattle.mux_conn.specs.Effects.{failed_at, read_wanting}
use Rattle.single_session.specs.declared.core_state.Core.{Core}
use Rattle.single_session.specs.Turn.{with_work, is_bad}
use Rattle.legal_trace.specs.Ledger.{Ledger, by_opening, bytes_came, ending, is_set_up, is_unreadable}
use Rattle.legal_trace.specs.Book.{Book, book, hearing_in}
use Rattle.legal_trace.proofs.Came.{Came, bytes_are}
use Rattle.conn_laws.proofs.Requests.Rounded.{rounds_down, early_on}
use Rattle.conn_laws.proofs.Links.Server.{TiedCreds, TiedSetup, on_link}
use Rattle.conn_laws.proofs.Ties.Tied.{AreQueued, TiedLife, TiedLines, TiedWaits, has_ended, link_in}
use Rattle.session_laws.proofs.Ties.Tied.{inner, HasCourse, TurnState, Tied}
use Rattle.conn_laws.proofs.Links.Creds.{asked_sourced}
use Rattle.session_laws.proofs.Ties.States.{Between, HasEffect}
use Rattle.conn_laws.proofs.Links.Said.{PushesOf, ending_wanting}
use Rattle.conn_laws.proofs.Links.Failing.{Fails}
use Rattle.session_laws.proofs.Links.Retire.{setup_failed}
use Rattle.conn_laws.proofs.Turn.Announce.{asked_hear}
use Rattle.session_laws.proofs.Turn.Announce.{IsNewsKind, turn_of, turned}
use Rattle.conn_laws.proofs.Turn.Heard.{wanting_fit, wanting_waits, none_hears}
use Rattle.session_laws.proofs.Turn.Heard.{heard_by, quiet_applied, tame_between, hushed_there}
use Rattle.conn_laws.proofs.Links.End.{IsWanting, bare_error_is}
use Rattle.session_laws.proofs.Links.End.{wanting_tied, wanting_unready, notices_there}
use Rattle.conn_laws.proofs.Links.Greeted.{IsReadUnset, unset_of}
use Rattle.conn_laws.proofs.Links.HeardBytes.{quiet_notices, unset_unreadable}
use Rattle.conn_laws.proofs.Ties.More.{after_came, after_is}
use Rattle.conn_laws.proofs.Internal.Renewals.{early_renewal}
use Rattle.conn_laws.proofs.Links.SetUp.{lacking_unset}
use Rattle.conn_laws.proofs.Internal.Serving.{unready_serves}
use Rattle.session_laws.proofs.Internal.Held.{held_hears}

-- the course of its link
on_way : (b : Book) (t : TurnState) (link : LinkState) → t.life ≡ Wanting link → Tied b t → HasCourse (b.link t.link).last (b.link t.link).end t.links t.link t.shut t.manager t.last t.opened t.info t.address (Wanting link)
on_way b t link e h = subst (HasCourse (b.link t.link).last (b.link t.link).end t.links t.link t.shut t.manager t.last t.opened t.info t.address) e h.course

-- the event has its effect, where this came
wanting_reads : (before : List Action) (c : Core) (started : List ℕ) (word : ℕ) (kind : EventKind) (piece : List ℕ) (link : LinkState) → Between before c started → is_bad c kind ≡ false → IsNewsKind c.timers kind → news_of c.timers c.sources c.single.link kind ≡ came piece
    → c.single.connection.life ≡ Wanting link → Came ((book before).link c.single.link) (bytes_came ((book before).link c.single.link) piece)
    → HasEffect (before ++ turn_of c word kind ∷ []) (with_work (record { core = turned c kind; acts = [] }) (read_wanting (record { conn = c.single.connection; acts = [] }) (read_with (read_on link (link.rest ++ piece)) (deals hearing.Nothing false link piece)))) started
wanting_reads before c started word kind piece link h good k is e it =
    chosen applied read.broken (failed_at v fault.Parse v.conn.life) v ends_so goes_on
  where
    b : Book
    b = book before

    l : Ledger
    l = b.link c.single.link

    after : Ledger
    after = after_came l piece it

    read : LinkState
    read = has_read hearing.Nothing false link piece

    v : Work
    v = with_wanting (record { conn = c.single.connection; acts = [] }) read

    name : ℕ → Owner
    name = λ p. owner.Setup

    applied : Work → Type 0
    applied x = HasEffect (before ++ turn_of c word kind ∷ []) (with_work (record { core = turned c kind; acts = [] }) x) started

    s : IsWanting l b.created started link
    s = wanting_tied b (inner c started) link e h.sound.tied

    same : heard_by b c (came piece) ≡ after
    same = heard_is l c.turns piece s.up ∙ after_is l piece it

    unready : is_set_up after ≡ false
    unready = (lacking_unset after s.lacks).unset

    few : length link.row ≤ 1
    few = let none : length link.row ≡ 0 = ap length s.row in omega arith

    quiet : IsReadUnset name hearing.Nothing l link piece it
    quiet = unset_of name hearing.Nothing l link piece it (tame_between before c started h s.alive) s.alive few (λ i x less at. (h.sound.tied.setup.sent i x less at).1) unready s.tied

    -- nothing is to be told
    notices : PushesOf (hearing_in b.config) c.single.connection.hears after
    notices = quiet_notices name hearing.Nothing l link piece it (hearing_in b.config) c.single.connection.hears s.up quiet (notices_there b c started (ap is_resting e) h.sound.tied)

    -- what can't be read on is what breaks it
    spoiled : (x : Bool) → read.broken ≡ x → is_unreadable after ≡ x
    spoiled x t = unset_unreadable name hearing.Nothing l link piece it quiet ∙ t

    -- it ends then as a link on which nothing has started
    must : ending after ≡ (if is_unreadable after then Some (by_opening error.Closed) else None)
    must = ending_wanting after s.up s.lacks ∙ ap (λ (x : RedisError). if is_unreadable after then Some (by_opening x) else None) (bare_error_is after fault.Parse s.starts)

    -- nothing takes items
    row : read.row ≡ []
    row = (all_done hearing.Nothing false (dealing_with link.row) (values (link.rest ++ piece)) s.row).0

    told_so : l.info ≡ c.single.connection.info
    told_so = on_link c.single.connection.life (l.info ≡ c.single.connection.info) (ap is_resting e) h.sound.tied.setup.info_is

    wanted_so : l.creds.wanted ≡ c.single.connection.renewal.wanted
    wanted_so = on_link c.single.connection.life (l.creds.wanted ≡ c.single.connection.renewal.wanted) (ap is_resting e) h.sound.tied.creds.wanted_is

    ends_so : read.broken ≡ true → applied (failed_at v fault.Parse v.conn.life)
    ends_so t =
        setup_failed before c started word kind (came piece) error.Closed h good k is (λ z. cc) (wanting_unready b (inner c started) link e h.sound.tied)
        (subst (λ (y : Ledger). Fails y c.single.connection.info c.single.connection.renewal.wanted (hearing_in b.config) c.single.connection.hears error.Closed) (sym same) (record {
          alive = s.alive;
          unready = unready;
          must = must ∙ taken_if (is_unreadable after) (Some (by_opening error.Closed)) None (spoiled true t);
          info_is = told_so;
          wanted_is = wanted_so;
          sourced = asked_sourced after s.sought.1 (inl unready);
          sent = h.sound.tied.setup.sent;
          notices = notices;
        }))

    goes_on : read.broken ≡ false → applied v
    goes_on f =
        let fit = h.fit.wanting link e in
        let course = on_way b (inner c started) link e h.sound.tied in
        inl (quiet_applied before c started word kind (came piece) (Wanting read) h good k is
        (record {
          lived = subst (λ (y : Ledger). TiedLife y b.created (Wanting read)) (sym same) (s.asked, s.up, s.alive);
          course = (course.0, course.1, course.2, (asked_hear l c.turns (came piece)).last ∙ course.3);
          creds = subst (λ (y : Ledger). TiedCreds y.creds c.single.connection.renewal.wanted (Wanting read)) (sym same) (record { wanted_is = wanted_so; sought = s.sought });
          renewal_is = none_hears l c.turns (came piece) c.single.connection.renewal (λ x. x) (early_renewal l c.single.connection.renewal c.single.connection.life (ap is_ready e) (ap has_ended e) h.sound.tied.renewal);
          repeat_is = held_hears b c started (came piece) h.sound.tied (ap is_resting e) (ap is_ready e) (ap has_ended e);
          said = subst (λ (y : Ledger). TiedSetup y c.single.connection.info started (Wanting read)) (sym same) (record { info_is = told_so; sent = h.sound.tied.setup.sent; said = (s.starts, s.none, s.queue, row) });
          linked = λ z. subst (λ (y : Ledger). TiedLink name y read) (sym same) quiet.of.tied;
          lines = subst (λ (x : Life). TiedLines b.story c.single.connection.requests (link_in x) c.single.connection.waiting c.single.connection.admitted [] started) e h.sound.tied.lines;
          told = λ z. subst (λ (x : Life). AreQueued b.story c.single.connection.requests c.single.link (link_in x)) e (h.sound.tied.told (ap has_ended e));
          waits = wanting_waits b.story c.single.connection.requests c.single.connection.again link read c.single.connection.fresh c.single.connection.moved (subst (λ (x : Life). TiedWaits b.story c.single.connection.requests c.single.connection.again x c.single.connection.fresh c.single.connection.moved) e h.sound.tied.waits);
          rounds = rounds_down b.story c.single.connection.requests c.single.connection.fresh c.single.connection.fresh refl h.sound.tied.rounds;
          early = (let conn = c.single.connection in early_on conn.requests conn.again conn.again conn.life (Wanting read) (unready_serves conn.life conn.again (ap is_ready e)) (ap has_ended e) refl h.sound.tied.early);
          notices = subst (λ (y : Ledger). PushesOf (hearing_in b.config) c.single.connection.hears y) (sym same) notices;
        })
        (ap ending same ∙ must ∙ left_if (is_unreadable after) (Some (by_opening error.Closed)) None (spoiled false f))
        (wanting_fit c.single.connection link read e h.fit (record { sound = f; size_is = fit.size_is; bound_is = fit.bound_is; within = fit.within }))
        (hushed_there c kind (came piece) (Wanting read) is (λ z. cc) (ap is_resting e) (ap has_ended e) h.hushed))

-- so it has
pub wanting_read : (before : List Action) (c : Core) (started : List ℕ) (word : ℕ) (kind : EventKind) (piece : List ℕ) (link : LinkState) → Between before c started → is_bad c kind ≡ false → IsNewsKind c.timers kind → news_of c.timers c.sources c.single.link kind ≡ came piece
    → c.single.connection.life ≡ Wanting link
    → HasEffect (before ++ turn_of c word kind ∷ []) (with_work (record { core = turned c kind; acts = [] }) (read_wanting (record { conn = c.single.connection; acts = [] }) (read_with (read_on link (link.rest ++ piece)) (deals hearing.Nothing false link piece)))) started
wanting_read before c started word kind piece link h good k is e = wanting_reads before c started word kind piece link h good k is e (bytes_are ((book before).link c.single.link) piece)
