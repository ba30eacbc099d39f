-- Bytes come on a link that is set up: its greeting may be answered then.
use Rattle.std.proofs.Common.{if◌then◌else◌, ◌≡◌, inl, inr, ℕ, suc, ◌<◌, ◌≤◌, nat_lt, Bool, true, false, ◌&&◌, ◌||◌, not, List, [], ◌∷◌, ◌++◌, length, Option, Some, None, refl, sym, ap, ◌∙◌, subst, arith}
use Rattle.std.specs.List.{AllByRecursion}
use Rattle.containers.proofs.Choices.{by_test, chosen, taken_if, left_if, lt_from, not_both, not_lt_from}
use Rattle.redis_error.specs.declared.redis_error.RedisError.{RedisError}
use Rattle.redis_error.specs.declared.redis_error.RedisError.TheVariants as reason
use Rattle.resp_read.specs.Values.{is_spoiled, values}
use Rattle.connection_info.specs.declared.address.RedisConnectionInfo.{RedisConnectionInfo}
use Rattle.connection_setup.specs.declared.judgement.SetupResult.{SetupResult}
use Rattle.connection_setup.specs.declared.judgement.SetupResult.TheVariants as result
use Rattle.connection_setup.specs.Setup.{setup}
use Rattle.driver_model.specs.declared.action.Action.{Action}
use Rattle.driver_model.specs.declared.action.Owner.{Owner}
use Rattle.driver_model.specs.declared.action.Owner.TheVariants as owner
use Rattle.driver_model.specs.declared.action.WaitKind.TheVariants as wait
use Rattle.driver_model.specs.declared.event.EventKind.{EventKind}
use Rattle.driver_model.specs.declared.hearing.Hearing.{Hearing}
use Rattle.driver_model.specs.declared.news.LinkFault.TheVariants as fault
use Rattle.driver_model.specs.declared.outcome.Outcome.{Outcome}
use Rattle.driver_model.specs.Hearing.{felt, hears_something, is_watching}
use Rattle.driver_model.specs.News.{came, news_of}
use Rattle.driver_model.specs.Setup.{says_nothing, setup_shape}
use Rattle.link_core.specs.declared.message.Entry.{Entry}
use Rattle.link_core.specs.declared.message.NoticeAt.{NoticeAt}
use Rattle.link_core.specs.declared.message.Queued.{Queued}
use Rattle.link_core.specs.declared.message.Settled.{Settled}
use Rattle.link_core.specs.Dealing.{Dealing, dealing_with}
use Rattle.link_core.specs.Ends.{row_hit, queue_closed}
use Rattle.link_core.specs.Link.{LinkState, enqueued, read_on, read_with}
use Rattle.link_laws.specs.Notices.{SayTheSame}
use Rattle.link_laws.proofs.Notices.{heard_kinds, reads_behind, reads_tell}
use Rattle.link_laws.proofs.SetUp.{all_done, setup_sets}
use Rattle.link_laws.proofs.TiedLink.{SameNames, TiedLink, deals, enqueued_tied, heard_is, named_tied}
use Rattle.mux_conn.specs.declared.act.LinkAct.TheVariants as act
use Rattle.mux_conn.specs.declared.connection.MultiplexedConnection.{MultiplexedConnection}
use Rattle.mux_conn.specs.declared.life.Greeting.{Greeting}
use Rattle.mux_conn.specs.declared.life.Greeting.TheVariants as greet
use Rattle.mux_conn.specs.declared.life.Life.{Life}
use Rattle.mux_conn.specs.declared.life.Life.TheVariants.{SettingUp}
use Rattle.mux_conn.specs.Connection.{Work, acted, is_ready, with_setup, is_resting}
use Rattle.mux_conn.specs.Effects.{answered_setup, behind_first, broken_at, failed_at, greeted_by, greeting_error, greeting_queued, has_user, heard_on, judged_by, made_ready, noticed_each, opening_failed, read_setup, set_up_by, sets_up, setup_id, setup_queued, steps_of, told_each}
use Rattle.mux_conn.specs.Requests.{is_open_at, name_at}
use Rattle.single_session.specs.declared.core_state.Core.{Core}
use Rattle.single_session.specs.Turn.{is_bad, with_work}
use Rattle.legal_trace.specs.Book.{Book, book, hearing_in}
use Rattle.legal_trace.specs.Ledger.{Heard, Ledger, by_fault, by_opening, bytes_came, cut, ending, is_answered, is_full, is_set_up, is_unreadable, is_well, lacks_credentials, repeats, result_of, setup_after, setup_count, setup_result, setup_steps}
use Rattle.legal_trace.specs.Owed.{owed}
use Rattle.legal_trace.proofs.Came.{Came, bytes_are}
use Rattle.legal_trace.proofs.Monitors.{unwatched}
use Rattle.legal_trace.proofs.Setups.{AreSetups as SetUpsAre, ends_where_set, greeted_more, set_is_greeted}
use Rattle.conn_laws.proofs.Requests.Rounded.{rounds_down, early_on}
use Rattle.conn_laws.proofs.Turn.Announce.{asked_hear}
use Rattle.session_laws.proofs.Turn.Announce.{IsNewsKind, turn_of, turned}
use Rattle.conn_laws.proofs.Links.Close.{parted_moved}
use Rattle.session_laws.proofs.Links.Close.{HasEnded, ended_applied}
use Rattle.conn_laws.proofs.Links.ComeUp.{IsEarly, IsMade, made_conn, made_is, made_of}
use Rattle.session_laws.proofs.Links.ComeUp.{IsReadied, IsShownReady, makes_ready}
use Rattle.conn_laws.proofs.Links.Creds.{has_credentials, has_sourced}
use Rattle.conn_laws.proofs.Links.End.{IsSetting, opening_error_is}
use Rattle.session_laws.proofs.Links.End.{fault_ends, setting_tied, setting_unready, notices_there}
use Rattle.conn_laws.proofs.Links.Failing.{Fails}
use Rattle.session_laws.proofs.Links.Retire.{setup_failed}
use Rattle.conn_laws.proofs.Links.Greeted.{IsAnswered, IsReadSet, IsReadUnset, answered_result, due_same, few_rows, full_row, full_settled, open_still, reads_answered, repeats_first, sent_last, set_unwatched, sets_of, settled_last, setup_full, setup_last, still_awaited, still_full, unset_of, watch_answered, watch_full, watch_last, watch_sets}
use Rattle.conn_laws.proofs.Turn.Heard.{none_hears, setting_fit, setting_waits}
use Rattle.session_laws.proofs.Turn.Heard.{heard_by, none_ends, quiet_applied, tame_between, hushed_there, going_awake}
use Rattle.conn_laws.proofs.Links.HeardBytes.{all_heard, heard_notices, none_noticed, quiet_notices, unset_unreadable}
use Rattle.conn_laws.proofs.Links.Judged.{judged_memory}
use Rattle.conn_laws.proofs.Ties.More.{after_came, after_is}
use Rattle.session_laws.proofs.Ties.Owes.{in_line}
use Rattle.conn_laws.proofs.Internal.Renewals.{early_renewal}
use Rattle.conn_laws.proofs.Links.Said.{PushesOf, ending_failed, ending_setting, readied, well_readied}
use Rattle.conn_laws.proofs.Links.SameSaid.{greeting_alike, greeting_link, greeting_of, set_alike}
use Rattle.conn_laws.proofs.Links.SetUp.{not_set_up}
use Rattle.session_laws.proofs.Requests.Settle.{seen, trace_of_acts}
use Rattle.conn_laws.proofs.Ties.States.{IsFit}
use Rattle.session_laws.proofs.Ties.States.{Between, HasEffect}
use Rattle.conn_laws.proofs.Links.Telling.{heard_readied, told_leaves}
use Rattle.session_laws.proofs.Links.Telling.{IsTelling, telling, told_holds}
use Rattle.conn_laws.proofs.Links.Server.{IsGreeting, IsSetUp, IsSettingUp, IsSetupDue, IsSetupSent, IsWatchDue, IsWatchSent, IsWatching, TiedCreds, TiedSetup, greeting_at, watch_queued, hearing_there, on_link}
use Rattle.conn_laws.proofs.Ties.Tied.{AreQueued, TiedLife, TiedLines, TiedWaits, greeter, has_ended, link_in, owner_of}
use Rattle.session_laws.proofs.Ties.Tied.{inner, HasCourse}
use Rattle.conn_laws.proofs.Links.Told.{retells, well_told}
use Rattle.conn_laws.proofs.Internal.Serving.{unready_serves}
use Rattle.session_laws.proofs.Internal.Held.{held_hears}
use Rattle.conn_laws.proofs.Links.ReadSetup.{IsWhich, behind_all, failed_down, failed_stays, fit_by, setup_greets, well_ready, which_is}

-- tests
--
-- one that doesn't count
or_none : (a b : Bool) → (a || (b && false)) ≡ a
or_none true b = refl
or_none false true = refl
or_none false false = refl

-- and one that does
or_some : (a b : Bool) → (a || (b && true)) ≡ (a || b)
or_some true b = refl
or_some false true = refl
or_some false false = refl

first_false : (a b : Bool) → (a || b) ≡ false → a ≡ false
first_false true b e = cc
first_false false b e = refl

-- bytes come on such a link
--
-- on which this came
setup_read_as : (before : List Action) (c : Core) (started : List ℕ) (word : ℕ) (kind : EventKind) (piece : List ℕ) (link : LinkState) (greeting : Greeting) → (let l = (book before).link c.single.link in Came l (bytes_came l piece)) → Between before c started → is_bad c kind ≡ false → IsNewsKind c.timers kind
    → news_of c.timers c.sources c.single.link kind ≡ came piece → c.single.connection.life ≡ SettingUp link greeting
    → HasEffect (before ++ turn_of c word kind ∷ []) (with_work (record { core = turned c kind; acts = [] }) (read_setup (record { conn = c.single.connection; acts = [] }) greeting (read_with (read_on link (link.rest ++ piece)) (deals c.single.connection.hears false link piece)))) started
setup_read_as before c started word kind piece link greeting g h good k is e = by_test (is_set_up after) _ set_so unset_so
  where
    b : Book
    b = book before

    conn : MultiplexedConnection
    conn = c.single.connection

    l : Ledger
    l = b.link c.single.link

    after : Ledger
    after = after_came l piece g

    d : Dealing
    d = deals conn.hears false link piece

    read : LinkState
    read = record (read_on link (link.rest ++ piece)) { row = d.row }

    info : RedisConnectionInfo
    info = conn.info

    w : Work
    w = record { conn = conn; acts = [] }

    front : List Action
    front = before ++ turn_of c word kind ∷ []

    name : ℕ → Owner
    name = λ p. greeter greeting

    s : IsSetting l b.created started link greeting
    s = setting_tied b (inner c started) link greeting e h.sound.tied

    which : IsWhich l link greeting
    which = which_is l link greeting s.said

    applied : Work → Type 0
    applied x = HasEffect front (with_work (record { core = turned c kind; acts = [] }) x) started

    -- what ends it, or doesn't
    finish : Work → Work
    finish x = broken_at (read.broken || (d.strange && is_ready x.conn.life)) x

    same : heard_by b c (came piece) ≡ after
    same = heard_is l c.turns piece s.up ∙ after_is l piece g

    given : lacks_credentials l ≡ false
    given = has_credentials l.creds s.has

    hears : l.hearing ≡ conn.hears
    hears = hearing_there conn.life conn.hears l.hearing (ap is_resting e) h.sound.tied.notices.hearing_is

    told_so : l.info ≡ info
    told_so = on_link conn.life (l.info ≡ info) (ap is_resting e) h.sound.tied.setup.info_is

    wanted_so : l.creds.wanted ≡ conn.renewal.wanted
    wanted_so = on_link conn.life (l.creds.wanted ≡ conn.renewal.wanted) (ap is_resting e) h.sound.tied.creds.wanted_is

    notices : PushesOf (hearing_in b.config) conn.hears l
    notices = notices_there b c started (ap is_resting e) h.sound.tied

    course : HasCourse l.last l.end c.links c.single.link c.shut c.manager conn.last conn.opened info c.single.connection.address (SettingUp link greeting)
    course = subst (HasCourse l.last l.end c.links c.single.link c.shut c.manager conn.last conn.opened info c.single.connection.address) e h.sound.tied.course

    tame : l.strange ≡ false
    tame = tame_between before c started h s.alive

    sents : SetUpsAre l
    sents i x less at = (h.sound.tied.setup.sent i x less at).1

    fit : IsFit conn.size conn.boundary link
    fit = h.fit.setup link greeting e

    sound : read.broken ≡ false → IsFit conn.size conn.boundary read
    sound f = record { sound = f; size_is = fit.size_is; bound_is = fit.bound_is; within = fit.within }

    early : IsEarly conn.life wait.Permit
    early = subst (λ (y : Life). IsEarly y wait.Permit) (sym e) (record { bare = refl; unready = refl; alive = refl; there = refl; other = λ one. cc })

    -- a link that isn't set up still
    --
    -- nothing is to be told of it
    quiet : IsReadUnset name conn.hears l link piece g → PushesOf (hearing_in b.config) conn.hears after
    quiet r = quiet_notices name conn.hears l link piece g (hearing_in b.config) conn.hears s.up r notices

    -- whether it can be read on
    unreadable : IsReadUnset name conn.hears l link piece g → (x : Bool) → read.broken ≡ x → is_unreadable after ≡ x
    unreadable r x t = unset_unreadable name conn.hears l link piece g r ∙ t

    -- its opening fails
    fails : IsReadUnset name conn.hears l link piece g → (x : RedisError) → is_set_up after ≡ false → ending after ≡ Some (by_opening x) → applied (opening_failed (record { conn = conn; acts = act.Close ∷ [] }) x)
    fails r x unready must =
        setup_failed before c started word kind (came piece) x h good k is (λ z. cc) (setting_unready b (inner c started) link greeting e h.sound.tied)
        (subst (λ (y : Ledger). Fails y info conn.renewal.wanted (hearing_in b.config) conn.hears x) (sym same) (record {
          alive = s.alive;
          unready = unready;
          must = must;
          info_is = told_so;
          wanted_is = wanted_so;
          sourced = has_sourced after s.has unready;
          sent = h.sound.tied.setup.sent;
          notices = quiet r;
        }))

    -- the link is set up still
    goes_on : IsReadUnset name conn.hears l link piece g → (next : LinkState) (now : Greeting) → IsGreeting after next now → TiedLink (λ p. greeter now) after next → IsFit conn.size conn.boundary next → read.broken ≡ false → applied (with_setup w next now)
    goes_on r next now said tied_next fits f =
        inl (quiet_applied before c started word kind (came piece) (SettingUp next now) h good k is
        (record {
          lived = subst (λ (y : Ledger). TiedLife y b.created (SettingUp next now)) (sym same) (s.asked, s.up, s.alive);
          course = (course.0, course.1, course.2, (asked_hear l c.turns (came piece)).last ∙ course.3);
          creds = subst (λ (y : Ledger). TiedCreds y.creds conn.renewal.wanted (SettingUp next now)) (sym same) (record { wanted_is = wanted_so; sought = (s.has, s.once) });
          renewal_is = none_hears l c.turns (came piece) conn.renewal (λ x. x) (early_renewal l conn.renewal conn.life (ap is_ready e) (ap has_ended e) h.sound.tied.renewal);
          repeat_is = held_hears b c started (came piece) h.sound.tied (ap is_resting e) (ap is_ready e) (ap has_ended e);
          said = subst (λ (y : Ledger). TiedSetup y info started (SettingUp next now)) (sym same) (record { info_is = told_so; sent = h.sound.tied.setup.sent; said = (s.none, said) });
          linked = λ z. subst (λ (y : Ledger). TiedLink (λ p. greeter now) y next) (sym same) tied_next;
          lines = subst (λ (x : Life). TiedLines b.story conn.requests (link_in x) conn.waiting conn.admitted [] started) e h.sound.tied.lines;
          told = λ z. subst (λ (x : Life). AreQueued b.story conn.requests c.single.link (link_in x)) e (h.sound.tied.told (ap has_ended e));
          waits = setting_waits b.story conn.requests conn.again link next greeting now conn.fresh conn.moved (subst (λ (x : Life). TiedWaits b.story conn.requests conn.again x conn.fresh conn.moved) e h.sound.tied.waits);
          rounds = rounds_down b.story c.single.connection.requests c.single.connection.fresh c.single.connection.fresh refl h.sound.tied.rounds;
          early = early_on conn.requests conn.again conn.again conn.life (SettingUp next now) (unready_serves conn.life conn.again (ap is_ready e)) (ap has_ended e) refl h.sound.tied.early;
          notices = subst (λ (y : Ledger). PushesOf (hearing_in b.config) conn.hears y) (sym same) (quiet r);
        })
        (ap ending same ∙ ending_setting after next now s.up said ∙ left_if (is_unreadable after) _ None (unreadable r false f))
        (setting_fit conn link next greeting now conn.fresh e h.fit fits)
        (hushed_there c kind (came piece) (SettingUp next now) is (λ z. cc) (ap is_resting e) (ap has_ended e) h.hushed))

    -- or its opening fails, where bytes came that begin no value
    stays : IsReadUnset name conn.hears l link piece g → (next : LinkState) (now : Greeting) → IsGreeting after next now → TiedLink (λ p. greeter now) after next → (read.broken ≡ false → IsFit conn.size conn.boundary next) → applied (finish (with_setup w next now))
    stays r next now said tied_next fits =
        let v = with_setup w next now in
        let x = greeting_error now next.row fault.Parse in
        subst (λ (q : Bool). applied (broken_at q v)) (sym (or_none read.broken d.strange))
        (chosen applied read.broken (failed_at v fault.Parse v.conn.life) v
        (λ t. fails r x (not_set_up after next now said).unset
        (ending_setting after next now s.up said ∙ taken_if (is_unreadable after) _ None (unreadable r true t) ∙ ap (λ (y : RedisError). Some (by_opening y)) (opening_error_is (λ p. greeter now) after next now fault.Parse said s.alive tied_next)))
        (λ f. goes_on r next now said tied_next (fits f) f))

    -- the greeting failed
    failed : IsReadUnset name conn.hears l link piece g → (x : RedisError) → is_set_up after ≡ false → setup_result after ≡ Some (result.Failed x) → applied (finish (opening_failed (acted w act.Close) x))
    failed r x unset is_so =
        let closed = acted w act.Close in
        let v = opening_failed closed x in
        let done : applied v = fails r x unset (ending_failed after x s.up is_so) in
        chosen applied (read.broken || (d.strange && is_ready v.conn.life)) (failed_at v fault.Parse v.conn.life) v
        (λ t. subst applied (sym (failed_stays closed x fault.Parse)) done)
        (λ f. done)

    -- a setup was answered, which sets no link up
    --
    -- it is sent once more without the user name
    again : IsReadUnset name conn.hears l link piece g → (y : IsSettingUp l link greeting) (q : IsSetupSent l link greeting) (x : Settled) → IsAnswered after greeting q.k x → setup_result after ≡ Some result.RepeatWithoutUser → judged_by (setup info (has_user greeting)) x.verdict ≡ result.RepeatWithoutUser
        → applied (finish (sets_up w read greet.WithoutUser))
    again r y q x a is_so judged_so =
        let first = repeats_first after greeting q.k x info a judged_so in
        let m = greeting_queued conn greet.WithoutUser in
        let count : setup_count l.starts ≡ 1 = a.count ∙ ap suc first in
        let last : result_of after 0 ≡ Some result.RepeatWithoutUser = sym (setup_last after 1 given y.says count) ∙ is_so in
        let row : read.row ≡ [] = full_row name l link piece g d.row d.out (sent_last l link greeting y q) r.of a.full in
        let due : IsSetupDue after (enqueued read m) greet.WithoutUser = record {
          due = subst (λ n. setup_after after n ≡ Some n) (sym count) (taken_if (repeats (result_of after 0)) (Some 1) None (ap repeats last));
          user = subst (λ n. greet.WithoutUser ≡ greeting_at n) (sym count) refl;
          queue = ap (λ (qs : List Queued). qs ++ m ∷ []) q.queue ∙ subst (λ n. m ∷ [] ≡ setup_queued (setup_steps after n) (setup_id greet.WithoutUser) ∷ []) (sym count) (ap (λ (i : RedisConnectionInfo). setup_queued (setup i false) (setup_id greet.WithoutUser) ∷ []) (sym told_so));
          row = row;
        } in
        let said : IsSettingUp after (enqueued read m) greet.WithoutUser = record { says = y.says; alone = y.alone; stage = inl due; awaited = subst (AllByRecursion (λ (x : Entry). x.awaited ≡ true)) (sym row) tt } in
        let some = h.sound.tied.numbers.settings.some in
        let renamed = named_tied name (λ p. owner.Setup) after read (subst (SameNames name (λ p. owner.Setup)) (sym row) tt) r.of.tied in
        stays r (enqueued read m) greet.WithoutUser said (enqueued_tied (λ p. owner.Setup) after read m renamed)
        (λ f. record { sound = f; size_is = fit.size_is; bound_is = fit.bound_is; within = (let one : length (read.queue ++ m ∷ []) ≡ 1 = ap (λ (qs : List Queued). length (qs ++ m ∷ [])) q.queue in omega (arith, some, one)) })

    -- its server is put into monitor mode
    watches_next : IsReadUnset name conn.hears l link piece g → (y : IsSettingUp l link greeting) (q : IsSetupSent l link greeting) (x : Settled) → IsAnswered after greeting q.k x → setup_result after ≡ Some result.Ready → is_watching l.hearing ≡ true → applied (finish (sets_up w read greet.Monitor))
    watches_next r y q x a is_so watches =
        let row : read.row ≡ [] = full_row name l link piece g d.row d.out (sent_last l link greeting y q) r.of a.full in
        let last = sent_last l link greeting y q in
        let due : IsWatchDue after (enqueued read watch_queued) = record {
          alone = y.alone;
          answered = λ j less. by_test (nat_lt j q.k) _
              (λ t. still_full l link piece g last j (lt_so j q.k t))
              (λ f. subst (λ n. is_full after n ≡ true) (let count = a.count in let no_less = not_lt_so j q.k f in let one : q.k ≡ j = omega (arith, less, count, no_less) in one) a.full);
          queue = ap (λ (qs : List Queued). qs ++ watch_queued ∷ []) q.queue;
          row = row;
        } in
        let said : IsWatching after (enqueued read watch_queued) = record {
          watches = watches;
          greeted = ap is_well is_so;
          none = λ t. absurd (not_both (says_nothing (setup_steps l 0)) y.says t);
          stage = inl due;
          awaited = subst (AllByRecursion (λ (x : Entry). x.awaited ≡ true)) (sym row) tt;
        } in
        let some = h.sound.tied.numbers.settings.some in
        let renamed = named_tied name (λ p. owner.Monitor) after read (subst (SameNames name (λ p. owner.Monitor)) (sym row) tt) r.of.tied in
        stays r (enqueued read watch_queued) greet.Monitor said (enqueued_tied (λ p. owner.Monitor) after read watch_queued renamed)
        (λ f. record { sound = f; size_is = fit.size_is; bound_is = fit.bound_is; within = (let one : length (read.queue ++ watch_queued ∷ []) ≡ 1 = ap (λ (qs : List Queued). length (qs ++ watch_queued ∷ [])) q.queue in omega (arith, some, one)) })
      where
        lt_so : (x y : ℕ) → nat_lt x y ≡ true → x < y
        lt_so x y t = lt_from x y t

        not_lt_so : (x y : ℕ) → nat_lt x y ≡ false → y ≤ x
        not_lt_so x y f = not_lt_from x y f

    -- by what it comes to
    by_result : IsReadUnset name conn.hears l link piece g → is_set_up after ≡ false → greeter greeting ≡ owner.Setup → (y : IsSettingUp l link greeting) (q : IsSetupSent l link greeting) (x : Settled) → IsAnswered after greeting q.k x → (r : SetupResult) → judged_by (setup info (has_user greeting)) x.verdict ≡ r → setup_result after ≡ Some r
        → applied (finish (heard_on (set_up_by w read greeting r) (behind_first d.notices)))
    by_result r unset own y q x a result.Ready j is_so =
        let watches : is_watching l.hearing ≡ true = by_test (is_watching l.hearing) _ (λ t. t)
        (λ f. absurd (not_both (is_set_up after) unset (λ i. ap is_well is_so i && unwatched after f i))) in
        let next = sets_up w read greet.Monitor in
        let goes : greeted_by w read greeting ≡ next = setup_greets w read greeting own ∙ taken_if (is_watching conn.hears) next (made_ready w read) (ap is_watching (sym hears) ∙ watches) in
        subst (λ (z : Work). applied (finish (heard_on z (behind_first d.notices)))) (sym goes) (watches_next r y q x a is_so watches)
    by_result r unset own y q x a result.RepeatWithoutUser j is_so = again r y q x a is_so j
    by_result r unset own y q x a (result.Failed z) j is_so =
        let closed = acted w act.Close in
        let v = opening_failed closed z in
        subst (λ (z : Work). applied (finish z)) (sym (left_if (is_ready v.conn.life) (noticed_each v (behind_first d.notices)) v (failed_down closed z))) (failed r z unset is_so)
    by_result r unset own y q x a result.NoMemory j is_so =
        let replies = cut after q.k (setup_shape (setup_steps after q.k)) in
        absurd (judged_memory (setup info (has_user greeting)) replies (ap (judged_by (setup info (has_user greeting))) (sym a.verdict_is) ∙ j))

    -- what is done, by what was settled
    then_done : List Settled → Work
    then_done out = finish (answered_setup w read greeting d.notices out)

    -- nothing was settled
    still : IsReadUnset name conn.hears l link piece g → IsGreeting after read greeting → applied (then_done [])
    still r said = stays r read greeting said r.of.tied sound

    -- the greeting is to start still
    waits : IsReadUnset name conn.hears l link piece g → link.row ≡ [] → applied (then_done d.out)
    waits r row =
        let none = all_done conn.hears false (dealing_with link.row) (values (link.rest ++ piece)) row in
        let said = greeting_link after link read greeting refl (none.0 ∙ sym row) (greeting_alike l after link greeting (due_same name l link piece g s.alive row s.tied) s.said) in
        subst (λ (out : List Settled). applied (then_done out)) (sym none.1) (still r said)

    -- a setup was sent
    setup_out : IsReadUnset name conn.hears l link piece g → is_set_up after ≡ false → greeter greeting ≡ owner.Setup → (y : IsSettingUp l link greeting) (q : IsSetupSent l link greeting) → (out : List Settled) → d.out ≡ out → applied (then_done out)
    setup_out r unset own y q [] none =
        let last = sent_last l link greeting y q in
        still r (greeting_of after read greeting own (record {
          says = y.says;
          alone = y.alone;
          stage = inr (record { k = q.k; few = q.few; count = q.count; user = q.user; queue = q.queue; earlier = still_full l link piece g last; open_is = open_still name conn.hears l link piece g last s.alive r.of s.tied none });
          awaited = still_awaited conn.hears link piece y.awaited;
        }))
    setup_out r unset own y q (x ∷ xs) some =
        let last = sent_last l link greeting y q in
        let a = reads_answered l link greeting piece g x h.sound.tied.setup.sent q (settled_last name l link piece g d.row x xs d.out last r.of some) in
        by_result r unset own y q x a (judged_by (steps_of conn greeting) x.verdict) refl (answered_result after greeting q.k x info given told_so y.says a)

    -- MONITOR was
    watch_out : IsReadUnset name conn.hears l link piece g → is_set_up after ≡ false → greeting ≡ greet.Monitor → (y : IsWatching l link) (q : IsWatchSent l link) → (out : List Settled) → d.out ≡ out → applied (then_done out)
    watch_out r unset own y q [] none =
        let last = watch_last l link y q in
        still r (subst (IsGreeting after read) (sym own) (record {
          watches = y.watches;
          greeted = greeted_more l g.rest g.more sents y.greeted;
          none = y.none;
          stage = inr (record { k = q.k; sent = q.sent; long = q.long; shaped = q.shaped; queue = q.queue; earlier = still_full l link piece g last; open_is = open_still name conn.hears l link piece g last s.alive r.of s.tied none });
          awaited = still_awaited conn.hears link piece y.awaited;
        }))
    watch_out r unset own y q (x ∷ xs) some =
        let last = watch_last l link y q in
        let a = settled_last name l link piece g d.row x xs d.out last r.of some in
        absurd (not_both (is_set_up after) unset (λ i. greeted_more l g.rest g.more sents y.greeted i && (not (y.watches i) || (ap (is_answered after) q.sent ∙ a.full) i)))

    -- it isn't set up behind these bytes
    unset_so : is_set_up after ≡ false → applied (then_done d.out)
    unset_so unset =
        let of_few : length link.row ≤ 1 → IsReadUnset name conn.hears l link piece g = λ few. unset_of name conn.hears l link piece g tame s.alive few sents unset s.tied in
        let bare : link.row ≡ [] → length link.row ≤ 1 = λ none. (let z : length link.row ≡ 0 = ap length none in omega (arith, z)) in
        elim which [
          | inl y ↦ elim y.1.stage [
            | inl due ↦ waits (of_few (bare due.row)) due.row
            | inr q ↦ setup_out (of_few (few_rows name l link s.alive (sent_last l link greeting y.1 q) s.tied)) unset y.0 y.1 q d.out refl
          ]
          | inr y ↦ elim y.1.stage [
            | inl due ↦ waits (of_few (bare due.row)) due.row
            | inr q ↦ watch_out (of_few (few_rows name l link s.alive (watch_last l link y.1 q) s.tied)) unset y.0 y.1 q d.out refl
          ]
        ]

    -- a link that is set up by these bytes
    --
    -- its connection then
    ready_conn : MultiplexedConnection
    ready_conn = made_of w.conn read

    -- what is shown then
    now_ready : Work
    now_ready = record { conn = ready_conn; acts = (made_ready w read).acts }

    -- and what its ledger comes to
    later : Ledger
    later = readied conn.renewal.wanted after

    -- the link is ready, what came behind its greeting is told, and it ends where what came can't be read on
    ready_told : (r : IsReadSet name conn.hears l link piece g) → IsSetUp after → link.queue ≡ [] → read.row ≡ [] → (ps : List NoticeAt) (untold : List Heard) → (hears_something conn.hears ≡ true → untold ≡ r.taken.heard)
        → ((owes : ℕ → Option Outcome) → IsTelling front (turned c kind) later owes (name_at conn.requests) (is_open_at conn.requests) now_ready untold [] started
        → IsTelling front (turned c kind) later owes (name_at conn.requests) (is_open_at conn.requests) (told_each now_ready 0 ps []) [] [] started)
        → applied (finish (told_each (made_ready w read) 0 ps []))
    ready_told r said queue row ps untold came_so tells =
        let v = now_ready in
        let u = told_each v 0 ps [] in
        let f = turned c kind in
        let awake = going_awake c kind (came piece) is (λ z. cc) (ap is_resting e) (ap has_ended e) h.hushed in
        let still = told_leaves v 0 ps [] in
        let owned = named_tied name (owner_of conn.requests) after read (subst (SameNames name (owner_of conn.requests)) (sym row) tt) r.of.tied in
        let made : IsMade after b.created conn.requests read = record { asked = s.asked; up = s.up; alive = s.alive; said = said; tied = owned; queue = queue; row = row } in
        let facts : IsReadied b c (heard_by b c (came piece)) info read untold = subst (λ (y : Ledger). IsReadied b c y info read untold) (sym same) (record {
          info_is = told_so;
          sent = h.sound.tied.setup.sent;
          wanted_is = wanted_so;
          has = s.has;
          made = made;
          notices = heard_notices l piece g (hearing_in b.config) conn.hears r.taken.heard untold s.up r.taken.notices came_so notices;
        }) in
        let readied_is = made_is w read in
        let shown = subst (λ (y : Work). IsShownReady front f y (readied conn.renewal.wanted (heard_by b c (came piece))) untold started) readied_is (makes_ready before c started word kind (came piece) info read untold h good k is (λ y. y) early facts) in
        let now = book (trace_of_acts front f v.acts) in
        let line = in_line now (record (seen f v.acts v.conn [] started) { untold = untold }) shown.holds.tied refl in
        let begins = subst (λ (y : Ledger). IsTelling front f y (owed now) (name_at v.conn.requests) (is_open_at v.conn.requests) v untold [] started) (shown.ledger ∙ ap (readied conn.renewal.wanted) same) (telling front f v untold [] started shown.holds line (λ up goes. refl)) in
        let done : IsTelling front f later (owed now) (name_at v.conn.requests) (is_open_at v.conn.requests) u [] [] started = tells (owed now) begins in
        let up : ending ((book (trace_of_acts front f u.acts)).link f.single.link) ≡ (if is_unreadable after then Some (by_fault (felt l.hearing fault.Parse)) else None) =
        ap ending done.ledger_is ∙ ends_where_set (retells later done.told later.parted) s.up (well_told later done.told later.parted ∙ well_readied conn.renewal.wanted after ∙ said.well) in
        let reads : (x : Bool) → (read.broken || (d.strange && is_ready u.conn.life)) ≡ x → is_unreadable after ≡ x = λ x t.
        (λ i. (ap is_spoiled r.of.tied.rest ∙ sym r.of.tied.broken) i || r.taken.strange i) ∙ sym (ap (λ (y : Life). read.broken || (d.strange && is_ready y)) still.life ∙ or_some read.broken d.strange) ∙ t in
        let why = felt u.conn.hears fault.Parse in
        subst (λ (y : Work). applied (finish (told_each y 0 ps []))) (sym readied_is)
        (chosen applied (read.broken || (d.strange && is_ready u.conn.life)) (failed_at u fault.Parse u.conn.life) u
        (λ t.
        inl (ended_applied front f (failed_at u fault.Parse u.conn.life) reason.Closed started (λ z. absurd (omega arith))
        (subst (λ (y : Life). (failed_at u fault.Parse y).conn.moved ≡ []) (sym still.life) (parted_moved u (row_hit why read.row ++ queue_closed read.queue) ∙ still.moved ∙ h.moved))
        (subst (λ (y : Life). HasEnded front f (failed_at u fault.Parse y) reason.Closed started) (sym still.life)
        (fault_ends front f u read why started done.holds still.life
        (up ∙ taken_if (is_unreadable after) (Some (by_fault (felt l.hearing fault.Parse))) None (reads true t) ∙ ap (λ (x : Hearing). Some (by_fault (felt x fault.Parse))) (hears ∙ sym still.hears))))))
        (λ t. inl (record {
          sound = done.holds;
          ended = none_ends (book (trace_of_acts front f u.acts)) (seen f u.acts u.conn [] started) done.holds.tied (up ∙ left_if (is_unreadable after) (Some (by_fault (felt l.hearing fault.Parse))) None (reads false t));
          began = λ z. absurd (omega arith);
          moved = still.moved ∙ h.moved;
          fit = fit_by u.conn conn.size conn.boundary read still.size still.boundary still.life (λ down. still.admitted ∙ h.fit.none (unready_serves conn.life conn.again (ap is_ready e))) (λ y is_it. (let one : read ≡ y = cc in subst (IsFit conn.size conn.boundary) one (sound (first_false read.broken _ t))));
          hushed = λ over. absurd (not_both f.shut awake over);
        })))

    -- so it does, whether somebody hears it or not
    ready : (r : IsReadSet name conn.hears l link piece g) → IsSetUp after → link.queue ≡ [] → read.row ≡ [] → applied (finish (told_each (made_ready w read) 0 (behind_first d.notices) []))
    ready r said queue row =
        let hs = r.taken.heard in
        let says : SayTheSame (behind_first d.notices) hs = subst (λ (ps : List NoticeAt). SayTheSame ps hs) (sym (behind_all d.notices (reads_behind conn.hears link piece))) r.taken.same in
        let each = all_heard after hs (heard_kinds d.notices hs r.taken.same (reads_tell conn.hears false link piece)) r.taken.within in
        by_test (hears_something conn.hears) _
        (λ t.
        ready_told r said queue row (behind_first d.notices) hs (λ y. refl)
        (λ owes k. told_holds front (turned c kind) later owes (name_at conn.requests) (is_open_at conn.requests) now_ready 0 (behind_first d.notices) hs [] started t refl says tt (heard_readied conn.renewal.wanted after hs each) tt k))
        (λ n.
        subst (λ (ps : List NoticeAt). applied (finish (told_each (made_ready w read) 0 (behind_first ps) []))) (sym (none_noticed conn.hears false link piece n))
        (ready_told r said queue row [] [] (λ y. absurd (not_both (hears_something conn.hears) n y)) (λ owes k. k)))

    -- by the greeting that sets it up
    by_ready : (r : IsReadSet name conn.hears l link piece g) → IsSetUp after → link.queue ≡ [] → read.row ≡ [] → (x : Settled) (xs : List Settled) → judged_by (steps_of conn greeting) x.verdict ≡ result.Ready → greeted_by w read greeting ≡ made_ready w read → applied (then_done (x ∷ xs))
    by_ready r said queue row x xs judged_so greets =
        let v = made_ready w read in
        let is_so : set_up_by w read greeting (judged_by (steps_of conn greeting) x.verdict) ≡ v = ap (set_up_by w read greeting) judged_so ∙ greets in
        subst (λ (z : Work). applied (finish (heard_on z (behind_first d.notices)))) (sym is_so)
        (subst (λ (z : Work). applied (finish z)) (sym (taken_if (is_ready v.conn.life) (noticed_each v (behind_first d.notices)) v (ap (λ (y : MultiplexedConnection). is_ready y.life) (made_conn w read))))
        (ready r said queue row))

    -- a setup
    setup_set : is_set_up after ≡ true → greeter greeting ≡ owner.Setup → (y : IsSettingUp l link greeting) (q : IsSetupSent l link greeting) → (out : List Settled) → d.out ≡ out → applied (then_done out)
    setup_set set own y q out some =
        let last = sent_last l link greeting y q in
        let plain = set_unwatched after y.alone set in
        let set_came : is_set_up (bytes_came l piece) ≡ true = ap is_set_up (after_is l piece g) ∙ set in
        let r = sets_of name conn.hears l link piece g last hears tame s.alive (setup_sets l (bytes_came l piece) q.k plain q.count y.says sents set_came) s.tied in
        let full = setup_full after q.k given y.says q.count set in
        let row = full_row name l link piece g d.row d.out last r.of full in
        let said : IsSetUp after = record { well = set; none = λ t. absurd (not_both (says_nothing (setup_steps l 0)) y.says t) } in
        by_settled r full row said out some
      where
        by_settled : IsReadSet name conn.hears l link piece g → is_full after q.k ≡ true → read.row ≡ [] → IsSetUp after → (out : List Settled) → d.out ≡ out → applied (then_done out)
        by_settled r full row said [] some = absurd (full_settled name conn.hears l link piece g (sent_last l link greeting y q) s.alive r.of s.tied full some)
        by_settled r full row said (x ∷ xs) some =
            let a = reads_answered l link greeting piece g x h.sound.tied.setup.sent q (settled_last name l link piece g d.row x xs d.out (sent_last l link greeting y q) r.of some) in
            let came_to = answered_result after greeting q.k x info given told_so y.says a in
            let judged_so = well_ready (judged_by (steps_of conn greeting) x.verdict) (sym (ap is_well came_to) ∙ set_is_greeted after set) in
            let plain = set_unwatched after y.alone set in
            by_ready r said q.queue row x xs judged_so (setup_greets w read greeting own ∙ left_if (is_watching conn.hears) (sets_up w read greet.Monitor) (made_ready w read) (ap is_watching (sym hears) ∙ plain))

    -- or MONITOR
    watch_set : is_set_up after ≡ true → greeting ≡ greet.Monitor → (y : IsWatching l link) (q : IsWatchSent l link) → (out : List Settled) → d.out ≡ out → applied (then_done out)
    watch_set set own y q out some =
        let last = watch_last l link y q in
        let r = sets_of name conn.hears l link piece g last hears tame s.alive (watch_sets l link (bytes_came l piece) sents y q) s.tied in
        let full = watch_full after q.k y.watches q.sent set in
        let row = full_row name l link piece g d.row d.out last r.of full in
        let said : IsSetUp after = record { well = set; none = y.none } in
        by_settled r full row said out some
      where
        by_settled : IsReadSet name conn.hears l link piece g → is_full after q.k ≡ true → read.row ≡ [] → IsSetUp after → (out : List Settled) → d.out ≡ out → applied (then_done out)
        by_settled r full row said [] some = absurd (full_settled name conn.hears l link piece g (watch_last l link y q) s.alive r.of s.tied full some)
        by_settled r full row said (x ∷ xs) some =
            let a = settled_last name l link piece g d.row x xs d.out (watch_last l link y q) r.of some in
            by_ready r said q.queue row x xs (watch_answered l link piece g x (steps_of conn greeting) q a) (ap (greeted_by w read) own)

    -- a greeting that is to start still sets no link up
    not_yet : is_set_up after ≡ true → link.row ≡ [] → ⊥
    not_yet set row = not_both (is_set_up after) (set_alike l after (due_same name l link piece g s.alive row s.tied) ∙ (not_set_up l link greeting s.said).unset) set

    set_so : is_set_up after ≡ true → applied (then_done d.out)
    set_so set = elim which [
      | inl y ↦ elim y.1.stage [ inl due ↦ absurd (not_yet set due.row) | inr q ↦ setup_set set y.0 y.1 q d.out refl ]
      | inr y ↦ elim y.1.stage [ inl due ↦ absurd (not_yet set due.row) | inr q ↦ watch_set set y.0 y.1 q d.out refl ]
    ]

-- the event has its effect
pub setup_read : (before : List Action) (c : Core) (started : List ℕ) (word : ℕ) (kind : EventKind) (piece : List ℕ) (link : LinkState) (greeting : Greeting) → Between before c started → is_bad c kind ≡ false → IsNewsKind c.timers kind → news_of c.timers c.sources c.single.link kind ≡ came piece
    → c.single.connection.life ≡ SettingUp link greeting
    → HasEffect (before ++ turn_of c word kind ∷ []) (with_work (record { core = turned c kind; acts = [] }) (read_setup (record { conn = c.single.connection; acts = [] }) greeting (read_with (read_on link (link.rest ++ piece)) (deals c.single.connection.hears false link piece)))) started
setup_read before c started word kind piece link greeting h good k is e = setup_read_as before c started word kind piece link greeting (bytes_are ((book before).link c.single.link) piece) h good k is e
