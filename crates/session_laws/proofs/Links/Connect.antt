-- The opening of the connection's link ends: its connect succeeds, is refused, or isn't answered in time.
use Rattle.std.proofs.Common.{inl, length, ◌==◌, ◌≡◌, ℕ, ◌+◌, Bool, true, false, ◌&&◌, not, List, [], ◌∷◌, ◌++◌, None, is_some, refl, sym, ap, ◌∙◌, subst, arith, if◌then◌else◌, ◌≢◌, ◌-◌, Some, ◌||◌, Option, inr}
use Rattle.std.proofs.lemmas.List.{append-nil}
use Rattle.containers.proofs.Choices.{chosen, taken_if, left_if, by_test, not_both}
use Rattle.redis_error.specs.declared.fault_kind.FaultKind.{FaultKind}
use Rattle.redis_error.specs.declared.fault_kind.FaultKind.TheVariants as kinds
use Rattle.redis_error.specs.declared.redis_error.RedisError.TheVariants as error
use Rattle.driver_model.specs.declared.action.Action.{Action}
use Rattle.driver_model.specs.declared.action.Action.TheVariants as action
use Rattle.driver_model.specs.declared.action.SourceUse.TheVariants as source
use Rattle.driver_model.specs.declared.action.WaitKind.TheVariants as wait
use Rattle.driver_model.specs.declared.event.EventKind.{EventKind}
use Rattle.driver_model.specs.News.{connected, news_of, News, refused, overdue, dropped, shut}
use Rattle.link_core.specs.Link.{LinkState}
use Rattle.link_laws.proofs.TiedLink.{TiedLink, connected_tied, named_tied, sourced_tied}
use Rattle.link_laws.specs.Settles.{wanted, awaited_ids}
use Rattle.mux_conn.specs.declared.life.Life.{Life}
use Rattle.mux_conn.specs.declared.life.Life.TheVariants.{Resting, Dialing, Wanting, SettingUp, Ready, Ended}
use Rattle.mux_conn.specs.Effects.{come_up, comes_to_want, new_link, numbers_of, connected_at, refused_at, overdue_at, dropped_at, dropped_by, afresh, given_up, opening_failed}
use Rattle.mux_conn.specs.Connection.{Work, is_ready, is_resting}
use Rattle.mux_conn.specs.declared.act.LinkAct.TheVariants as act
use Rattle.single_session.specs.declared.core_state.Core.{Core}
use Rattle.single_session.specs.Turn.{with_work, is_bad}
use Rattle.legal_trace.specs.Owed.{owed_by}
use Rattle.legal_trace.specs.Ledger.{Ledger, lacks_credentials, noted, noted_each, ending, ending_alive, is_over, by_opening, ends, refused_in, failure_in, failure_of, source_due, sources, is_set_up, ending_asked, lasting, renewal_count}
use Rattle.legal_trace.specs.Book.{Book, blank_book, book, entered, if_mine, use_for, hearing_in}
use Rattle.legal_trace.specs.Legal.{AllStand, MayNeed, is_attempt, is_by_attempt}
use Rattle.conn_laws.proofs.Requests.Rounded.{rounds_down, early_on}
use Rattle.conn_laws.proofs.Ties.Aside.{unfailed, not_up_ends}
use Rattle.conn_laws.proofs.Links.Server.{AreSought, HasSaid, on_link, hearing_there}
use Rattle.conn_laws.proofs.Ties.Tied.{shown_creation, AreQueued, no_link, link_in, carried, whole_link, owner_of, TiedLife, TiedLines, has_ended, AreUses, IsOver}
use Rattle.session_laws.proofs.Ties.Tied.{inner, Tied}
use Rattle.conn_laws.proofs.Links.Creds.{down_sourced}
use Rattle.conn_laws.proofs.Links.Said.{ending_wanting, ready_heard, setting_heard, setup_hears, dropped_end, PushesOf, pushes_there, renoticed}
use Rattle.conn_laws.proofs.Links.Failing.{IsUnready}
use Rattle.session_laws.proofs.Links.Failing.{IsFailing, failing_applied, unready_shown, unstarted_owed}
use Rattle.conn_laws.proofs.Ties.States.{IsFit}
use Rattle.session_laws.proofs.Ties.States.{Between, HasApplied, HasEffect, HasRetired}
use Rattle.session_laws.proofs.Ties.Entered.{all_stand-append, book_more, sound_more, shown_more}
use Rattle.session_laws.proofs.Requests.Settle.{seen, trace_of_acts, book_of_more}
use Rattle.conn_laws.proofs.Turn.Announce.{heard_starts, timed_hear, heard_hearing, asked_hear, uses_hear}
use Rattle.session_laws.proofs.Turn.Announce.{IsNewsKind, comes_as, heard_book, heard_is, heard_tied, heard_tied_by, may_turn, others_heard, turn_of, turned, uses_asked, uses_more}
use Rattle.conn_laws.proofs.Turn.Heard.{none_hears}
use Rattle.session_laws.proofs.Turn.Heard.{heard_by, book_kind, book_news, lives_as, none_ends, leads_still, quiet_applied, ended_quiet, pushes_still, still_none, hushed_there, hushed_news, resting_quiet, tame_between}
use Rattle.conn_laws.proofs.Links.End.{IsPlain, plain_is}
use Rattle.session_laws.proofs.Links.End.{up_tied, setting_tied, setting_overdue, wanting_tied, wanting_overdue, plain_begins, dropped_up, notices_there}
use Rattle.session_laws.proofs.Ties.Kept.{mine_noted, others_kept, replaced}
use Rattle.conn_laws.proofs.Links.Close.{ended_waits, ends_so}
use Rattle.session_laws.proofs.Links.Close.{may_close, close_tied}
use Rattle.conn_laws.proofs.Links.ComeUp.{IsUpNow}
use Rattle.session_laws.proofs.Links.ComeUp.{comes_up, fresh_waits}
use Rattle.conn_laws.proofs.Internal.Renewals.{renewal_ended, early_renewal}
use Rattle.conn_laws.proofs.Ties.Numbers.{requests_in}
use Rattle.conn_laws.proofs.Links.SetUp.{lacking_unset}
use Rattle.driver_model.specs.Hearing.{hears_messages}
use Rattle.redis_error.specs.declared.redis_error.RedisError.{RedisError}
use Rattle.conn_laws.proofs.Managers.Comes.{resting_down}
use Rattle.session_laws.proofs.Managers.Comes.{tied_live, tied_unopened}
use Rattle.session_laws.proofs.Links.Retire.{IsAttempted, retires, closed_retires}
use Rattle.conn_laws.proofs.Ties.Owes.{get_behind}
use Rattle.conn_laws.proofs.Internal.Serving.{unready_serves}
use Rattle.conn_laws.proofs.Internal.Held.{failed_served}
use Rattle.session_laws.proofs.Internal.Held.{held_hears}
use Rattle.conn_laws.proofs.Internal.Repeats.{held_alike}
use Rattle.conn_laws.proofs.Links.Connect.{again_is, connects, early_dialing, refused_is, resized, up_refused}

-- news of no account
--
-- that leave what is told of a link, and end nothing, and aren't the shutdown
pub passed_over : (before : List Action) (c : Core) (started : List ℕ) (word : ℕ) (kind : EventKind) (n : News) → Between before c started → is_bad c kind ≡ false → IsNewsKind c.timers kind → news_of c.timers c.sources c.single.link kind ≡ n
    → n ≢ shut → (let l = (book before).link c.single.link in heard_by (book before) c n ≡ record l { heard = n } → ending (record l { heard = n }) ≡ None
    → HasApplied (before ++ turn_of c word kind ∷ []) (with_work (record { core = turned c kind; acts = [] }) (record { conn = c.single.connection; acts = [] })) started)
passed_over before c started word kind n h good k is other stays none =
    quiet_applied before c started word kind n c.single.connection.life h good k is (leads_still before c started n h stays) (ap ending stays ∙ none) h.fit (hushed_news c kind n is other h.hushed)

-- a new link
--
-- it is up then
up_now : (before : List Action) (c : Core) (started : List ℕ) → Between before c started → c.single.connection.life ≡ Dialing
    → IsUpNow (heard_by (book before) c connected) (book before).created c.single.connection c.single.connection.info started (new_link c.single.connection)
up_now before c started h e =
    let b = book before in
    let conn = c.single.connection in
    let l0 = b.link c.single.link in
    let t = h.sound.tied in
    let lived = subst (λ (x : Life). TiedLife l0 b.created x) e t.life in
    let said = subst (λ (x : Life). HasSaid l0 started x) e t.setup.said in
    let is = connects l0 c.turns (ap is_some lived.2) in
    let told = setup_hears l0 c.turns connected conn.info started conn.life tt t.setup in
    let was = subst (λ (x : Life). TiedLink (carried x conn.requests) l0 (whole_link x)) e (t.link (ap has_ended e)) in
    record {
      asked = ap (λ (x : Ledger). x.asked) is ∙ lived.0;
      up = ap (λ (x : Ledger). x.up) is;
      alive = ap (λ (x : Ledger). x.end) is ∙ lived.2;
      info_is = on_link conn.life _ (ap is_resting e) told.info_is;
      wanted_is = ap (λ (x : Ledger). x.creds.wanted) is ∙ on_link conn.life (l0.creds.wanted ≡ conn.renewal.wanted) (ap is_resting e) t.creds.wanted_is;
      sent = told.sent;
      starts = heard_starts l0 c.turns connected ∙ said.0;
      none = said.1;
      tied = λ name. resized name (heard_by b c connected) 0 0 conn.size conn.boundary (connected_tied name l0 no_link c.turns (named_tied (owner_of conn.requests) name l0 no_link tt was));
      queue = refl;
      row = refl;
      fit = record { sound = refl; size_is = refl; bound_is = refl; within = omega arith };
    }

-- no credentials of a source are wanted: it comes up
connected_up : (before : List Action) (c : Core) (started : List ℕ) (word : ℕ) (kind : EventKind) → Between before c started → is_bad c kind ≡ false → IsNewsKind c.timers kind → news_of c.timers c.sources c.single.link kind ≡ connected → c.single.connection.life ≡ Dialing
    → c.single.connection.renewal.wanted ≡ false
    → HasApplied (before ++ turn_of c word kind ∷ []) (with_work (record { core = turned c kind; acts = [] }) (come_up (record { conn = c.single.connection; acts = [] }) (new_link c.single.connection))) started
connected_up before c started word kind h good k is e unwanted =
    let u = up_now before c started h e in
    comes_up before c started word kind connected c.single.connection.info (new_link c.single.connection) h good k is (λ x. x) (λ z. cc) (early_dialing c.single.connection.life wait.Permit e (λ same. cc)) (early_dialing c.single.connection.life wait.Setup e (λ same. cc)) u
    (inl (u.wanted_is ∙ unwanted)) (pushes_there c.single.connection.life Dialing (hearing_in (book before).config) c.single.connection.hears (heard_by (book before) c connected) e (pushes_still before c started connected h (inl tt))) (λ more. refl, refl)

-- or a source is asked for them
connected_wants : (before : List Action) (c : Core) (started : List ℕ) (word : ℕ) (kind : EventKind) → Between before c started → is_bad c kind ≡ false → IsNewsKind c.timers kind → news_of c.timers c.sources c.single.link kind ≡ connected → c.single.connection.life ≡ Dialing
    → c.single.connection.renewal.wanted ≡ true
    → HasApplied (before ++ turn_of c word kind ∷ []) (with_work (record { core = turned c kind; acts = [] }) (comes_to_want (record { conn = c.single.connection; acts = [] }) (new_link c.single.connection))) started
connected_wants before c started word kind h good k is e wants =
    let b = book before in
    let h0 = h.sound.tied in
    let conn = c.single.connection in
    let mine = c.single.link in
    let l0 = b.link mine in
    let l = heard_by b c connected in
    let u = up_now before c started h e in
    let link = new_link conn in
    let life = Wanting link in
    let ns = numbers_of conn.waiting in
    let f = turned c kind in
    let front = before ++ turn_of c word kind ∷ [] in
    let now = heard_book b c.turns word kind in
    let shown = action.NeedCreds (length c.sources) mine in
    let early = early_dialing conn.life wait.Creds e (λ same. cc) in
    let nobody = h.fit.none (unready_serves conn.life conn.again (ap is_ready e)) in
    let live = tied_live b (inner c started) h0 early.there early.alive in
    let same = connects l0 c.turns (ap is_some (subst (λ (x : Life). TiedLife l0 b.created x) e h0.life).2) in
    let sought = subst (λ (x : Life). AreSought l0.creds x) e h0.creds.sought in
    let wanted_is : l.creds.wanted ≡ true = u.wanted_is ∙ wants in
    let unasked : l.creds.asked ≡ false = ap (λ (x : Ledger). x.creds.asked) same ∙ sought.0 in
    let ungiven : l.creds.given ≡ false = ap (λ (x : Ledger). x.creds.given) same ∙ sought.1 in
    let lacks : lacks_credentials l ≡ true = (λ i. wanted_is i && not (ungiven i)) in
    let own : now.link mine ≡ l = ap (heard_by b c) (book_news b c started kind connected h0 is) in
    let others = others_heard b c started kind b.created h0 good (λ some. some) in
    let links : ℕ → Ledger = λ m. noted_each (now.link m) (if_mine (mine == m) sources) in
    let after = noted l sources in
    let asked : links mine ≡ after = mine_noted (now.link mine) mine sources ∙ ap (λ (y : Ledger). noted y sources) own in
    let what = use_for now mine in
    let next = source.Setup mine in
    let uses = c.sources ++ next ∷ [] in
    let what_is : what ≡ next =
    ap (λ (x : Ledger). if x.creds.asked then source.Renewal mine else source.Setup mine) own ∙ left_if l.creds.asked (source.Renewal mine) (source.Setup mine) unasked in
    let used : AreUses uses mine true l.creds.asked = uses_more c.sources mine true l.creds.asked next (omega arith, λ same. refl) (uses_asked c.sources mine l0.creds.asked l0.creds.renews l.creds.asked sought.2 h0.uses) in
    let none = none_hears l0 c.turns connected conn.renewal (λ x. x) (early_renewal l0 conn.renewal conn.life early.unready early.alive h0.renewal) in
    let t = record (seen f [] (comes_as c conn.info life ns) [] started) { sources = uses } in
    let tied : Tied (entered now shown) t = replaced (record now { link = links; sources = b.sources ++ what ∷ [] }) t (entered now shown).placed (entered now shown).since
    (heard_tied_by b c started word b.created b.failed conn.told conn.opened kind conn.info life ns [] [] links after (b.sources ++ what ∷ []) uses h0 h0.creation (λ some. some)
    (others_kept now mine sources others) asked (λ i. h0.numbers.sources i ++ what_is i ∷ []) used
    (record {
      starts = heard_starts l0 c.turns connected;
      hearing_kept = heard_hearing l0 c.turns connected;
      spoken = refl;
      lived = (u.asked, u.up, u.alive);
      course = (live.links, live.begun, tied_unopened b (inner c started) h0 early.unready early.alive, (asked_hear l0 c.turns connected).last ∙ live.lasts);
      creds = record { wanted_is = u.wanted_is; sought = (wanted_is, refl, ungiven, unasked) };
      renewal_is = record { over_is = none.over_is; came = none.came; waits = none.waits; untimed = none.untimed; unstarted = none.unstarted; unasked = none.unasked; unpending = none.unpending; told = none.told; kept = none.kept; found = none.found };
      repeat_is = held_alike l after b.tracked conn.renewal.within conn.again refl refl (held_hears b c started connected h0 early.there early.unready early.alive);
      said = record { info_is = u.info_is; sent = u.sent; said = (u.starts, u.none, refl, refl) };
      linked = λ z. sourced_tied _ l link (u.tied _);
      lines = subst (λ (x : LinkState). TiedLines b.story conn.requests x conn.waiting conn.admitted [] started) early.bare h0.lines;
      told = λ z. subst (λ (x : LinkState). AreQueued b.story conn.requests c.single.link x) early.bare (h0.told early.alive);
      waits = fresh_waits b (inner c started) conn.life life h0 refl nobody h.fresh refl early.bare early.unready early.alive early.other refl refl;
      rounds = rounds_down b.story conn.requests conn.fresh ns refl h0.rounds;
      early = early_on conn.requests conn.again conn.again conn.life life (unready_serves conn.life conn.again early.unready) early.alive refl h0.early;
      notices = pushes_there conn.life Dialing (hearing_in b.config) conn.hears l e (pushes_still before c started connected h (inl tt));
    })) in
    let may : MayNeed now (length c.sources) mine = record {
      due = ap source_due own ∙ (λ i. u.up i && wanted_is i && (not (unasked i) || (is_set_up l && not l.creds.renews)));
      next = ap length (sym h0.numbers.sources);
      in_order = λ m less. down_sourced (now.link m) (others m (λ one. omega arith)).down;
      answered = unstarted_owed b now c started h0 u.none (λ m. refl) (ap (λ (y : Ledger). y.asked) own ∙ u.asked) (ap (λ (y : Ledger). y.end) own ∙ u.alive);
      created = unready_shown now mine l own (λ m other. (others m other).down) (lacking_unset l lacks).unset;
    } in
    let book_is : book front ≡ now = book_more before (turn_of c word kind) ∙ heard_is b c.turns word kind (book_kind b c kind h0.numbers.timers k) in
    let all : AllStand blank_book front = all_stand-append before (turn_of c word kind ∷ []) h.sound.stands (may_turn before c started word kind h good, tt) in
    let sound = sound_more front shown t all (subst (λ (x : Book). MayNeed x (length c.sources) mine) (sym book_is) may) (subst (λ (x : Book). Tied (entered x shown) t) (sym book_is) tied) in
    let ledger = ap (λ (x : Book). x.link mine) (book_more front shown ∙ ap (λ (x : Book). entered x shown) book_is) ∙ asked in
    record {
      sound = sound;
      ended = none_ends (book (front ++ shown ∷ [])) t sound.tied (ap ending ledger ∙ ending_wanting after u.up lacks);
      began = λ z. absurd (omega arith);
      moved = h.moved;
      fit = record {
        wanting = λ x one. (let here : link ≡ x = cc in subst (IsFit conn.size conn.boundary) here u.fit);
        setup = λ x w one. cc;
        link = λ x one. cc;
        none = λ z. nobody;
      };
      hushed = hushed_there c kind connected life is (λ z. cc) early.there early.alive h.hushed;
    }

-- the connect is answered, once or again
pub connected_applied : (before : List Action) (c : Core) (started : List ℕ) (word : ℕ) (kind : EventKind) → Between before c started → is_bad c kind ≡ false → IsNewsKind c.timers kind → news_of c.timers c.sources c.single.link kind ≡ connected
    → HasApplied (before ++ turn_of c word kind ∷ []) (with_work (record { core = turned c kind; acts = [] }) (connected_at (record { conn = c.single.connection; acts = [] }) c.single.connection.life)) started
connected_applied before c started word kind h good k is = by_life c.single.connection.life refl
  where
    l : Ledger
    l = (book before).link c.single.link

    again : l.up ≡ true → l.end ≡ None → ending (record l { heard = connected }) ≡ None
        → HasApplied (before ++ turn_of c word kind ∷ []) (with_work (record { core = turned c kind; acts = [] }) (record { conn = c.single.connection; acts = [] })) started
    again up alive none = passed_over before c started word kind connected h good k is (λ z. cc) (again_is l c.turns up alive) none

    by_life : (x : Life) → c.single.connection.life ≡ x → HasApplied (before ++ turn_of c word kind ∷ []) (with_work (record { core = turned c kind; acts = [] }) (connected_at (record { conn = c.single.connection; acts = [] }) x)) started
    by_life Resting e = resting_quiet before c started word kind connected (λ z. cc) h good k is e
    by_life Dialing e =
        let w : Work = record { conn = c.single.connection; acts = [] } in
        let link = new_link c.single.connection in
        chosen (λ (x : Work). HasApplied (before ++ turn_of c word kind ∷ []) (with_work (record { core = turned c kind; acts = [] }) x) started) c.single.connection.renewal.wanted (comes_to_want w link) (come_up w link)
        (λ t. connected_wants before c started word kind h good k is e t)
        (λ f. connected_up before c started word kind h good k is e f)
    by_life (Wanting link) e =
        let s = wanting_tied (book before) (inner c started) link e h.sound.tied in
        again s.up s.alive (ending_wanting (record l { heard = connected }) s.up s.lacks)
    by_life (SettingUp link greeting) e =
        let s = setting_tied (book before) (inner c started) link greeting e h.sound.tied in
        again s.up s.alive (setting_heard l connected link greeting s.up s.said)
    by_life (Ready link) e =
        let u = up_tied (book before) (inner c started) link e h.sound.tied in
        again u.up u.alive (ready_heard l connected u.up u.well)
    by_life (Ended x) e = ended_quiet before c started word kind connected x h good k is e

-- a connect that is refused
--
-- the opening has failed
refused_fails : (before : List Action) (c : Core) (started : List ℕ) (word : ℕ) (kind : EventKind) (f : FaultKind) → Between before c started → is_bad c kind ≡ false → IsNewsKind c.timers kind → news_of c.timers c.sources c.single.link kind ≡ refused f → c.single.connection.life ≡ Dialing
    → c.single.connection.last ≡ true → IsFailing (before ++ turn_of c word kind ∷ []) (turned c kind) [] c.single.connection (error.Io f) started
refused_fails before c started word kind f h good k is e last =
    let b = book before in
    let h0 = h.sound.tied in
    let conn = c.single.connection in
    let l0 = b.link c.single.link in
    let l = heard_by b c (refused f) in
    let now = heard_book b c.turns word kind in
    let front = before ++ turn_of c word kind ∷ [] in
    let life = Ended (error.Io f) in
    let t = record (seen (turned c kind) [] (lives_as c life) [] started) { told = true } in
    let lived = subst (λ (x : Life). TiedLife l0 b.created x) e h0.life in
    let over : l ≡ record (refused_in l0 c.turns (error.Io f)) { heard = refused f } = refused_is l0 c.turns b.created f lived in
    let own_ledger : now.link c.single.link ≡ l = ap (heard_by b c) (book_news b c started kind (refused f) h0 is) in
    let said = setup_hears l0 c.turns (refused f) conn.info started conn.life tt h0.setup in
    let live = tied_live b (inner c started) h0 (ap is_resting e) (ap has_ended e) in
    let lasts : l0.last ≡ true = live.lasts ∙ last in
    let failure : failure_in l.end ≡ Some (error.Io f) = ap (λ (x : Ledger). failure_in x.end) over ∙ ap (λ y. failure_of (lasting y (by_opening (error.Io f)))) lasts in
    let tied : (created : ℕ) (halted : Bool) → created ≢ 0 → Tied (record now { created = created; failed = halted }) t = λ created halted some. heard_tied b c started word created halted true conn.opened kind conn.info life conn.fresh [] [] l h0 (record { before = λ z. cc; after = λ z. some }) good (λ z. some) own_ledger
    (record {
      starts = heard_starts l0 c.turns (refused f);
      hearing_kept = heard_hearing l0 c.turns (refused f);
      spoken = refl;
      lived = subst (λ (x : Ledger). TiedLife x created life) (sym over) (lived.1, ap (λ y. owed_by (lasting y (by_opening (error.Io f)))) lasts, λ x fails. some, lived.0);
      course = (
        live.links,
        live.begun,
        record {
          failed = λ new awake none. (let no : ◌≡◌ {A = Option RedisError} None (Some (error.Io f)) = sym none ∙ failure in cc);
          unfailed = λ was. absurd (not_both conn.opened (tied_unopened b (inner c started) h0 (ap is_ready e) (ap has_ended e)) was);
        },
      );
      creds = record { wanted_is = ap (λ (x : Ledger). x.creds.wanted) over ∙ on_link conn.life (l0.creds.wanted ≡ conn.renewal.wanted) (ap is_resting e) h0.creds.wanted_is; sought = tt };
      renewal_is = renewal_ended l0 l conn.renewal conn.life (timed_hear l0 c.turns (refused f)) (heard_starts l0 c.turns (refused f)) h0.renewal;
      repeat_is = failed_served l.end conn.again (error.Io f) failure;
      said = record { info_is = on_link conn.life (l.info ≡ conn.info) (ap is_resting e) said.info_is; sent = said.sent; said = tt };
      linked = λ n. cc;
      lines = subst (λ (x : Life). TiedLines b.story conn.requests (link_in x) conn.waiting conn.admitted [] started) e h0.lines;
      told = λ n. cc;
      waits = ended_waits b.story conn.requests conn.again conn.life (error.Io f) conn.fresh conn.moved h0.waits;
      rounds = rounds_down b.story conn.requests conn.fresh conn.fresh refl h0.rounds;
      early = λ unready alive. cc;
      notices = pushes_there conn.life Dialing (hearing_in b.config) conn.hears l e (pushes_still before c started (refused f) h (inl tt));
    }) in
    let book_is : book front ≡ now = book_more before (turn_of c word kind) ∙ heard_is b c.turns word kind (book_kind b c kind h0.numbers.timers k) in
    record {
      stands = all_stand-append before (turn_of c word kind ∷ []) h.sound.stands (may_turn before c started word kind h good, tt);
      lasts = last;
      fails = ap (λ (x : Book). failure_in (x.link c.single.link).end) book_is ∙ ap (λ (x : Ledger). failure_in x.end) own_ledger ∙ failure;
      unshown = λ untold. ap (λ (x : Book). x.created) book_is ∙ h0.creation.before untold;
      first = λ untold m less. ap (λ (x : Book). failure_in (x.link m).end) book_is ∙ unfailed (now.link m) (others_heard b c started kind b.created h0 good (λ some. some) m (λ same. omega arith)) (h0.creation.before untold);
      tied = λ untold. subst (λ (x : Book). Tied (entered x (action.Created (Some (error.Io f)))) t) (sym book_is)
          (replaced (record now { created = b.created + 1; failed = b.failed || true }) t (entered now (action.Created (Some (error.Io f)))).placed now.since (tied (b.created + 1) (b.failed || true) ((shown_creation b.created).after refl)));
      again = λ told. subst (λ (x : Book). Tied x t) (sym book_is) (tied b.created b.failed (h0.creation.after told));
    }

-- or another attempt follows
refused_retires : (before : List Action) (c : Core) (started : List ℕ) (word : ℕ) (kind : EventKind) (f : FaultKind) → Between before c started → is_bad c kind ≡ false → IsNewsKind c.timers kind → news_of c.timers c.sources c.single.link kind ≡ refused f → c.single.connection.life ≡ Dialing
    → c.single.connection.last ≡ false → HasRetired (before ++ turn_of c word kind ∷ []) (with_work (record { core = turned c kind; acts = [] }) (opening_failed (record { conn = c.single.connection; acts = [] }) (error.Io f)))
refused_retires before c started word kind f h good k is e last =
    let b = book before in
    let h0 = h.sound.tied in
    let conn = c.single.connection in
    let l0 = b.link c.single.link in
    let l = heard_by b c (refused f) in
    let now = heard_book b c.turns word kind in
    let front = before ++ turn_of c word kind ∷ [] in
    let lived = subst (λ (x : Life). TiedLife l0 b.created x) e h0.life in
    let live = tied_live b (inner c started) h0 (ap is_resting e) (ap has_ended e) in
    let ends_last : l0.last ≡ false = live.lasts ∙ last in
    let over : l ≡ record (refused_in l0 c.turns (error.Io f)) { heard = refused f } = refused_is l0 c.turns b.created f lived in
    let own_ledger : now.link c.single.link ≡ l = ap (heard_by b c) (book_news b c started kind (refused f) h0 is) in
    let told : PushesOf (hearing_in b.config) conn.hears l = pushes_there conn.life Dialing (hearing_in b.config) conn.hears l e (pushes_still before c started (refused f) h (inl tt)) in
    let a : IsAttempted l conn.hears = record {
      asked = ap (λ (x : Ledger). x.asked) over ∙ lived.0;
      down = ap (λ (x : Ledger). x.up) over ∙ lived.1;
      attempted = ap (λ (x : Ledger). is_attempt x.end) over ∙ ap (λ y. is_by_attempt (lasting y (by_opening (error.Io f)))) ends_last;
      told = λ some. get_behind l.told l.notices (told.untold_is some);
      starts = ap renewal_count (heard_starts l0 c.turns (refused f)) ∙ (early_renewal l0 conn.renewal conn.life (ap is_ready e) (ap has_ended e) h0.renewal).unstarted;
    } in
    let unready : IsUnready b.created conn.life started = record { bare = ap link_in e; none = (subst (λ (x : Life). HasSaid l0 started x) e h0.setup.said).1; unready = ap is_ready e; alive = ap has_ended e; there = ap is_resting e } in
    let all : AllStand blank_book front = all_stand-append before (turn_of c word kind ∷ []) h.sound.stands (may_turn before c started word kind h good, tt) in
    let book_is : book front ≡ now = book_more before (turn_of c word kind) ∙ heard_is b c.turns word kind (book_kind b c kind h0.numbers.timers k) in
    let w : Work = record { conn = conn; acts = [] } in
    subst (λ (y : Work). HasRetired front (with_work (record { core = turned c kind; acts = [] }) y)) (sym (left_if conn.last (given_up w (error.Io f)) (record w { conn = afresh conn }) last))
    (retires before c started word kind (refused f) [] now.link now.placed now.since l h is (λ z. cc) unready last refl refl (others_heard b c started kind b.created h0 good (λ some. some)) own_ledger a
    (uses_hear c.sources c.single.link l0 c.turns (refused f) h0.uses) (subst (AllStand blank_book) (sym (append-nil front)) all) (ap book (append-nil front) ∙ book_is))

-- the first answer to the connect is that it failed, or it was answered before
pub refused_applied : (before : List Action) (c : Core) (started : List ℕ) (word : ℕ) (kind : EventKind) (f : FaultKind) → Between before c started → is_bad c kind ≡ false → IsNewsKind c.timers kind → news_of c.timers c.sources c.single.link kind ≡ refused f
    → HasEffect (before ++ turn_of c word kind ∷ []) (with_work (record { core = turned c kind; acts = [] }) (refused_at (record { conn = c.single.connection; acts = [] }) f c.single.connection.life)) started
refused_applied before c started word kind f h good k is = by_life c.single.connection.life refl
  where
    l : Ledger
    l = (book before).link c.single.link

    late : l.up ≡ true → ending (record l { heard = refused f }) ≡ None
        → HasApplied (before ++ turn_of c word kind ∷ []) (with_work (record { core = turned c kind; acts = [] }) (record { conn = c.single.connection; acts = [] })) started
    late up none = passed_over before c started word kind (refused f) h good k is (λ z. cc) (up_refused l c.turns f up) none

    by_life : (x : Life) → c.single.connection.life ≡ x → HasEffect (before ++ turn_of c word kind ∷ []) (with_work (record { core = turned c kind; acts = [] }) (refused_at (record { conn = c.single.connection; acts = [] }) f x)) started
    by_life Resting e = inl (resting_quiet before c started word kind (refused f) (λ z. cc) h good k is e)
    by_life Dialing e =
        let front = before ++ turn_of c word kind ∷ [] in
        let w : Work = record { conn = c.single.connection; acts = [] } in
        by_test c.single.connection.last _
        (λ last. inl (failing_applied front (turned c kind) w (error.Io f) started (λ z. absurd (omega arith)) h.moved
        (subst (λ (x : List Action). IsFailing x (turned c kind) [] c.single.connection (error.Io f) started) (sym (append-nil front)) (refused_fails before c started word kind f h good k is e last))))
        (λ more. inr (refused_retires before c started word kind f h good k is e more))
    by_life (Wanting link) e =
        let s = wanting_tied (book before) (inner c started) link e h.sound.tied in
        inl (late s.up (ending_wanting (record l { heard = refused f }) s.up s.lacks))
    by_life (SettingUp link greeting) e =
        let s = setting_tied (book before) (inner c started) link greeting e h.sound.tied in
        inl (late s.up (setting_heard l (refused f) link greeting s.up s.said))
    by_life (Ready link) e =
        let u = up_tied (book before) (inner c started) link e h.sound.tied in
        inl (late u.up (ready_heard l (refused f) u.up u.well))
    by_life (Ended x) e = inl (ended_quiet before c started word kind (refused f) x h good k is e)

-- a connect that isn't answered in time
--
-- a link whose connect isn't answered must end so
closing_must : (before : List Action) (c : Core) (started : List ℕ) (n : News) (x : RedisError) → IsPlain n → (let l = record ((book before).link c.single.link) { heard = n } in ending_asked l n ≡ Some (by_opening x)) → Between before c started → c.single.connection.life ≡ Dialing → ending (heard_by (book before) c n) ≡ Some (by_opening x)
closing_must before c started n x plain asks h e =
    let l0 = (book before).link c.single.link in
    let lived0 = subst (λ (y : Life). TiedLife l0 (book before).created y) e h.sound.tied.life in
    let asked : (l0.asked && not (is_over l0)) ≡ true = (λ i. lived0.0 i && not (is_some (lived0.2 i))) in
    ap ending (plain_is l0 c.turns n plain) ∙ left_if l0.up (ending_alive (record l0 { heard = n })) _ lived0.1 ∙ taken_if (l0.asked && not (is_over l0)) (ending_asked (record l0 { heard = n }) n) None asked ∙ asks

-- it is closed
closing_stands : (before : List Action) (c : Core) (started : List ℕ) (word : ℕ) (kind : EventKind) (n : News) (x : RedisError) → IsPlain n → (let l = record ((book before).link c.single.link) { heard = n } in ending_asked l n ≡ Some (by_opening x)) → Between before c started → is_bad c kind ≡ false → IsNewsKind c.timers kind → news_of c.timers c.sources c.single.link kind ≡ n → c.single.connection.life ≡ Dialing
    → AllStand blank_book (trace_of_acts (before ++ turn_of c word kind ∷ []) (turned c kind) (act.Close ∷ []))
closing_stands before c started word kind n x plain asks h good k is e =
    let front = before ++ turn_of c word kind ∷ [] in
    let f = turned c kind in
    let begins = plain_begins before c started word kind n plain h good k is in
    let b = book (trace_of_acts front f []) in
    let t = seen f [] c.single.connection [] started in
    let must : ending (b.link c.single.link) ≡ Some (by_opening x) = ap ending begins.ledger ∙ closing_must before c started n x plain asks h e in
    let shown : trace_of_acts front f (act.Close ∷ []) ≡ trace_of_acts front f [] ++ action.Close c.single.link ∷ [] = shown_more front c.single.link (length f.timers) (length f.sources) [] act.Close in
    let why = by_opening x in
    subst (AllStand blank_book) (sym shown) (all_stand-append (trace_of_acts front f []) (action.Close c.single.link ∷ []) begins.holds.stands (may_close b t why begins.holds.tied refl refl (ap has_ended e) must, tt))

-- its opening has failed, where no other attempt follows
closing_fails : (before : List Action) (c : Core) (started : List ℕ) (word : ℕ) (kind : EventKind) (n : News) (x : RedisError) → IsPlain n → (let l = record ((book before).link c.single.link) { heard = n } in ending_asked l n ≡ Some (by_opening x)) → Between before c started → is_bad c kind ≡ false → IsNewsKind c.timers kind → news_of c.timers c.sources c.single.link kind ≡ n → c.single.connection.life ≡ Dialing
    → c.single.connection.last ≡ true → IsFailing (trace_of_acts (before ++ turn_of c word kind ∷ []) (turned c kind) (act.Close ∷ [])) (turned c kind) (act.Close ∷ []) c.single.connection x started
closing_fails before c started word kind n x plain asks h good k is e last =
    let l0 = (book before).link c.single.link in
    let conn = c.single.connection in
    let front = before ++ turn_of c word kind ∷ [] in
    let f = turned c kind in
    let why = by_opening x in
    let begins = plain_begins before c started word kind n plain h good k is in
    let b = book (trace_of_acts front f []) in
    let t = seen f [] conn [] started in
    let l = b.link c.single.link in
    let lived0 = subst (λ (y : Life). TiedLife l0 (book before).created y) e h.sound.tied.life in
    let lived = subst (λ (y : Life). TiedLife l b.created y) e begins.holds.tied.life in
    let asked : (l0.asked && not (is_over l0)) ≡ true = (λ i. lived0.0 i && not (is_some (lived0.2 i))) in
    let must : ending l ≡ Some why = ap ending (begins.ledger ∙ plain_is l0 c.turns n plain) ∙ left_if l0.up (ending_alive (record l0 { heard = n })) _ lived0.1 ∙ taken_if (l0.asked && not (is_over l0)) (ending_asked (record l0 { heard = n }) n) None asked ∙ asks in
    let lasts : lasting l.last why ≡ why = ap (λ y. lasting y why) ((tied_live b t begins.holds.tied (ap is_resting e) (ap has_ended e)).lasts ∙ last) in
    let unopened = tied_unopened b t begins.holds.tied (ap is_ready e) (ap has_ended e) in
    let over : IsOver (noted l (ends (b.turns - 1))).end f.shut conn.opened = record {
      failed = λ new awake none. (let no : ◌≡◌ {A = Option RedisError} None (Some x) = sym none ∙ ap failure_of (ends_so l why lasts must) in cc);
      unfailed = λ was. absurd (not_both conn.opened unopened was);
    } in
    let now = entered b (action.Close c.single.link) in
    let tied : (created : ℕ) (halted : Bool) → created ≢ 0 → Tied (record now { created = created; failed = halted }) (seen f (act.Close ∷ []) (record conn { life = Ended x; told = true }) [] started) = λ created halted some. close_tied b t created halted true why x false [] (ap (λ (y : Life). requests_in (wanted (link_in y).row) ++ awaited_ids (link_in y).queue) (sym e)) must refl (λ y fails. some) (λ heard done. refl) lasts over (ap has_ended e) (λ z. some) begins.holds.tied (record { before = λ z. cc; after = λ z. some }) in
    let trace = trace_of_acts front f (act.Close ∷ []) in
    let shown : trace ≡ trace_of_acts front f [] ++ action.Close c.single.link ∷ [] = shown_more front c.single.link (length f.timers) (length f.sources) [] act.Close in
    let book_is : book trace ≡ now = book_of_more front f [] act.Close in
    record {
      stands = closing_stands before c started word kind n x plain asks h good k is e;
      lasts = last;
      fails = ap (λ (y : Book). failure_in (y.link c.single.link).end) book_is
          ∙ ap (λ (y : Ledger). failure_in y.end) (mine_noted l c.single.link (ends (b.turns - 1)))
          ∙ ap failure_of (ends_so l why lasts must);
      unshown = λ untold. ap (λ (y : Book). y.created) book_is ∙ begins.holds.tied.creation.before untold;
      first = λ untold m less. ap (λ (y : Book). failure_in (y.link m).end) book_is ∙ unfailed _ (others_kept b c.single.link (ends (b.turns - 1)) begins.holds.tied.others m (λ same. omega arith)) (begins.holds.tied.creation.before untold);
      tied = λ untold. subst (λ (y : Book). Tied (entered y (action.Created (Some x))) (seen f (act.Close ∷ []) (record conn { life = Ended x; told = true }) [] started)) (sym book_is)
          (replaced (record now { created = b.created + 1; failed = b.failed || true }) (seen f (act.Close ∷ []) (record conn { life = Ended x; told = true }) [] started) (entered now (action.Created (Some x))).placed now.since (tied (b.created + 1) (b.failed || true) ((shown_creation b.created).after refl)));
      again = λ told. subst (λ (y : Book). Tied y (seen f (act.Close ∷ []) (record conn { life = Ended x; told = true }) [] started)) (sym book_is) (tied b.created b.failed (begins.holds.tied.creation.after told));
    }

-- so the event has had its effect
closing_failed : (before : List Action) (c : Core) (started : List ℕ) (word : ℕ) (kind : EventKind) (n : News) (x : RedisError) → IsPlain n → n ≢ shut → (let l = record ((book before).link c.single.link) { heard = n } in ending_asked l n ≡ Some (by_opening x)) → Between before c started → is_bad c kind ≡ false → IsNewsKind c.timers kind
    → news_of c.timers c.sources c.single.link kind ≡ n → c.single.connection.life ≡ Dialing
    → HasEffect (before ++ turn_of c word kind ∷ []) (with_work (record { core = turned c kind; acts = [] }) (opening_failed (record { conn = c.single.connection; acts = act.Close ∷ [] }) x)) started
closing_failed before c started word kind n x plain other asks h good k is e =
    let b = book before in
    let conn = c.single.connection in
    let l0 = b.link c.single.link in
    let told : PushesOf (hearing_in b.config) conn.hears (heard_by b c n) = subst (λ (y : Ledger). PushesOf (hearing_in b.config) conn.hears y) (sym (plain_is l0 c.turns n plain)) (renoticed (tame_between before c started h) (notices_there b c started (ap is_resting e) h.sound.tied)) in
    let unready : IsUnready b.created conn.life started = record { bare = ap link_in e; none = (subst (λ (y : Life). HasSaid l0 started y) e h.sound.tied.setup.said).1; unready = ap is_ready e; alive = ap has_ended e; there = ap is_resting e } in
    by_test conn.last _
    (λ last. inl (failing_applied (before ++ turn_of c word kind ∷ []) (turned c kind) (record { conn = conn; acts = act.Close ∷ [] }) x started (λ z. absurd (omega arith)) h.moved (closing_fails before c started word kind n x plain asks h good k is e last)))
    (λ more. inr (closed_retires before c started word kind n x h good k is other unready more (closing_must before c started n x plain asks h e) told (closing_stands before c started word kind n x plain asks h good k is e)))

-- the time is over: where the connect isn't answered, the opening has failed
pub overdue_applied : (before : List Action) (c : Core) (started : List ℕ) (word : ℕ) (kind : EventKind) → Between before c started → is_bad c kind ≡ false → IsNewsKind c.timers kind → news_of c.timers c.sources c.single.link kind ≡ overdue
    → HasEffect (before ++ turn_of c word kind ∷ []) (with_work (record { core = turned c kind; acts = [] }) (overdue_at (record { conn = c.single.connection; acts = [] }) c.single.connection.life)) started
overdue_applied before c started word kind h good k is = by_life c.single.connection.life refl
  where
    by_life : (x : Life) → c.single.connection.life ≡ x → HasEffect (before ++ turn_of c word kind ∷ []) (with_work (record { core = turned c kind; acts = [] }) (overdue_at (record { conn = c.single.connection; acts = [] }) x)) started
    by_life Resting e = inl (resting_quiet before c started word kind overdue (λ z. cc) h good k is e)
    by_life Dialing e =
        closing_failed before c started word kind overdue (error.Io kinds.TimedOut) tt (λ z. cc) refl h good k is e
    by_life (Wanting link) e = wanting_overdue before c started word kind link h good k is e
    by_life (SettingUp link greeting) e = setting_overdue before c started word kind link greeting h good k is e
    by_life (Ready link) e =
        let u = up_tied (book before) (inner c started) link e h.sound.tied in
        inl (passed_over before c started word kind overdue h good k is (λ z. cc) refl (ready_heard ((book before).link c.single.link) overdue u.up u.well))
    by_life (Ended x) e = inl (ended_quiet before c started word kind overdue x h good k is e)

-- the stream of messages is dropped
--
pub dropped_applied : (before : List Action) (c : Core) (started : List ℕ) (word : ℕ) (kind : EventKind) → Between before c started → is_bad c kind ≡ false → IsNewsKind c.timers kind → news_of c.timers c.sources c.single.link kind ≡ dropped
    → HasEffect (before ++ turn_of c word kind ∷ []) (with_work (record { core = turned c kind; acts = [] }) (dropped_by (record { conn = c.single.connection; acts = [] }))) started
dropped_applied before c started word kind h good k is =
    let w : Work = record { conn = c.single.connection; acts = [] } in
    chosen (λ (x : Work). HasEffect (before ++ turn_of c word kind ∷ []) (with_work (record { core = turned c kind; acts = [] }) x) started) (hears_messages w.conn.hears) (dropped_at w w.conn.life) w
    (λ t. by_life t c.single.connection.life refl)
    (λ f. inl (passed_over before c started word kind dropped h good k is (λ z. cc) refl (deaf f)))
  where
    l : Ledger
    l = (book before).link c.single.link

    -- on a link of no messages it ends nothing
    deaf : hears_messages c.single.connection.hears ≡ false → ending (record l { heard = dropped }) ≡ None
    deaf f = by_test (is_resting c.single.connection.life) _
        (λ rests. not_up_ends (record l { heard = dropped }) (resting_down l (book before).created c.single.connection.life rests h.sound.tied.life).0 (resting_down l (book before).created c.single.connection.life rests h.sound.tied.life).1)
        (λ there. dropped_end l (ap hears_messages (hearing_there c.single.connection.life c.single.connection.hears l.hearing there h.sound.tied.notices.hearing_is) ∙ f) (still_none before c started h c.single.link))

    by_life : hears_messages c.single.connection.hears ≡ true → (x : Life) → c.single.connection.life ≡ x → HasEffect (before ++ turn_of c word kind ∷ []) (with_work (record { core = turned c kind; acts = [] }) (dropped_at (record { conn = c.single.connection; acts = [] }) x)) started
    by_life listens Resting e = inl (resting_quiet before c started word kind dropped (λ z. cc) h good k is e)
    by_life listens Dialing e =
        closing_failed before c started word kind dropped error.Closed tt (λ z. cc) (taken_if (hears_messages l.hearing) (Some (by_opening error.Closed)) None (ap hears_messages (hearing_there c.single.connection.life c.single.connection.hears l.hearing (ap is_resting e) h.sound.tied.notices.hearing_is) ∙ listens)) h good k is e
    by_life listens (Wanting link) e = dropped_up before c started word kind listens h good k is (Wanting link) e (λ z. cc)
    by_life listens (SettingUp link greeting) e = dropped_up before c started word kind listens h good k is (SettingUp link greeting) e (λ z. cc)
    by_life listens (Ready link) e = dropped_up before c started word kind listens h good k is (Ready link) e (λ z. cc)
    by_life listens (Ended x) e = dropped_up before c started word kind listens h good k is (Ended x) e (λ z. cc)
