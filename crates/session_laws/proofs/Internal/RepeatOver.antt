-- The time in which what is subscribed again was to be answered is over: the link takes requests.
use Rattle.std.proofs.Common.{◌≡◌, ℕ, Bool, true, false, ◌&&◌, not, List, [], ◌∷◌, ◌++◌, refl, sym, ap, ◌∙◌, subst, arith}
use Rattle.containers.proofs.Choices.{by_test, left_if, not_both, taken_if}
use Rattle.driver_model.specs.declared.action.Action.{Action}
use Rattle.driver_model.specs.declared.event.EventKind.{EventKind}
use Rattle.driver_model.specs.News.{news_of, unrepeated}
use Rattle.link_core.specs.Link.{LinkState}
use Rattle.mux_conn.specs.declared.again.Again.TheVariants as again
use Rattle.mux_conn.specs.declared.connection.MultiplexedConnection.{MultiplexedConnection}
use Rattle.mux_conn.specs.declared.life.Life.{Life}
use Rattle.mux_conn.specs.declared.life.Life.TheVariants.{Resting, Dialing, Wanting, SettingUp, Ready, Ended}
use Rattle.mux_conn.specs.Connection.{Work, is_outstanding, is_ready, is_repeating as is_repeating_on, is_resting}
use Rattle.mux_conn.specs.Effects.{all_fresh, numbers_of, served}
use Rattle.mux_conn.specs.Repeats.{repeating}
use Rattle.single_session.specs.declared.core_state.Core.{Core}
use Rattle.single_session.specs.Turn.{is_bad, with_work}
use Rattle.legal_trace.specs.Book.{Book, book, has_generations}
use Rattle.legal_trace.specs.Ledger.{Ledger, ending, is_ready as is_ready_link, is_repeating, is_served, unrepeated_by}
use Rattle.legal_trace.proofs.Setups.{ends_where_set}
use Rattle.session_laws.proofs.Turn.Announce.{IsNewsKind, announced_sound, first_book, heard_book, heard_is, heard_tied_new, holds_first, quiet_still, turn_of, turned}
use Rattle.session_laws.proofs.Links.Connect.{passed_over}
use Rattle.session_laws.proofs.Links.End.{up_tied}
use Rattle.session_laws.proofs.Turn.Heard.{book_kind, book_news, heard_by, hushed_there, none_ends, still_none, tame_between}
use Rattle.session_laws.proofs.Internal.Held.{unready_repeats_not}
use Rattle.conn_laws.proofs.Internal.Renewals.{renewal_alike}
use Rattle.conn_laws.proofs.Internal.Repeats.{TiedRepeat, over_repeated, serves}
use Rattle.conn_laws.proofs.Links.Said.{mild_end, renoticed, setup_served}
use Rattle.session_laws.proofs.Links.Said.{ready_served}
use Rattle.session_laws.proofs.Internal.Served.{served_rounds, served_waits}
use Rattle.conn_laws.proofs.Internal.Serving.{answered_serves, outstanding_serves}
use Rattle.session_laws.proofs.Requests.Settle.{seen, trace_of_acts}
use Rattle.session_laws.proofs.Ties.States.{Between, HasApplied}
use Rattle.conn_laws.proofs.Ties.Tied.{TiedLife, TiedRounds, TiedWaits, carried, has_ended, whole_link}
use Rattle.session_laws.proofs.Ties.Tied.{Tied, inner}
use Rattle.conn_laws.proofs.Internal.RepeatOver.{given_up, given_up_set, given_up_tied, serving}

-- on a link that is ready, where it isn't answered
given_up_applied : (before : List Action) (c : Core) (started : List ℕ) (word : ℕ) (kind : EventKind) (link : LinkState) → Between before c started → is_bad c kind ≡ false → IsNewsKind c.timers kind → news_of c.timers c.sources c.single.link kind ≡ unrepeated
    → c.single.connection.life ≡ Ready link → is_outstanding c.single.connection.again ≡ true
    → HasApplied (before ++ turn_of c word kind ∷ []) (with_work (record { core = turned c kind; acts = [] }) (record { conn = serving c.single.connection; acts = [] })) started
given_up_applied before c started word kind link h good k is e goes =
    let b = book before in
    let h0 = h.sound.tied in
    let conn = c.single.connection in
    let l = b.link c.single.link in
    let after = given_up l in
    let ns = numbers_of conn.waiting in
    let u = up_tied b (inner c started) link e h0 in
    let ready : is_ready_link l ≡ true = (λ i. u.up i && u.well i) in
    let unserved : is_served l ≡ false = ready_served b (inner c started) h0 ready ∙ ap not goes in
    let repeats : is_repeating l ≡ true = (λ i. ready i && not (unserved i)) in
    let serves_now : serves conn.life again.Nothing ≡ true = answered_serves conn.life again.Nothing (ap is_ready e) refl in
    let front = before ++ turn_of c word kind ∷ [] in
    let f = turned c kind in
    let own = ap (heard_by b c) (book_news b c started kind unrepeated h0 is) ∙ ap (λ (x : Ledger). record x { heard = unrepeated }) (taken_if (is_repeating l) (unrepeated_by l) l repeats) in
    let t = seen f [] (serving conn) [] started in
    let tied : Tied (heard_book b c.turns word kind) t = heard_tied_new b c started word b.created b.failed conn.told conn.opened kind conn.info conn.renewal again.Nothing conn.life ns [] [] after h0 h0.creation refl refl (λ w. (let q = quiet_still b c started h0 w in (q.0, q.1, refl))) good (λ some. some) own
    (record {
      starts = refl;
      hearing_kept = refl;
      spoken = refl;
      lived = subst (λ (x : Life). TiedLife after b.created x) (sym e) (u.asked, u.up, u.alive, u.shown);
      course = h0.course;
      creds = h0.creds;
      renewal_is = renewal_alike l after conn.renewal conn.life refl refl refl h0.renewal;
      repeat_is = subst (λ (x : Life). TiedRepeat after b.tracked conn.renewal.within again.Nothing x) (sym e) (over_repeated l);
      said = setup_served l conn.info started conn.life h0.setup;
      linked = λ z. given_up_tied (carried conn.life conn.requests) l (whole_link conn.life) (h0.link z);
      lines = h0.lines;
      told = h0.told;
      waits = subst (λ (x : Life). TiedWaits b.story conn.requests again.Nothing x ns conn.moved) (sym e) (served_waits b (inner c started) link link h0 refl e goes refl);
      rounds = subst (λ (x : Bool). TiedRounds (has_generations b) b.story conn.requests x ns conn.rounds) (sym serves_now) (served_rounds b (inner c started) h0 refl);
      early = λ unserving. absurd (not_both (serves conn.life again.Nothing) unserving serves_now);
      notices = renoticed (tame_between before c started h) h0.notices;
    }) in
    let turn_is = heard_is b c.turns word kind (book_kind b c kind h0.numbers.timers k) in
    let holds = holds_first front f (serving conn) [] started (announced_sound before c started word kind t h good (subst (λ (x : Book). Tied x t) (sym turn_is) tied)) in
    let ledger = ap (λ (x : Book). x.link c.single.link) (first_book before (turn_of c word kind) f ∙ turn_is) ∙ own in
    record {
      sound = holds;
      ended = none_ends (book (trace_of_acts front f [])) t holds.tied (ap ending ledger ∙ ends_where_set after u.up (given_up_set l ∙ u.well));
      began = λ z. absurd (omega arith);
      moved = h.moved;
      fit = record { wanting = h.fit.wanting; setup = h.fit.setup; link = h.fit.link; none = λ unserving. h.fit.none (outstanding_serves conn.life conn.again goes) };
      hushed = hushed_there c kind unrepeated conn.life is (λ z. cc) (ap is_resting e) (ap has_ended e) h.hushed;
    }

-- the time for it is over
pub repeat_over : (before : List Action) (c : Core) (started : List ℕ) (word : ℕ) (kind : EventKind) → Between before c started → is_bad c kind ≡ false → IsNewsKind c.timers kind → news_of c.timers c.sources c.single.link kind ≡ unrepeated
    → HasApplied (before ++ turn_of c word kind ∷ []) (with_work (record { core = turned c kind; acts = [] }) (served (record { conn = c.single.connection; acts = [] }))) started
repeat_over before c started word kind h good k is = by_life conn.life refl
  where
    b : Book
    b = book before

    conn : MultiplexedConnection
    conn = c.single.connection

    l : Ledger
    l = b.link c.single.link

    w : Work
    w = record { conn = conn; acts = [] }

    done : Work → Type 0
    done x = HasApplied (before ++ turn_of c word kind ∷ []) (with_work (record { core = turned c kind; acts = [] }) x) started

    -- where nothing is to be answered, nothing comes of it
    quiet : is_repeating_on conn ≡ false → is_repeating l ≡ false → done (served w)
    quiet none also =
        subst done (sym (left_if (is_repeating_on conn) (all_fresh (repeating w again.Nothing)) w none))
        (passed_over before c started word kind unrepeated h good k is (λ z. cc) (ap (λ (x : Ledger). record x { heard = unrepeated }) (left_if (is_repeating l) (unrepeated_by l) l also))
        (mild_end l l.taken l.offer unrepeated tt (still_none before c started h c.single.link)))

    down : is_ready conn.life ≡ false → done (served w)
    down unready = quiet (ap (λ up. up && is_outstanding conn.again) unready) (unready_repeats_not b (inner c started) h.sound.tied unready)

    never : (p : Bool) → (p && false) ≡ false
    never true = refl
    never false = refl

    ready : (link : LinkState) → conn.life ≡ Ready link → done (served w)
    ready link e = by_test (is_outstanding conn.again) (done (served w))
        (λ goes.
        subst done (sym (taken_if (is_repeating_on conn) (all_fresh (repeating w again.Nothing)) w (λ i. ap is_ready e i && goes i)))
        (given_up_applied before c started word kind link h good k is e goes))
        (λ none.
        let u = up_tied b (inner c started) link e h.sound.tied in
        let serves_so : is_served l ≡ true = ready_served b (inner c started) h.sound.tied (λ i. u.up i && u.well i) ∙ ap not none in
        quiet (ap (λ open_is. is_ready conn.life && open_is) none ∙ never (is_ready conn.life)) (ap (λ s. is_ready_link l && not s) serves_so ∙ never (is_ready_link l)))

    by_life : (x : Life) → conn.life ≡ x → done (served w)
    by_life Resting e = down (ap is_ready e)
    by_life Dialing e = down (ap is_ready e)
    by_life (Wanting link) e = down (ap is_ready e)
    by_life (SettingUp link greeting) e = down (ap is_ready e)
    by_life (Ready link) e = ready link e
    by_life (Ended x) e = down (ap is_ready e)
