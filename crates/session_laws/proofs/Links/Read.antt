-- Bytes come: what they settle is answered, and bytes that begin no value end the link.
use Rattle.std.proofs.Common.{◌≡◌, inl, ℕ, Bool, true, false, ◌||◌, List, [], ◌∷◌, ◌++◌, Some, None, if◌then◌else◌, refl, sym, ap, ◌∙◌, subst, arith, ◌&&◌}
use Rattle.std.specs.List.{AllByRecursion}
use Rattle.std.proofs.lemmas.List.{append-nil}
use Rattle.containers.proofs.Choices.{by_test, chosen, taken_if, left_if, not_both, both_left}
use Rattle.redis_error.specs.declared.redis_error.RedisError.TheVariants as error
use Rattle.driver_model.specs.declared.action.Action.{Action}
use Rattle.driver_model.specs.declared.event.EventKind.{EventKind}
use Rattle.driver_model.specs.declared.news.LinkFault.TheVariants as fault
use Rattle.driver_model.specs.News.{came, news_of, News}
use Rattle.link_core.specs.Dealing.{Dealing}
use Rattle.link_core.specs.Link.{LinkState, Reading, read_on, read_with}
use Rattle.link_core.specs.Ends.{row_hit, queue_closed}
use Rattle.link_laws.specs.Settles.{settled_ids, wanted, IsOwed}
use Rattle.link_laws.proofs.Notices.{heard_kinds, reads_tell, set_reads, settles_apart}
use Rattle.link_laws.proofs.SetUp.{stays_set}
use Rattle.link_laws.proofs.Settles.{read_owed}
use Rattle.link_laws.proofs.TiedLink.{ReadsAlike, deals, has_read, has_heard, reads_on, heard_is, read_taken, read_tied}
use Rattle.mux_conn.specs.declared.connection.MultiplexedConnection.{MultiplexedConnection}
use Rattle.mux_conn.specs.declared.life.Life.{Life}
use Rattle.mux_conn.specs.declared.life.Life.TheVariants.{Resting, Dialing, Wanting, SettingUp, Ready, Ended}
use Rattle.mux_conn.specs.declared.request.Request.{Request}
use Rattle.mux_conn.specs.Connection.{Work, is_ready, is_resting, is_outstanding}
use Rattle.mux_conn.specs.Requests.{is_open_at, name_at}
use Rattle.mux_conn.specs.Effects.{failed_at, read_to, read_at, read_setup, read_wanting, told_each, numbers_of}
use Rattle.single_session.specs.declared.core_state.Core.{Core}
use Rattle.single_session.specs.Turn.{with_work, is_bad}
use Rattle.legal_trace.specs.Ledger.{Ledger, by_fault, bytes_came, ending, is_unreadable, Heard, hears, noted}
use Rattle.legal_trace.specs.Story.{Story}
use Rattle.legal_trace.specs.Book.{Book, book, entered, hearing_in, has_generations}
use Rattle.legal_trace.specs.Owed.{owed}
use Rattle.conn_laws.proofs.Ties.Numbers.{requests_in}
use Rattle.conn_laws.proofs.Links.Server.{TiedSetup, AreSought, TiedRenewal, on_link, hearing_there}
use Rattle.conn_laws.proofs.Ties.Tied.{link_in, owner_of, TiedLines, AreQueued, TiedWaits, has_ended, TiedRounds, AreEarly}
use Rattle.session_laws.proofs.Ties.Tied.{inner, Tied, Sound, HasCourse}
use Rattle.conn_laws.proofs.Links.SetUp.{set_up_hears}
use Rattle.legal_trace.proofs.Came.{Came, bytes_are}
use Rattle.conn_laws.proofs.Links.HeardBytes.{all_heard, heard_notices, none_noticed}
use Rattle.conn_laws.proofs.Ties.More.{after_came, after_is}
use Rattle.conn_laws.proofs.Links.ReadSetup.{fit_by}
use Rattle.session_laws.proofs.Links.ReadSetup.{setup_read}
use Rattle.session_laws.proofs.Links.ReadWanting.{wanting_read}
use Rattle.session_laws.proofs.Ties.States.{Between, HasApplied, HasEffect}
use Rattle.conn_laws.proofs.Ties.InLine.{IsInLine}
use Rattle.session_laws.proofs.Ties.Owes.{in_line}
use Rattle.conn_laws.proofs.Requests.Settle.{IsDue, replied_each, replied_keeps, own_each, AnswersNone}
use Rattle.session_laws.proofs.Requests.Settle.{seen, trace_of_acts, Tells}
use Rattle.conn_laws.proofs.Links.Close.{AreInTime, parted_moved}
use Rattle.session_laws.proofs.Links.Close.{are_in_time, HasEnded, pending_due, ended_applied}
use Rattle.session_laws.proofs.Turn.Announce.{turn_of, turned, IsNewsKind, announced_sound, first_book, heard_book, heard_is as turn_is, heard_tied_new, StaysQuiet}
use Rattle.session_laws.proofs.Turn.Heard.{heard_by, lives_as, none_ends, ended_quiet, dialing_quiet, book_kind, book_news, tame_between, resting_quiet, going_awake}
use Rattle.session_laws.proofs.Links.End.{up_tied, fault_ends, notices_there}
use Rattle.conn_laws.proofs.Links.Took.{queue_waits}
use Rattle.conn_laws.proofs.Links.Telling.{told_leaves}
use Rattle.session_laws.proofs.Links.Telling.{IsTelling, telling, told_holds, unheard_holds}
use Rattle.link_core.specs.declared.message.NoticeAt.{NoticeAt}
use Rattle.link_core.specs.declared.message.Settled.{Settled}
use Rattle.session_laws.proofs.Ties.Names.{request_not}
use Rattle.conn_laws.proofs.Internal.Replies.{read_renewed}
use Rattle.driver_model.specs.declared.hearing.Hearing.{Hearing}
use Rattle.driver_model.specs.declared.hearing.Hearing.TheVariants as hearing
use Rattle.driver_model.specs.declared.news.LinkFault.{LinkFault}
use Rattle.driver_model.specs.Hearing.{felt, hears_something}
use Rattle.conn_laws.proofs.Internal.Own.{again_after, answered_after, fresh_after, has_repeat, own_done, own_is}
use Rattle.session_laws.proofs.Internal.Served.{served_rounds, served_waits}
use Rattle.conn_laws.proofs.Internal.Serving.{unserved_before, outstanding_serves}
use Rattle.conn_laws.proofs.Internal.Repeats.{IsRepeated, TiedRepeat, serves}
use Rattle.conn_laws.proofs.Internal.Resubscribed.{read_repeated}
use Rattle.mux_conn.specs.declared.again.Again.{Again}
use Rattle.mux_conn.specs.declared.again.Again.TheVariants as again
use Rattle.conn_laws.proofs.Links.Read.{IsReadUp, none_wanted, read_asked, read_ending, read_fit, read_in_line, read_lines, unread_is}

-- what the link of a connection has taken of bytes that come
abbrev deals_of : Core → LinkState → List ℕ → Dealing
deals_of c link piece = deals c.single.connection.hears true link piece

-- the link then
abbrev read_of : Core → LinkState → List ℕ → LinkState
read_of c link piece = has_read c.single.connection.hears true link piece

-- and the connection, before anything is answered
abbrev reads : Core → LinkState → List ℕ → Work
reads c link piece = record { conn = lives_as c (Ready (read_of c link piece)); acts = [] }

-- the link that is up
--
-- so it is
reads_up : (before : List Action) (c : Core) (started : List ℕ) (piece : List ℕ) (link : LinkState) → Between before c started → c.single.connection.life ≡ Ready link
    → (let l = (book before).link c.single.link in IsReadUp l (has_heard l piece) c.single.connection.requests (read_of c link piece) (deals_of c link piece) c.single.connection.renewal c.single.connection.again (book before).tracked)
reads_up before c started piece link h e =
    let b = book before in
    let h0 = h.sound.tied in
    let l = b.link c.single.link in
    let conn = c.single.connection in
    let name = owner_of conn.requests in
    let d = deals_of c link piece in
    let after = has_heard l piece in
    let u = up_tied b (inner c started) link e h0 in
    let renewal = subst (λ (x : Life). TiedRenewal l conn.renewal x) e h0.renewal in
    let repeat = subst (TiedRepeat l b.tracked conn.renewal.within conn.again) e h0.repeat in
    let lines = subst (λ (x : Life). TiedLines b.story conn.requests (link_in x) conn.waiting conn.admitted [] started) e h0.lines in
    let said = subst (λ (x : Life). TiedSetup l conn.info started x) e h0.setup in
    let alike : ReadsAlike conn.hears true l link piece = set_reads conn.hears l link piece (hearing_there conn.life conn.hears l.hearing (ap is_resting e) h0.notices.hearing_is) (tame_between before c started h u.alive) (stays_set l (λ i x less at. (said.sent i x less at).1) u.well) in
    let t = read_taken name conn.hears true l link piece u.alive alike u.tied in
    record {
      tied = read_tied name conn.hears true l link piece u.alive alike u.tied;
      well = set_up_hears l piece said.sent said.said;
      renewed = read_renewed conn.requests conn.hears l link piece conn.renewal u.alive alike u.tied lines.entries (λ p less. request_not b (inner c started) p h0 less) renewal;
      repeated = read_repeated conn.requests conn.hears l link piece b.tracked conn.renewal.within conn.again u.alive alike u.tied lines.entries (λ p less. request_not b (inner c started) p h0 less) repeat;
      owed = read_owed name conn.hears true l link piece u.alive alike u.tied;
      heard = t.heard;
      notices = t.notices;
      same = t.same;
      there = all_heard after t.heard (heard_kinds d.notices t.heard t.same (reads_tell conn.hears true link piece)) t.within;
      apart = settles_apart name l.notices after d t;
      strange = t.strange;
    }

-- of the ledger on which this came
reads_after : (before : List Action) (c : Core) (started : List ℕ) (piece : List ℕ) (link : LinkState) (it : Came ((book before).link c.single.link) (bytes_came ((book before).link c.single.link) piece)) → Between before c started → c.single.connection.life ≡ Ready link
    → (let l = (book before).link c.single.link in IsReadUp l (after_came l piece it) c.single.connection.requests (read_of c link piece) (deals_of c link piece) c.single.connection.renewal c.single.connection.again (book before).tracked)
reads_after before c started piece link it h e =
    let l = (book before).link c.single.link in
    let conn = c.single.connection in
    subst (λ (m : Ledger). IsReadUp l m conn.requests (read_of c link piece) (deals_of c link piece) conn.renewal conn.again (book before).tracked) (after_is l piece it) (reads_up before c started piece link h e)

-- what waits then, where what is subscribed again may have been answered
--
-- a fact of what is subscribed again, and of those whose wait is to be shown
by_reply : (P : Again → List ℕ → Type 0) (c : Core) (d : Dealing) → (is_outstanding c.single.connection.again ≡ true → P again.Nothing (numbers_of c.single.connection.waiting)) → P c.single.connection.again c.single.connection.fresh
    → P (again_after (is_outstanding c.single.connection.again) c.single.connection.again d.out) (fresh_after (is_outstanding c.single.connection.again) c.single.connection.waiting c.single.connection.fresh d.out)
by_reply P c d answered same = by_both (is_outstanding c.single.connection.again && has_repeat d.out) (λ t. answered (both_left (is_outstanding c.single.connection.again) (has_repeat d.out) t))
  where
    by_both : (x : Bool) → (x ≡ true → P again.Nothing (numbers_of c.single.connection.waiting)) → P (if x then again.Nothing else c.single.connection.again) (if x then numbers_of c.single.connection.waiting else c.single.connection.fresh)
    by_both true f = f refl
    by_both false f = same

-- the waits
read_waits : (b : Book) (c : Core) (started : List ℕ) (link : LinkState) (piece : List ℕ) → Tied b (inner c started) → c.single.connection.life ≡ Ready link
    → (let conn = c.single.connection in let out = (deals_of c link piece).out in TiedWaits b.story conn.requests (again_after (is_outstanding conn.again) conn.again out) (Ready (read_of c link piece)) (fresh_after (is_outstanding conn.again) conn.waiting conn.fresh out) conn.moved)
read_waits b c started link piece h e =
    let conn = c.single.connection in
    let read = read_of c link piece in
    by_reply (λ a fresh. TiedWaits b.story conn.requests a (Ready read) fresh conn.moved) c (deals_of c link piece)
    (λ goes. served_waits b (inner c started) link read h refl e goes refl)
    (queue_waits b.story conn.requests conn.again link read conn.fresh conn.moved (λ p i. i) (subst (λ (x : Life). TiedWaits b.story conn.requests conn.again x conn.fresh conn.moved) e h.waits))

-- the rounds
read_rounds : (b : Book) (c : Core) (started : List ℕ) (link : LinkState) (piece : List ℕ) → Tied b (inner c started) → c.single.connection.life ≡ Ready link
    → (let conn = c.single.connection in let out = (deals_of c link piece).out in TiedRounds (has_generations b) b.story conn.requests (serves (Ready (read_of c link piece)) (again_after (is_outstanding conn.again) conn.again out)) (fresh_after (is_outstanding conn.again) conn.waiting conn.fresh out) conn.rounds)
read_rounds b c started link piece h e =
    let conn = c.single.connection in
    let life = Ready (read_of c link piece) in
    by_reply (λ a fresh. TiedRounds (has_generations b) b.story conn.requests (serves life a) fresh conn.rounds) c (deals_of c link piece)
    (λ goes. served_rounds b (inner c started) h refl)
    (subst (λ (x : Life). TiedRounds (has_generations b) b.story conn.requests (serves x conn.again) conn.fresh conn.rounds) e h.rounds)

-- and that none has begun, where it isn't
read_early : (b : Book) (c : Core) (started : List ℕ) (link : LinkState) (piece : List ℕ) → Tied b (inner c started) → c.single.connection.life ≡ Ready link
    → (let conn = c.single.connection in AreEarly conn.requests (again_after (is_outstanding conn.again) conn.again (deals_of c link piece).out) (Ready (read_of c link piece)))
read_early b c started link piece h e =
    let conn = c.single.connection in
    by_reply (λ a fresh. AreEarly conn.requests a (Ready (read_of c link piece))) c (deals_of c link piece)
    (λ goes unserved. cc)
    (λ unserved alive. let k = subst (AreEarly conn.requests conn.again) e h.early unserved refl in record { unbegun = k.unbegun; empty = k.empty })

-- what both are is none where both are
first_none : (xs ys : List ℕ) → xs ++ ys ≡ [] → xs ≡ []
first_none [] ys e = refl
first_none (x ∷ xs) ys e = cc e

-- so while what is subscribed again isn't answered, no request is
read_quiet : (b : Book) (c : Core) (started : List ℕ) (link : LinkState) (piece : List ℕ) → Tied b (inner c started) → c.single.connection.life ≡ Ready link
    → (let out = (deals_of c link piece).out in AnswersNone (own_done (reads c link piece) out).conn (requests_in (settled_ids out) ++ []))
read_quiet b c started link piece h e up goes =
    let conn = c.single.connection in
    let d = deals_of c link piece in
    let unanswered : is_outstanding conn.again ≡ true = by_test (is_outstanding conn.again) (is_outstanding conn.again ≡ true) (λ t. t) (λ f. absurd (not_both (is_outstanding (again_after (is_outstanding conn.again) conn.again d.out)) (answered_after (is_outstanding conn.again) conn.again d.out f) goes)) in
    let none = h.early (outstanding_serves conn.life conn.again unanswered) (ap has_ended e) in
    let lines = subst (λ (x : Life). TiedLines b.story conn.requests (link_in x) conn.waiting conn.admitted [] started) e h.lines in
    append-nil (requests_in (settled_ids d.out)) ∙ first_none (requests_in (settled_ids d.out)) (requests_in (wanted d.row)) (read_asked conn.hears link piece ∙ none_wanted conn.requests link.row lines.entries none.unbegun)

-- the turn begins, with those to be answered that the bytes settle, and what came that is to be told
record BeginsTelling (before : List Action) (f : Core) (conn : MultiplexedConnection) (l : Ledger) (story : ℕ → Story) (untold : List Heard) (pending started : List ℕ) : Type 0 where
  pub holds : Tells before f (record { conn = conn; acts = [] }) untold pending started
  pub ledger : (book (trace_of_acts before f [])).link f.single.link ≡ l
  pub stories : (n : ℕ) → (book (trace_of_acts before f [])).story n ≡ story n

-- so it does
read_begins : (before : List Action) (c : Core) (started : List ℕ) (word : ℕ) (kind : EventKind) (piece : List ℕ) (link : LinkState) (untold : List Heard) → Between before c started → is_bad c kind ≡ false → IsNewsKind c.timers kind → news_of c.timers c.sources c.single.link kind ≡ came piece
    → c.single.connection.life ≡ Ready link
    → (let l = (book before).link c.single.link in (it : Came l (bytes_came l piece)) → (r : IsReadUp l (after_came l piece it) c.single.connection.requests (read_of c link piece) (deals_of c link piece) c.single.connection.renewal c.single.connection.again (book before).tracked)
    → (hears_something c.single.connection.hears ≡ true → untold ≡ r.heard)
    → BeginsTelling (before ++ turn_of c word kind ∷ []) (turned c kind) (own_done (reads c link piece) (deals_of c link piece).out).conn (after_came l piece it) (book before).story untold (requests_in (settled_ids (deals_of c link piece).out)) started)
read_begins before c started word kind piece link untold h good k is e it r came_so =
    let b = book before in
    let h0 = h.sound.tied in
    let l = b.link c.single.link in
    let after = after_came l piece it in
    let conn = c.single.connection in
    let d = deals_of c link piece in
    let read = read_of c link piece in
    let life = Ready read in
    let ids = requests_in (settled_ids d.out) in
    let come = replied_each conn.renewal d.out in
    let a = again_after (is_outstanding conn.again) conn.again d.out in
    let fresh = fresh_after (is_outstanding conn.again) conn.waiting conn.fresh d.out in
    let keeps = replied_keeps conn.renewal d.out in
    let u = up_tied b (inner c started) link e h0 in
    let sought = subst (λ (x : Life). AreSought l.creds x) e h0.creds.sought in
    let lines = subst (λ (x : Life). TiedLines b.story conn.requests (link_in x) conn.waiting conn.admitted [] started) e h0.lines in
    let said = subst (λ (x : Life). TiedSetup l conn.info started x) e h0.setup in
    let course = subst (λ (x : Life). HasCourse l.last l.end c.links c.single.link c.shut c.manager conn.last conn.opened conn.info conn.address x) e h0.course in
    let quiet : StaysQuiet c come a = λ w. (let q = h0.numbers.quiet w in (keeps.1 ∙ q.unwanted, keeps.2 ∙ q.unrenewed, answered_after (is_outstanding conn.again) conn.again d.out q.unrepeated)) in
    let same : noted l (hears c.turns (news_of b.timers b.sources c.single.link kind)) ≡ after = ap (λ (x : News). heard_by b c x) (book_news b c started kind (came piece) h0 is) ∙ heard_is l c.turns piece u.up ∙ after_is l piece it in
    let t = record (seen (turned c kind) [] (own_done (reads c link piece) d.out).conn ids started) { untold = untold } in
    let tied : Tied (heard_book b c.turns word kind) t = heard_tied_new b c started word b.created b.failed conn.told conn.opened kind conn.info come a life fresh ids untold after h0 h0.creation keeps.0 keeps.1 quiet good (λ some. some) same
    (record {
      starts = refl;
      hearing_kept = refl;
      spoken = refl;
      lived = (u.asked, u.up, u.alive, u.shown);
      course = course;
      creds = record { wanted_is = on_link conn.life (l.creds.wanted ≡ conn.renewal.wanted) (ap is_resting e) h0.creds.wanted_is ∙ sym keeps.1; sought = sought };
      renewal_is = r.renewed;
      repeat_is = subst (λ o. IsRepeated after b.tracked o a) (sym keeps.0) r.repeated;
      said = record { info_is = said.info_is; sent = said.sent; said = r.well };
      linked = λ n. r.tied;
      lines = read_lines b.story conn.requests conn.hears link piece conn.waiting conn.admitted started lines;
      told = λ n. subst (λ (x : Life). AreQueued b.story conn.requests c.single.link (link_in x)) e (h0.told (ap has_ended e));
      waits = read_waits b c started link piece h0 e;
      rounds = read_rounds b c started link piece h0 e;
      early = read_early b c started link piece h0 e;
      notices = heard_notices l piece it (hearing_in b.config) conn.hears r.heard untold u.up r.notices came_so (notices_there b c started (ap is_resting e) h0);
    }) in
    let book_is : entered b (turn_of c word kind) ≡ heard_book b c.turns word kind = turn_is b c.turns word kind (book_kind b c kind h0.numbers.timers k) in
    let first = first_book before (turn_of c word kind) (turned c kind) ∙ book_is in
    record {
      holds = subst (λ (x : List Action). Sound x t) (sym (append-nil (before ++ turn_of c word kind ∷ []))) (announced_sound before c started word kind t h good (subst (λ (x : Book). Tied x t) (sym book_is) tied));
      ledger = ap (λ (x : Book). x.link c.single.link) first ∙ same;
      stories = λ m. ap (λ (x : Book). x.story m) first;
    }

-- who was in time is so, where the stories are the same
read_in_time : (now b : Book) (requests : List Request) → ((n : ℕ) → now.story n ≡ b.story n) → AreInTime b.story requests → AreInTime now.story requests
read_in_time now b requests same early p o = ap (λ (s : Story). s.overdue) (same (name_at requests p)) ∙ early p o

-- what the bytes settle is to be answered, and is due
record Reads (front : List Action) (f : Core) (l : Ledger) (w : Work) (untold : List Heard) (out : List Settled) (started : List ℕ) : Type 0 where
  pub ledger : (book (trace_of_acts front f [])).link f.single.link ≡ l
  pub due : AllByRecursion (IsDue (owed (book (trace_of_acts front f []))) (name_at w.conn.requests) (is_open_at w.conn.requests)) out
  pub telling : IsTelling front f ((book (trace_of_acts front f [])).link f.single.link) (owed (book (trace_of_acts front f []))) (name_at w.conn.requests) (is_open_at w.conn.requests) (own_done w out) untold (requests_in (settled_ids out) ++ []) started

-- so it is
read_due : (before : List Action) (c : Core) (started : List ℕ) (word : ℕ) (kind : EventKind) (piece : List ℕ) (link : LinkState) (untold : List Heard) → Between before c started → is_bad c kind ≡ false → IsNewsKind c.timers kind → news_of c.timers c.sources c.single.link kind ≡ came piece
    → c.single.connection.life ≡ Ready link
    → (let l = (book before).link c.single.link in (it : Came l (bytes_came l piece)) → (r : IsReadUp l (after_came l piece it) c.single.connection.requests (read_of c link piece) (deals_of c link piece) c.single.connection.renewal c.single.connection.again (book before).tracked)
    → (hears_something c.single.connection.hears ≡ true → untold ≡ r.heard)
    → Reads (before ++ turn_of c word kind ∷ []) (turned c kind) (after_came l piece it) (reads c link piece) untold (deals_of c link piece).out started)
read_due before c started word kind piece link untold h good k is e it r came_so =
    let b = book before in
    let l = b.link c.single.link in
    let conn = c.single.connection in
    let name = owner_of conn.requests in
    let begins = read_begins before c started word kind piece link untold h good k is e it r came_so in
    let front = before ++ turn_of c word kind ∷ [] in
    let f = turned c kind in
    let now = book (trace_of_acts front f []) in
    let w = reads c link piece in
    let read = read_of c link piece in
    let out = (deals_of c link piece).out in
    let come = own_done w out in
    let ids = requests_in (settled_ids out) in
    let before_line = subst (λ (x : Life). IsInLine conn.requests (link_in x) conn.admitted conn.waiting []) e (in_line b (inner c started) h.sound.tied (ap has_ended e)) in
    let line : IsInLine conn.requests read conn.admitted conn.waiting ids = read_in_line conn.requests conn.hears link piece conn.admitted conn.waiting before_line in
    let all = subst (λ (x : Ledger). AllByRecursion (IsOwed name x) out) (sym begins.ledger) r.owed in
    let early = read_in_time now b conn.requests begins.stories (are_in_time b (inner c started) h.sound.tied refl) in
    record {
      ledger = begins.ledger;
      due = pending_due now (record (seen f [] come.conn ids started) { untold = untold }) out begins.holds.tied early all;
      telling = telling front f come untold (ids ++ []) started (subst (λ ns. Tells front f come untold ns started) (sym (append-nil ids)) begins.holds) (subst (IsInLine conn.requests read conn.admitted conn.waiting) (sym (append-nil ids)) line)
          (read_quiet b c started link piece h.sound.tied e);
    }

-- what the bytes settle is answered, and what came is told
read_answered : (before : List Action) (c : Core) (started : List ℕ) (word : ℕ) (kind : EventKind) (piece : List ℕ) (link : LinkState) → Between before c started → is_bad c kind ≡ false → IsNewsKind c.timers kind → news_of c.timers c.sources c.single.link kind ≡ came piece
    → c.single.connection.life ≡ Ready link
    → (let l = (book before).link c.single.link in (it : Came l (bytes_came l piece)) → IsReadUp l (after_came l piece it) c.single.connection.requests (read_of c link piece) (deals_of c link piece) c.single.connection.renewal c.single.connection.again (book before).tracked
    → (let front = before ++ turn_of c word kind ∷ [] in let f = turned c kind in
    IsTelling front f (after_came l piece it) (owed (book (trace_of_acts front f []))) (name_at c.single.connection.requests) (is_open_at c.single.connection.requests)
    (told_each (reads c link piece) 0 (deals_of c link piece).notices (deals_of c link piece).out) [] [] started))
read_answered before c started word kind piece link h good k is e it r =
    let l = (book before).link c.single.link in
    let conn = c.single.connection in
    let after = after_came l piece it in
    let d = deals_of c link piece in
    let out = d.out in
    let front = before ++ turn_of c word kind ∷ [] in
    let f = turned c kind in
    let owes = owed (book (trace_of_acts front f [])) in
    let w = reads c link piece in
    let begun : (untold : List Heard) → IsTelling front f after owes (name_at conn.requests) (is_open_at conn.requests) (own_done w out) untold (requests_in (settled_ids out) ++ []) started → IsTelling front f after owes (name_at conn.requests) (is_open_at conn.requests) (own_each w out) untold (requests_in (settled_ids out) ++ []) started
    = λ untold k. subst (λ (x : Work). IsTelling front f after owes (name_at conn.requests) (is_open_at conn.requests) x untold (requests_in (settled_ids out) ++ []) started) (sym (own_is w out)) k in
    by_test (hears_something conn.hears) (IsTelling front f after owes (name_at conn.requests) (is_open_at conn.requests) (told_each w 0 d.notices out) [] [] started)
    (λ t.
    let q = read_due before c started word kind piece link r.heard h good k is e it r (λ y. refl) in
    told_holds front f after owes (name_at conn.requests) (is_open_at conn.requests) w 0 d.notices r.heard out started t refl r.same r.apart r.there q.due
    (begun r.heard (subst (λ (x : Ledger). IsTelling front f x owes (name_at conn.requests) (is_open_at conn.requests) (own_done w out) r.heard (requests_in (settled_ids out) ++ []) started) q.ledger q.telling)))
    (λ n.
    let q = read_due before c started word kind piece link [] h good k is e it r (λ y. absurd (not_both (hears_something conn.hears) n y)) in
    subst (λ (ns : List NoticeAt). IsTelling front f after owes (name_at conn.requests) (is_open_at conn.requests) (told_each w 0 ns out) [] [] started) (sym (none_noticed conn.hears true link piece n))
    (unheard_holds front f after owes (name_at conn.requests) (is_open_at conn.requests) w 0 out started q.due
    (begun [] (subst (λ (x : Ledger). IsTelling front f x owes (name_at conn.requests) (is_open_at conn.requests) (own_done w out) [] (requests_in (settled_ids out) ++ []) started) q.ledger q.telling))))

-- the first of two, where neither is so
neither : (p q : Bool) → (p || q) ≡ false → p ≡ false
neither true q none = cc
neither false q none = refl

-- a link that is up reads on, or ends where it can't, on which this came
read_up : (before : List Action) (c : Core) (started : List ℕ) (word : ℕ) (kind : EventKind) (piece : List ℕ) (link : LinkState) → Between before c started → is_bad c kind ≡ false → IsNewsKind c.timers kind → news_of c.timers c.sources c.single.link kind ≡ came piece
    → c.single.connection.life ≡ Ready link → Came ((book before).link c.single.link) (bytes_came ((book before).link c.single.link) piece)
    → HasApplied (before ++ turn_of c word kind ∷ []) (with_work (record { core = turned c kind; acts = [] }) (read_to (record { conn = c.single.connection; acts = [] }) (read_with (read_on link (link.rest ++ piece)) (deals_of c link piece)))) started
read_up before c started word kind piece link h good k is e it =
    let b = book before in
    let l = b.link c.single.link in
    let conn = c.single.connection in
    let name = owner_of conn.requests in
    let u = up_tied b (inner c started) link e h.sound.tied in
    let r = reads_after before c started piece link it h e in
    let a = read_answered before c started word kind piece link h good k is e it r in
    let front = before ++ turn_of c word kind ∷ [] in
    let f = turned c kind in
    let d = deals_of c link piece in
    let read = read_of c link piece in
    let after = after_came l piece it in
    let v = told_each (reads c link piece) 0 d.notices d.out in
    let still = told_leaves (reads c link piece) 0 d.notices d.out in
    let why = by_fault (felt after.hearing fault.Parse) in
    let ends_so : ending ((book (trace_of_acts front f v.acts)).link f.single.link) ≡ (if is_unreadable after then Some why else None) = ap ending a.ledger_is ∙ read_ending after a.told piece refl u.up r.well.well in
    let unread = unread_is name after read d r.tied r.strange in
    let felt_so : felt after.hearing fault.Parse ≡ felt v.conn.hears fault.Parse = ap (λ (x : Hearing). felt x fault.Parse) (hearing_there conn.life conn.hears l.hearing (ap is_resting e) h.sound.tied.notices.hearing_is ∙ sym still.hears) in
    chosen (λ (x : Work). HasApplied front (with_work (record { core = f; acts = [] }) x) started) (read.broken || d.strange) (failed_at v fault.Parse v.conn.life) v
    (λ t. ended_applied front f (failed_at v fault.Parse v.conn.life) error.Closed started (λ z. absurd (omega arith))
    (subst (λ (x : Life). (failed_at v fault.Parse x).conn.moved ≡ []) (sym still.life) (parted_moved v (row_hit (felt v.conn.hears fault.Parse) read.row ++ queue_closed read.queue) ∙ still.moved ∙ h.moved))
    (subst (λ (x : Life). HasEnded front f (failed_at v fault.Parse x) error.Closed started) (sym still.life)
    (fault_ends front f v read (felt v.conn.hears fault.Parse) started a.holds still.life (ends_so ∙ taken_if (is_unreadable after) (Some why) None (unread ∙ t) ∙ ap (λ (x : LinkFault). Some (by_fault x)) felt_so))))
    (λ n. record {
      sound = a.holds;
      ended = none_ends (book (trace_of_acts front f v.acts)) (seen f v.acts v.conn [] started) a.holds.tied (ends_so ∙ left_if (is_unreadable after) (Some why) None (unread ∙ n));
      began = λ z. absurd (omega arith);
      moved = still.moved ∙ h.moved;
      fit = fit_by v.conn conn.size conn.boundary read still.size still.boundary still.life
          (λ down. still.admitted ∙ h.fit.none (unserved_before (Ready read) conn.life conn.again v.conn.again refl (ap is_ready e) still.answered (ap (λ (x : Life). serves x v.conn.again) (sym still.life) ∙ down))) (read_fit conn.size conn.boundary conn.hears link piece (h.fit.link link e) (neither read.broken d.strange n));
      hushed = λ over. absurd (not_both f.shut (going_awake c kind (came piece) is (λ z. cc) (ap is_resting e) (ap has_ended e) h.hushed) over);
    })

-- bytes come
pub read_applied : (before : List Action) (c : Core) (started : List ℕ) (word : ℕ) (kind : EventKind) (piece : List ℕ) → Between before c started → is_bad c kind ≡ false → IsNewsKind c.timers kind → news_of c.timers c.sources c.single.link kind ≡ came piece
    → HasEffect (before ++ turn_of c word kind ∷ []) (with_work (record { core = turned c kind; acts = [] }) (read_at (record { conn = c.single.connection; acts = [] }) piece c.single.connection.life)) started
read_applied before c started word kind piece h good k is = by_life c.single.connection.life refl
  where
    w : Work
    w = record { conn = c.single.connection; acts = [] }

    applied : Work → Type 0
    applied x = HasEffect (before ++ turn_of c word kind ∷ []) (with_work (record { core = turned c kind; acts = [] }) x) started

    by_life : (x : Life) → c.single.connection.life ≡ x → applied (read_at w piece x)
    by_life Resting e = inl (resting_quiet before c started word kind (came piece) (λ z. cc) h good k is e)
    by_life Dialing e = inl (dialing_quiet before c started word kind (came piece) tt h good k is e)
    by_life (Ended x) e = inl (ended_quiet before c started word kind (came piece) x h good k is e)
    by_life (Wanting link) e =
        subst (λ (r : Reading). applied (read_wanting w r)) (sym (reads_on hearing.Nothing false link piece (h.fit.wanting link e).sound)) (wanting_read before c started word kind piece link h good k is e)
    by_life (SettingUp link greeting) e =
        subst (λ (r : Reading). applied (read_setup w greeting r)) (sym (reads_on c.single.connection.hears false link piece (h.fit.setup link greeting e).sound)) (setup_read before c started word kind piece link greeting h good k is e)
    by_life (Ready link) e =
        subst (λ (r : Reading). applied (read_to w r)) (sym (reads_on c.single.connection.hears true link piece (h.fit.link link e).sound))
        (inl (read_up before c started word kind piece link h good k is e (bytes_are ((book before).link c.single.link) piece)))
