-- The connection's link ends: it is closed, and all its requests are answered.
use Rattle.std.proofs.Common.{Bool, true, ◌≡◌, ◌≢◌, inl, inr, ℕ, ◌-◌, List, [], ◌∷◌, ◌++◌, length, Option, Some, None, refl, sym, ap, ◌∙◌, ◌⊎◌, not, ◌&&◌, if◌then◌else◌, subst, arith, false}
use Rattle.std.specs.List.{AllByRecursion}
use Rattle.std.proofs.lemmas.List.{append-nil}
use Rattle.redis_error.specs.declared.redis_error.RedisError.TheVariants as error
use Rattle.redis_error.specs.declared.redis_error.RedisError.{RedisError}
use Rattle.driver_model.specs.declared.action.Action.{Action}
use Rattle.driver_model.specs.declared.action.Action.TheVariants as action
use Rattle.driver_model.specs.declared.outcome.Outcome.{Outcome}
use Rattle.driver_model.specs.declared.outcome.Outcome.TheVariants as outcome
use Rattle.link_core.specs.declared.message.Settled.{Settled}
use Rattle.link_core.specs.Link.{LinkState}
use Rattle.link_laws.specs.Settles.{settled_ids, wanted, awaited_ids, IsOwed}
use Rattle.link_laws.proofs.Dealt.{all_append}
use Rattle.mux_conn.specs.declared.act.LinkAct.TheVariants as act
use Rattle.mux_conn.specs.declared.again.Again.TheVariants as again
use Rattle.mux_conn.specs.declared.life.Life.{Life}
use Rattle.mux_conn.specs.declared.life.Life.TheVariants.{Resting, Wanting, SettingUp, Ready, Ended}
use Rattle.mux_conn.specs.declared.request.Waiting.{Waiting}
use Rattle.mux_conn.specs.Connection.{Work, is_resting, is_outstanding}
use Rattle.mux_conn.specs.Requests.{is_open_at, name_at}
use Rattle.mux_conn.specs.Effects.{waiting_failed, nobody_waits, failed_each, settled_each, ended, all_answered, cut_short, parted, noticed}
use Rattle.single_session.specs.declared.core_state.Core.{Core}
use Rattle.single_session.specs.Turn.{with_work}
use Rattle.legal_trace.specs.Ledger.{Ledger, Ending, ends, noted, ending, failure_of, is_fault, is_cut, parts, by_fault, lasting}
use Rattle.legal_trace.specs.Book.{Book, book, entered}
use Rattle.legal_trace.specs.Owed.{owed, owed_by, owed_unstarted, owed_waiting}
use Rattle.legal_trace.specs.Legal.{MayClose, MayPart}
use Rattle.conn_laws.proofs.Requests.Rounded.{rounds_down}
use Rattle.conn_laws.proofs.Ties.Numbers.{IsIn, in_left, in_right, Rising, rising_in, rising_right, requests_in, requests_in-append, all_requests}
use Rattle.conn_laws.proofs.Links.Server.{hearing_there, on_link}
use Rattle.conn_laws.proofs.Ties.Tied.{TiedCreation, no_link, link_in, owner_of, queue_ids, waiting_ids, IsOver, TiedLife, has_ended}
use Rattle.session_laws.proofs.Ties.Tied.{TurnState, Tied, relined}
use Rattle.session_laws.proofs.Links.Said.{ready_shown, sources_asked, ready_served}
use Rattle.conn_laws.proofs.Ties.States.{IsStopped}
use Rattle.session_laws.proofs.Ties.States.{HasApplied}
use Rattle.conn_laws.proofs.Ties.InLine.{kept_ids, IsInLine, awaited_in}
use Rattle.conn_laws.proofs.Ties.Owes.{lives, is_asked, owed_asked}
use Rattle.session_laws.proofs.Ties.Owes.{in_time, none_owed, in_line, later_unstarted, owed_none_started, settled_owed, notices_told}
use Rattle.session_laws.proofs.Ties.Kept.{mine_noted, others_kept, tied_by}
use Rattle.session_laws.proofs.Requests.Answer.{after_end}
use Rattle.conn_laws.proofs.Managers.Comes.{ends_there}
use Rattle.session_laws.proofs.Managers.Comes.{has_begun, has_links}
use Rattle.conn_laws.proofs.Ties.Aside.{aside_ends, others_created}
use Rattle.conn_laws.proofs.Requests.Settle.{IsDue, IsDueError, settled_leaves, replied_each, replied_keeps, own_each}
use Rattle.session_laws.proofs.Requests.Settle.{book_of_more, seen, trace_of_acts, Holds, IsAnswering, answering, settled_holds, failed_holds, Parts, sound_told, renewal_over}
use Rattle.containers.proofs.Choices.{not_both, chosen}
use Rattle.driver_model.specs.declared.push_info.PushInfo.{PushInfo}
use Rattle.resp_value.specs.declared.push_kind.PushKind.TheVariants.{Disconnection}
use Rattle.conn_laws.proofs.Links.Told.{owed_told}
use Rattle.session_laws.proofs.Links.Told.{push_tied}
use Rattle.driver_model.specs.declared.news.LinkFault.{LinkFault}
use Rattle.conn_laws.proofs.Ties.Names.{open_within}
use Rattle.session_laws.proofs.Ties.Names.{request_not}
use Rattle.conn_laws.proofs.Internal.Renewals.{renewal_ended}
use Rattle.mux_conn.specs.Renewals.{renewing}
use Rattle.driver_model.specs.Hearing.{hears_pushes}
use Rattle.driver_model.specs.declared.hearing.Notice.TheVariants as notice
use Rattle.conn_laws.proofs.Links.Lost.{end_served}
use Rattle.conn_laws.proofs.Internal.Own.{own_over}
use Rattle.conn_laws.proofs.Internal.Repeats.{TiedRepeat}
use Rattle.conn_laws.proofs.Links.Close.{AreDue, AreInTime, IsClosedOf, SettlesAll, all_kept, close_in_line, close_lines, ended_waits, ends_failed, ends_owed, ends_so, no_failure, unfailed_lasts, waiting_in_line, waiting_leaves, waiting_lines}

-- the link is closed
--
-- where it must end, and nothing is to be answered
pub may_close : (b : Book) (t : TurnState) (why : Ending) → Tied b t → t.pending ≡ [] → t.untold ≡ [] → has_ended t.life ≡ false → ending (b.link t.link) ≡ Some why → MayClose b t.link
may_close b t why h none told n must = record {
  why = why;
  ends = must;
  in_order = λ m less. aside_ends (b.link m) (h.others m (λ e. omega arith));
  answered = λ m asked alive. none_owed b t h (λ rests. absurd (not_both (is_resting t.life) (ends_there (b.link t.link) b.created t.life why must h.life) rests)) none n m asked;
  created = ready_shown b t h;
  sourced = sources_asked b t h;
  pushed = notices_told b t h told;
}

-- the session is tied to the book with the end of the link; the creation may be shown with it
pub close_tied : (b : Book) (t : TurnState) (created : ℕ) (halted told : Bool) (why : Ending) (e : RedisError) (parting : Bool) (pending : List ℕ) → pending ≡ requests_in (wanted (link_in t.life).row) ++ awaited_ids (link_in t.life).queue → ending (b.link t.link) ≡ Some why → owed_by why ≡ Some (outcome.Fault e)
    → ((f : RedisError) → failure_of why ≡ Some f → created ≢ 0) → (hears_pushes t.hears ≡ true → parting ≡ false → is_fault why ≡ false) → lasting (b.link t.link).last why ≡ why → IsOver (noted (b.link t.link) (ends (b.turns - 1))).end t.shut t.opened → has_ended t.life ≡ false → (b.created ≢ 0 → created ≢ 0) → Tied b (record t { pending = []; untold = []; parting = false }) → TiedCreation created told
    → Tied (record (entered b (action.Close t.link)) { created = created; failed = halted }) (record t { life = Ended e; told = told; pending = pending; untold = []; parting = parting })
close_tied b t created halted told why e parting pending ids must is shown mild last over up on h made =
    let turn = b.turns - 1 in
    let after = record (entered b (action.Close t.link)) { created = created; failed = halted } in
    let there = ends_there (b.link t.link) b.created t.life why must h.life in
    tied_by after (record t { life = Ended e; told = told; pending = pending; untold = []; parting = parting }) (noted (b.link t.link) (ends turn)) (mine_noted (b.link t.link) t.link (ends turn)) (record {
      numbers = record { turns = h.numbers.turns; links = h.numbers.links; timers = h.numbers.timers; sources = h.numbers.sources; aims = h.numbers.aims; timed = h.numbers.timed; submissions = h.numbers.submissions; timeout = h.numbers.timeout; shut = h.numbers.shut; within = h.numbers.within; few = h.numbers.few; settings = record { size_is = h.numbers.settings.size_is; bound_is = h.numbers.settings.bound_is; limit_is = h.numbers.settings.limit_is; some = h.numbers.settings.some; limited = h.numbers.settings.limited }; kind_is = h.numbers.kind_is; quiet = h.numbers.quiet; comes_back = h.numbers.comes_back; lazy = λ is. on (h.numbers.lazy is); current_is = h.numbers.current_is; speaks = h.numbers.speaks; address_is = h.numbers.address_is; wants = h.numbers.wants; alone = h.numbers.alone };
      others = others_created t.link created _ on (others_kept b t.link (ends turn) h.others);
      notices = record {
        heard_is = h.notices.heard_is;
        hearing_is = hearing_there t.life t.hears (b.link t.link).hearing there h.notices.hearing_is;
        within = h.notices.within;
        untold_is = h.notices.untold_is;
        parts = λ heard done cut. absurd (not_both (is_fault why) (mild heard done) (sym (ap is_fault (ends_so (b.link t.link) why last must)) ∙ cut));
        alive = λ none. cc;
        due = λ parted. h.notices.alive (lives (b.link t.link) b.created t.life h.life up);
        tame = λ none r. cc;
      };
      life = (refl, ends_owed (b.link t.link) turn why e last must is, ends_failed (b.link t.link) turn created why last must shown, is_asked (b.link t.link) b.created t.life there h.life);
      course = (has_links t.life (b.link t.link).last (b.link t.link).end t there h.course, has_begun t.life (b.link t.link).last (b.link t.link).end t there h.course, over);
      calm = λ n. cc;
      creds = record { wanted_is = on_link t.life ((b.link t.link).creds.wanted ≡ t.renewal.wanted) there h.creds.wanted_is; sought = tt };
      creation = made;
      uses = h.uses;
      renewal = renewal_ended (b.link t.link) (noted (b.link t.link) (ends turn)) t.renewal t.life refl refl h.renewal;
      repeat = end_served (b.link t.link) turn why t.again must (ready_served b (record t { pending = []; untold = []; parting = false }) h);
      setup = record { info_is = on_link t.life ((b.link t.link).info ≡ t.info) there h.setup.info_is; sent = h.setup.sent; said = tt };
      link = λ n. cc;
      names = h.names;
      story = h.story;
      tries = record { owners = h.tries.owners; greeted = h.tries.greeted; shapes = h.tries.shapes; tried = h.tries.tried; untried = h.tries.untried };
      lines = close_lines b.story t.requests (link_in t.life) t.waiting t.admitted pending t.started ids h.lines;
      told = λ n. cc;
      waits = ended_waits b.story t.requests t.again t.life e t.fresh t.moved h.waits;
      permits = h.permits;
      rounds = rounds_down b.story t.requests t.fresh t.fresh refl h.rounds;
      early = λ up over. cc;
      late = λ p o late. absurd (h.late p o late);
    })

-- what is due then
--
-- so it is where nothing is to be answered
pub are_in_time : (b : Book) (t : TurnState) → Tied b t → t.pending ≡ [] → AreInTime b.story t.requests
are_in_time b t h none p o = in_time b t p h o (λ i. subst (IsIn p) none i)

-- each message that was settled is due what it came to
due_each : (b : Book) (t : TurnState) (ss : List Settled) → Tied b t → AreInTime b.story t.requests → AllByRecursion (IsOwed (owner_of t.requests) (b.link t.link)) ss → AllByRecursion (IsDue (owed b) (name_at t.requests) (is_open_at t.requests)) ss
due_each b t [] h early all = tt
due_each b t (s ∷ ss) h early all = ((λ o. settled_owed b t s h (open_within t.requests s.id o) (early s.id o) all.0), due_each b t ss h early all.1)

-- so each of them is due what it came to
pub pending_due : (b : Book) (t : TurnState) (ss : List Settled) → Tied b t → AreInTime b.story t.requests → AllByRecursion (IsOwed (owner_of t.requests) (b.link t.link)) ss → AllByRecursion (IsDue (owed b) (name_at t.requests) (is_open_at t.requests)) ss
pending_due b t ss h early all = due_each b t ss h early all

-- those that wait are due the error of the end
waiting_due : (b : Book) (t : TurnState) (e : RedisError) (qs : List Waiting) → Tied b t → AreInTime b.story t.requests → owed_waiting b.shut (b.link t.link) ≡ Some (outcome.Fault e) → ((n : ℕ) → IsIn n (waiting_ids qs) → IsIn n t.started → ⊥) → AllByRecursion (IsDueError (owed b) (name_at t.requests) (is_open_at t.requests) e) qs
waiting_due b t e [] h early over all = tt
waiting_due b t e (q ∷ qs) h early over all = (
  (λ o. owed_none_started b t q.number h o (early q.number o) (all q.number (inl refl)) ∙ over),
  waiting_due b t e qs h early over (λ n i. all n (inr i)),
)

-- who has no place has not started
kept_unstarted : (b : Book) (t : TurnState) (n : ℕ) → Tied b t → IsIn n (kept_ids t.admitted t.waiting) → IsIn n t.started → ⊥
kept_unstarted b t n h i = later_unstarted b t n h (in_right n (queue_ids (link_in t.life).queue) (kept_ids t.admitted t.waiting) i)

-- so they are
pub all_waiting_due : (b : Book) (t : TurnState) (e : RedisError) → Tied b t → AreInTime b.story t.requests → owed_waiting b.shut (b.link t.link) ≡ Some (outcome.Fault e)
    → AreDue (owed b) (name_at t.requests) (is_open_at t.requests) e t.admitted t.waiting
all_waiting_due b t e h early over = record {
  place = waiting_due b t e t.admitted h early over (λ n i. kept_unstarted b t n h (in_left n (waiting_ids t.admitted) (waiting_ids t.waiting) i));
  connection = waiting_due b t e t.waiting h early over (λ n i. kept_unstarted b t n h (in_right n (waiting_ids t.admitted) (waiting_ids t.waiting) i));
}

-- those that wait are to be answered
--
-- the session is tied with them to be answered
waiting_tied : (b : Book) (t : TurnState) → Tied b (record t { pending = [] }) → Tied b (record t { waiting = []; admitted = []; pending = all_kept t.admitted t.waiting })
waiting_tied b t h =
    relined b (record t { pending = [] }) [] [] t.fresh t.moved (all_kept t.admitted t.waiting) h (waiting_lines b.story t.requests (link_in t.life) t.waiting t.admitted t.started h.lines) h.waits h.rounds (λ p o late. absurd (h.late p o late))

-- all that wait are answered
waiting_failed_holds : (before : List Action) (f : Core) (ledger : Ledger) (owes : ℕ → Option Outcome) (name : ℕ → ℕ) (was : ℕ → Bool) (w : Work) (e : RedisError) (started : List ℕ) → link_in w.conn.life ≡ no_link → AreDue owes name was e w.conn.admitted w.conn.waiting
    → (has_ended w.conn.life ≡ false → is_outstanding w.conn.again ≡ true → ⊥) → IsAnswering before f ledger owes name was w [] started → IsAnswering before f ledger owes name was (waiting_failed w e) [] started
waiting_failed_holds before f ledger owes name was w e started bare due quiet h =
    let rest = nobody_waits w in
    failed_holds before f ledger owes name was (failed_each rest e w.conn.admitted) e w.conn.waiting [] started due.connection
    (failed_holds before f ledger owes name was rest e w.conn.admitted (waiting_ids w.conn.waiting ++ []) started due.place
    (record {
      holds = record { stands = h.holds.stands; tied = waiting_tied (book (trace_of_acts before f w.acts)) (seen f w.acts w.conn [] started) h.holds.tied };
      line = waiting_in_line w.conn.requests w.conn.life w.conn.admitted w.conn.waiting bare h.line;
      quiet = λ up goes. absurd (quiet up goes);
      ledger_is = h.ledger_is;
      owed_is = h.owed_is;
      named = h.named;
      opens = h.opens;
    }))

-- the end
--
-- so far the connection has come, and none waits
pub record HasAnswered (before : List Action) (f : Core) (w : Work) (life : Life) (started : List ℕ) : Type 0 where
  pub holds : Holds before f w [] started
  pub over : w.conn.life ≡ life
  pub none_waits : w.conn.waiting ≡ []
  pub none_admitted : w.conn.admitted ≡ []

-- the link has ended, and none waits
abbrev pub HasEnded : List Action → Core → Work → RedisError → List ℕ → Type 0
HasEnded before f w e started = HasAnswered before f w (Ended e) started

-- those that wait are answered, where the others were
rest_ends : (before : List Action) (f : Core) (ledger : Ledger) (owes : ℕ → Option Outcome) (name : ℕ → ℕ) (was : ℕ → Bool) (w : Work) (life : Life) (e : RedisError) (started : List ℕ) → w.conn.life ≡ life → link_in life ≡ no_link → AreDue owes name was e w.conn.admitted w.conn.waiting
    → (has_ended w.conn.life ≡ false → is_outstanding w.conn.again ≡ true → ⊥) → IsAnswering before f ledger owes name was w [] started → HasAnswered before f (waiting_failed w e) life started
rest_ends before f ledger owes name was w life e started over bare due quiet h =
    let m = waiting_leaves w e in
    record { holds = (waiting_failed_holds before f ledger owes name was w e started (ap link_in over ∙ bare) due quiet h).holds; over = m.life ∙ over; none_waits = m.waiting; none_admitted = m.admitted }

-- where only those that wait are open
kept_end : (before : List Action) (f : Core) (w : Work) (life : Life) (e : RedisError) (started : List ℕ) → Holds before f w [] started → w.conn.life ≡ life → link_in life ≡ no_link → (has_ended w.conn.life ≡ false → is_outstanding w.conn.again ≡ true → ⊥)
    → (let b = book (trace_of_acts before f w.acts) in owed_waiting b.shut (b.link f.single.link) ≡ Some (outcome.Fault e)) → HasAnswered before f (waiting_failed w e) life started
kept_end before f w life e started h over bare quiet owes =
    let b = book (trace_of_acts before f w.acts) in
    let t = seen f w.acts w.conn [] started in
    let kept = kept_ids w.conn.admitted w.conn.waiting in
    let none = ap link_in over ∙ bare in
    let line = subst (λ (x : LinkState). IsInLine w.conn.requests x w.conn.admitted w.conn.waiting []) (sym none)
    (rising_right 0 (requests_in started) kept (length w.conn.requests) (subst (λ (x : LinkState). Rising 0 (requests_in started ++ (queue_ids x.queue ++ kept)) (length w.conn.requests)) none h.tied.lines.line)) in
    rest_ends before f (b.link f.single.link) (owed b) (name_at w.conn.requests) (is_open_at w.conn.requests) w life e started over bare (all_waiting_due b t e h.tied (are_in_time b t h.tied refl) owes) quiet (answering before f w [] started h line (λ up goes. refl))

-- of a link that is over
pub waiting_ends : (before : List Action) (f : Core) (w : Work) (e : RedisError) (started : List ℕ) → Holds before f w [] started → w.conn.life ≡ Ended e → HasEnded before f (waiting_failed w e) e started
waiting_ends before f w e started h over =
    let b = book (trace_of_acts before f w.acts) in
    let down = subst (λ (x : Life). TiedLife (b.link f.single.link) b.created x) over h.tied.life in
    kept_end before f w (Ended e) e started h over refl (λ up goes. not_both (has_ended w.conn.life) up (ap has_ended over)) (owed_asked b.shut (b.link f.single.link) down.3 ∙ down.1)

-- or without a link, where everything is shut down
pub waiting_shut : (before : List Action) (f : Core) (w : Work) (started : List ℕ) → Holds before f w [] started → w.conn.life ≡ Resting → f.shut ≡ true → HasAnswered before f (waiting_failed w error.Closed) Resting started
waiting_shut before f w started h rests shut =
    let b = book (trace_of_acts before f w.acts) in
    let l = b.link f.single.link in
    let none = (subst (λ (x : Life). TiedLife l b.created x) rests h.tied.life).0 in
    let nothing : w.conn.again ≡ again.Nothing = subst (TiedRepeat l b.tracked w.conn.renewal.within w.conn.again) rests h.tied.repeat in
    kept_end before f w Resting error.Closed started h rests refl (λ up goes. not_both (is_outstanding w.conn.again) (ap is_outstanding nothing) goes) (λ i. if (h.tied.numbers.shut ∙ shut) i && not (none i) then Some (outcome.Fault error.Closed) else owed_unstarted l.end)

-- the messages of the queue are due the error of the end
queue_due : (b : Book) (t : TurnState) (ids : List ℕ) (ss : List Settled) → Tied b t → AreInTime b.story t.requests → owed_waiting b.shut (b.link t.link) ≡ Some (outcome.Fault error.Closed) → ((n : ℕ) → IsIn n ids → IsIn n t.started → ⊥) → AllByRecursion (IsClosedOf ids) ss
    → AllByRecursion (IsDue (owed b) (name_at t.requests) (is_open_at t.requests)) ss
queue_due b t ids [] h early over unstarted all = tt
queue_due b t ids (s ∷ ss) h early over unstarted all = (
  (λ o. owed_none_started b t s.id h o (early s.id o) (unstarted s.id all.0.1) ∙ over ∙ ap Some (sym all.0.0)),
  queue_due b t ids ss h early over unstarted all.1,
)

-- who is awaited in the queue is a request
awaited_asked : (b : Book) (t : TurnState) → Tied b t → requests_in (awaited_ids (link_in t.life).queue) ≡ awaited_ids (link_in t.life).queue
awaited_asked b t h = all_requests (awaited_ids (link_in t.life).queue) (λ n i.
    let queue = queue_ids (link_in t.life).queue in
    let kept = kept_ids t.admitted t.waiting in
    let within = rising_in 0 (requests_in t.started ++ (queue ++ kept)) (length t.requests) n h.lines.line (in_right n (requests_in t.started) (queue ++ kept) (in_left n queue kept (awaited_in n (link_in t.life).queue i))) in
    request_not b t n h within.1)

-- a link was closed: its messages are to be answered, in line; what started is owed what it comes to, and what waits in the
-- queue gets the closed connection
pub record IsCutShort (before : List Action) (f : Core) (w : Work) (parting : Bool) (ids : List ℕ) (row queue : List Settled) (started : List ℕ) : Type 0 where
  pub holds : Parts before f w parting (requests_in (settled_ids (row ++ queue))) started
  pub over : w.conn.life ≡ Ended error.Closed
  pub line : IsInLine w.conn.requests no_link w.conn.admitted w.conn.waiting (requests_in (settled_ids (row ++ queue)))
  pub early : AreInTime (book (trace_of_acts before f w.acts)).story w.conn.requests
  pub owes : AllByRecursion (IsOwed (owner_of w.conn.requests) ((book (trace_of_acts before f w.acts)).link f.single.link)) row
  pub waits : AllByRecursion (IsClosedOf ids) queue
  pub unstarted : (n : ℕ) → IsIn n ids → IsIn n started → ⊥

-- so is a link that must end; where a fault ends it that somebody hears, this is still to be told
pub cut_holds : (before : List Action) (f : Core) (w : Work) (row queue : List Settled) (why : Ending) (parting : Bool) (started : List ℕ) → Holds before f w [] started → has_ended w.conn.life ≡ false → owed_by why ≡ Some (outcome.Fault error.Closed) → failure_of why ≡ None → (w.conn.opened ≡ true) ⊎ (f.shut ≡ true)
    → (hears_pushes w.conn.hears ≡ true → parting ≡ false → is_fault why ≡ false)
    → (let b = book (trace_of_acts before f w.acts) in let l = b.link f.single.link in
    (ending l ≡ Some why) × SettlesAll (owner_of w.conn.requests) (noted l (ends (b.turns - 1))) (link_in w.conn.life) row queue)
    → IsCutShort before f (cut_short w) parting (queue_ids (link_in w.conn.life).queue) row queue started
cut_holds before f w row queue why parting started h alive closes opened goes mild must =
    let b = book (trace_of_acts before f w.acts) in
    let t = seen f w.acts w.conn [] started in
    let link = link_in w.conn.life in
    let l = b.link f.single.link in
    let lasts = unfailed_lasts l.last why (outcome.Fault error.Closed) opened closes in
    let over : IsOver (noted l (ends (b.turns - 1))).end f.shut w.conn.opened = record {
      failed = λ new awake. absurd (elim goes [ inl was ↦ not_both w.conn.opened new was | inr shut ↦ not_both f.shut awake shut ]);
      unfailed = λ was. ap failure_of (ends_so l why lasts must.0) ∙ opened;
    } in
    let ns = requests_in (settled_ids (row ++ queue)) in
    let ids : ns ≡ requests_in (wanted link.row) ++ awaited_ids link.queue =
    ap requests_in must.1.ids ∙ requests_in-append (wanted link.row) (awaited_ids link.queue) ∙ ap (λ ms. requests_in (wanted link.row) ++ ms) (awaited_asked b t h.tied) in
    let link_is : (book (trace_of_acts before f (cut_short w).acts)).link f.single.link ≡ noted (b.link f.single.link) (ends (b.turns - 1)) = ap (λ (x : Book). x.link f.single.link) (book_of_more before f w.acts act.Close) ∙ mine_noted (b.link f.single.link) f.single.link (ends (b.turns - 1)) in
    record {
      holds = sound_told before f w.acts act.Close (record w.conn { life = Ended error.Closed }) [] parting ns started h.stands (may_close b t why h.tied refl refl alive must.0)
          (close_tied b t b.created b.failed t.told why error.Closed parting ns ids must.0 closes (λ e fails. absurd (no_failure e (sym opened ∙ fails))) mild lasts over alive (λ some. some) h.tied h.tied.creation);
      over = refl;
      line = close_in_line w.conn.requests link w.conn.admitted w.conn.waiting ns ids (in_line b t h.tied alive);
      early = λ p o. ap (λ (x : Book). (x.story (name_at w.conn.requests p)).overdue) (book_of_more before f w.acts act.Close) ∙ are_in_time b t h.tied refl p o;
      owes = subst (λ (x : Ledger). AllByRecursion (IsOwed (owner_of w.conn.requests) x) row) (sym link_is) must.1.started;
      waits = must.1.waits;
      unstarted = λ n i. later_unstarted b t n h.tied (in_left n (queue_ids link.queue) (kept_ids w.conn.admitted w.conn.waiting) i);
    }

-- all that it has settled is answered, and then all that wait
pub all_ends : (before : List Action) (f : Core) (w : Work) (ids : List ℕ) (row queue : List Settled) (started : List ℕ) → IsCutShort before f w false ids row queue started → HasEnded before f (all_answered w (row ++ queue)) error.Closed started
all_ends before f w ids row queue started h =
    let out = row ++ queue in
    let ns = requests_in (settled_ids out) in
    let c = book (trace_of_acts before f w.acts) in
    let s = seen f w.acts w.conn ns started in
    let tied : Tied c s = h.holds.tied in
    let line = subst (λ (x : Life). IsInLine w.conn.requests (link_in x) w.conn.admitted w.conn.waiting ns) (sym h.over) h.line in
    let down = subst (λ (x : Life). TiedLife (c.link f.single.link) c.created x) h.over tied.life in
    let owed_end = owed_asked c.shut (c.link f.single.link) down.3 ∙ down.1 in
    let due_row = due_each c s row tied h.early h.owes in
    let due_queue = queue_due c s ids queue tied h.early owed_end h.unstarted h.waits in
    let due = all_append (IsDue (owed c) (name_at w.conn.requests) (is_open_at w.conn.requests)) row queue due_row due_queue in
    let later = all_waiting_due c s error.Closed tied h.early owed_end in
    let come = replied_each w.conn.renewal out in
    let kept = replied_keeps w.conn.renewal out in
    let own : own_each w out ≡ renewing w come = own_over w out error.Closed h.over in
    let come_tied : Tied c (record s { renewal = come }) = renewal_over c s come error.Closed kept.0 kept.1 kept.2 kept.3 h.over tied in
    let held : Holds before f (renewing w come) ns started = record { stands = h.holds.stands; tied = come_tied } in
    let a = answering before f (renewing w come) (ns ++ []) started (subst (λ ms. Holds before f (renewing w come) ms started) (sym (append-nil ns)) held) (subst (IsInLine w.conn.requests (link_in w.conn.life) w.conn.admitted w.conn.waiting) (sym (append-nil ns)) line) (λ up goes. absurd (not_both (has_ended w.conn.life) up (ap has_ended h.over))) in
    let u = settled_each w out in
    let k = settled_leaves w out in
    let answers = subst (λ (x : Work). IsAnswering before f (c.link f.single.link) (owed c) (name_at w.conn.requests) (is_open_at w.conn.requests) x (ns ++ []) started) (sym own) a in
    let settled = settled_holds before f (c.link f.single.link) (owed c) (name_at w.conn.requests) (is_open_at w.conn.requests) w out [] started due answers in
    rest_ends before f (c.link f.single.link) (owed c) (name_at w.conn.requests) (is_open_at w.conn.requests) u (Ended error.Closed) error.Closed started (k.life ∙ h.over) refl
    (record {
      place = subst (AllByRecursion (IsDueError (owed c) (name_at w.conn.requests) (is_open_at w.conn.requests) error.Closed)) (sym k.admitted) later.place;
      connection = subst (AllByRecursion (IsDueError (owed c) (name_at w.conn.requests) (is_open_at w.conn.requests) error.Closed)) (sym k.waiting) later.connection;
    }) (λ up goes. not_both (has_ended u.conn.life) up (ap has_ended (k.life ∙ h.over))) settled

-- so a link ends that need not be told to have
pub ended_holds : (before : List Action) (f : Core) (w : Work) (row queue : List Settled) (why : Ending) (started : List ℕ) → Holds before f w [] started → has_ended w.conn.life ≡ false → owed_by why ≡ Some (outcome.Fault error.Closed) → failure_of why ≡ None → is_fault why ≡ false → f.shut ≡ true
    → (let b = book (trace_of_acts before f w.acts) in let l = b.link f.single.link in
    (ending l ≡ Some why) × SettlesAll (owner_of w.conn.requests) (noted l (ends (b.turns - 1))) (link_in w.conn.life) row queue)
    → HasEnded before f (ended w (row ++ queue)) error.Closed started
ended_holds before f w row queue why started h alive closes opened mild shut must =
    all_ends before f (cut_short w) (queue_ids (link_in w.conn.life).queue) row queue started (cut_holds before f w row queue why false started h alive closes opened (inr shut) (λ heard done. mild) must)

-- that it was closed by a fault is told, where somebody hears it
parts_may : (b : Book) (t : TurnState) (e : RedisError) → Tied b t → t.life ≡ Ended e → hears_pushes t.hears ≡ true → t.parting ≡ true → is_cut (b.link t.link).end ≡ true → MayPart b t.link (record { kind = Disconnection; parts = [] })
parts_may b t e h over hears due cut =
    let a = after_end b t h (ap has_ended over) in
    record {
      heard = ap hears_pushes h.notices.heard_is ∙ hears;
      ended = cut;
      once = h.notices.due due;
      bare = refl;
      in_order = λ m less other. (h.others m (λ same. absurd (omega arith))).parts hears other;
      closed = a.0;
      answered = a.1;
      sourced = sources_asked b t h;
    }

-- so all are answered then
pub parted_holds : (before : List Action) (f : Core) (w : Work) (ids : List ℕ) (row queue : List Settled) (started : List ℕ) → hears_pushes w.conn.hears ≡ true → is_cut ((book (trace_of_acts before f w.acts)).link f.single.link).end ≡ true → IsCutShort before f w true ids row queue started
    → IsCutShort before f (noticed w (notice.Push (record { kind = Disconnection; parts = [] }))) false ids row queue started
parted_holds before f w ids row queue started hears cut h =
    let info : PushInfo = record { kind = Disconnection; parts = [] } in
    let b = book (trace_of_acts before f w.acts) in
    let ns = requests_in (settled_ids (row ++ queue)) in
    let t = record (seen f w.acts w.conn ns started) { parting = true } in
    let l = b.link f.single.link in
    let after = record l { parted = true } in
    let link_is : (book (trace_of_acts before f (noticed w (notice.Push info)).acts)).link f.single.link ≡ after = ap (λ (x : Book). x.link f.single.link) (book_of_more before f w.acts (act.Push info)) ∙ mine_noted l f.single.link parts in
    record {
      holds = sound_told before f w.acts (act.Push info) w.conn [] false ns started h.holds.stands (parts_may b t error.Closed h.holds.tied h.over hears refl cut)
          (push_tied b t info l.told true [] false refl (record {
            heard_is = h.holds.tied.notices.heard_is;
            hearing_is = h.holds.tied.notices.hearing_is;
            within = h.holds.tied.notices.within;
            untold_is = h.holds.tied.notices.untold_is;
            parts = λ heard done was. refl;
            alive = λ none. absurd (not_both (is_cut l.end) (ap is_cut none) cut);
            due = λ no_more. cc;
            tame = h.holds.tied.notices.tame;
          }) h.holds.tied);
      over = h.over;
      line = h.line;
      early = λ p o. ap (λ (x : Book). (x.story (name_at w.conn.requests p)).overdue) (book_of_more before f w.acts (act.Push info)) ∙ h.early p o;
      owes = subst (λ (x : Ledger). AllByRecursion (IsOwed (owner_of w.conn.requests) x) row) (sym link_is) (owed_told (owner_of w.conn.requests) l l.told true row h.owes);
      waits = h.waits;
      unstarted = h.unstarted;
    }

-- and one that a fault ends, which is told where somebody hears it
pub faulted_holds : (before : List Action) (f : Core) (w : Work) (row queue : List Settled) (fault : LinkFault) (started : List ℕ) → Holds before f w [] started → has_ended w.conn.life ≡ false → w.conn.opened ≡ true
    → (let b = book (trace_of_acts before f w.acts) in let l = b.link f.single.link in
    (ending l ≡ Some (by_fault fault)) × SettlesAll (owner_of w.conn.requests) (noted l (ends (b.turns - 1))) (link_in w.conn.life) row queue)
    → HasEnded before f (all_answered (parted (cut_short w)) (row ++ queue)) error.Closed started
faulted_holds before f w row queue fault started h alive opened must =
    let b = book (trace_of_acts before f w.acts) in
    let l = b.link f.single.link in
    let v = cut_short w in
    let ids = queue_ids (link_in w.conn.life).queue in
    let cut : is_cut ((book (trace_of_acts before f v.acts)).link f.single.link).end ≡ true =
    ap (λ (x : Book). is_cut (x.link f.single.link).end) (book_of_more before f w.acts act.Close) ∙ ap (λ (x : Ledger). is_cut x.end) (mine_noted l f.single.link (ends (b.turns - 1))) ∙ ap is_fault (ends_so l (by_fault fault) (unfailed_lasts l.last (by_fault fault) (outcome.Fault error.Closed) refl refl) must.0) in
    chosen (λ (x : Work). HasEnded before f (all_answered x (row ++ queue)) error.Closed started) (hears_pushes w.conn.hears) (noticed v (notice.Push (record { kind = Disconnection; parts = [] }))) v
    (λ t.
    all_ends before f (noticed v (notice.Push (record { kind = Disconnection; parts = [] }))) ids row queue started
    (parted_holds before f v ids row queue started t cut (cut_holds before f w row queue (by_fault fault) true started h alive refl refl (inl opened) (λ heard done. cc) must)))
    (λ n. all_ends before f v ids row queue started (cut_holds before f w row queue (by_fault fault) false started h alive refl refl (inl opened) (λ heard done. absurd (not_both (hears_pushes w.conn.hears) n heard)) must))

-- so the event has had its effect
pub ended_applied : (before : List Action) (f : Core) (w : Work) (e : RedisError) (started : List ℕ) → f.turns ≢ 0 → w.conn.moved ≡ [] → HasEnded before f w e started → HasApplied before (with_work (record { core = f; acts = [] }) w) started
ended_applied before f w e started began none_moved h = record {
  sound = h.holds;
  ended = (after_end (book (trace_of_acts before f w.acts)) (seen f w.acts w.conn [] started) h.holds.tied (ap has_ended h.over)).0;
  began = began;
  moved = none_moved;
  fit = record {
    wanting = λ link is. (let no : Ended e ≡ Wanting link = sym h.over ∙ is in cc);
    setup = λ link greeting is. (let no : Ended e ≡ SettingUp link greeting = sym h.over ∙ is in cc);
    link = λ link is. (let no : Ended e ≡ Ready link = sym h.over ∙ is in cc);
    none = λ n. h.none_admitted;
  };
  hushed = λ shut. subst (λ (x : Life). IsStopped x w.conn.waiting) (sym h.over) tt;
}
