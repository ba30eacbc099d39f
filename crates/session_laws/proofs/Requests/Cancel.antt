-- The caller of a submission has gone.
use Rattle.std.proofs.lemmas.List.{append-nil}
use Rattle.std.proofs.Common.{◌≡◌, ◌≢◌, inl, inr, ℕ, suc, ◌+◌, ◌<◌, ◌==◌, Bool, true, false, ◌||◌, List, [], ◌∷◌, ◌++◌, length, Option, Some, None, slice_get, refl, sym, ap, ◌∙◌, subst, arith}
use Rattle.std.specs.List.{AllByRecursion}
use Rattle.containers.proofs.Choices.{both_left, chosen, left_if, taken_if, eq_from, eq_test, not_both, or_left}
use Rattle.driver_model.specs.declared.hearing.Hearing.{Hearing}
use Rattle.driver_model.specs.declared.action.Action.{Action}
use Rattle.connection_info.specs.declared.address.RedisConnectionInfo.{RedisConnectionInfo}
use Rattle.driver_model.specs.declared.event.EventKind.TheVariants as event
use Rattle.driver_model.specs.declared.outcome.Outcome.TheVariants as outcome
use Rattle.driver_model.specs.News.{News, news_of, silence}
use Rattle.driver_model.specs.declared.event.EventKind.{EventKind}
use Rattle.link_core.specs.declared.message.Queued.{Queued}
use Rattle.link_core.specs.Link.{LinkState, cancelled}
use Rattle.link_core.specs.Row.{silenced}
use Rattle.link_core.specs.Waiting.{is_wanted, without}
use Rattle.link_laws.specs.Settles.{wanted, awaited_ids}
use Rattle.link_laws.proofs.TiedLink.{told_tied}
use Rattle.mux_conn.specs.declared.connection.MultiplexedConnection.{MultiplexedConnection}
use Rattle.mux_conn.specs.declared.life.Life.{Life}
use Rattle.mux_conn.specs.declared.life.Life.TheVariants.{Resting, Dialing, Wanting, SettingUp, Ready, Ended}
use Rattle.mux_conn.specs.declared.request.Pending.{Pending}
use Rattle.mux_conn.specs.declared.request.Progress.TheVariants as progress
use Rattle.mux_conn.specs.declared.request.Request.{Request}
use Rattle.mux_conn.specs.declared.request.Waiting.{Waiting}
use Rattle.mux_conn.specs.Requests.{is_open as is_open_progress, is_open_at, name_at, permits_at, with_permits, given_back, closed as closed_conn}
use Rattle.mux_conn.specs.Effects.{cancelled_in}
use Rattle.single_session.specs.declared.core_state.Core.{Core}
use Rattle.single_session.specs.Turn.{with_work, heard, is_shutdown, left_by, effect, counted, is_bad}
use Rattle.legal_trace.specs.Ledger.{ending, hears, noted, Heard, End}
use Rattle.legal_trace.specs.Story.{Story, is_open, is_told, left}
use Rattle.legal_trace.specs.Book.{Book, after_event, book, entered, if_own, shuts, submitted_by, timeout_after, kind_in, has_generations}
use Rattle.conn_laws.proofs.Requests.Rounded.{early_closed}
use Rattle.session_laws.proofs.Requests.Rounded.{rounds_closed}
use Rattle.conn_laws.proofs.Ties.Aside.{aside_silent}
use Rattle.conn_laws.proofs.Internal.Renewals.{renewal_alike}
use Rattle.conn_laws.proofs.Ties.Numbers.{IsIn, in_left, in_right, in_either, Rising, rising_in, rising_right, rising_tail, requests_in, request_in, request_of, request_other, is_own}
use Rattle.conn_laws.proofs.Links.Server.{hearing_at}
use Rattle.conn_laws.proofs.Ties.Tied.{carried, no_link, link_in, queue_ids, whole_link, IsQueued, AreQueued, TiedStory, TiedNames, TiedPermits, TiedLines, IsAside, has_ended, TiedRounds, TiedNotices}
use Rattle.session_laws.proofs.Ties.Tied.{inner, TiedNumbers, Tied, HasCourse}
use Rattle.session_laws.proofs.Ties.States.{Between, HasApplied}
use Rattle.conn_laws.proofs.Ties.Names.{name_within, open_within, name_of_some, owners_with, names_with, with_then}
use Rattle.conn_laws.proofs.Changes.Requests.{progress_count as length_with}
use Rattle.session_laws.proofs.Ties.Names.{request_not}
use Rattle.conn_laws.proofs.Ties.InLine.{row_ids, kept_ids}
use Rattle.conn_laws.proofs.Ties.Behind.{open_untold}
use Rattle.conn_laws.proofs.Ties.Owes.{answered_closed}
use Rattle.session_laws.proofs.Ties.Owes.{request_story, row_in_line}
use Rattle.legal_trace.specs.Legal.{NoneEnds}
use Rattle.conn_laws.proofs.Requests.Closing.{Closes, kept_other, IsUntried}
use Rattle.session_laws.proofs.Requests.Closing.{closed_other, late_closed, with_closed, story_closed, tries_closed, packs_closed, queued_other, queue_closed, waits_closed, told_closed}
use Rattle.session_laws.proofs.Requests.Settle.{seen}
use Rattle.session_laws.proofs.Turn.Announce.{aims_on, turn_of, turned, uses_on, time_still}
use Rattle.session_laws.proofs.Ties.Kept.{tied_by}
use Rattle.conn_laws.proofs.Ties.Permits.{permits_closed}
use Rattle.conn_laws.proofs.Turn.Heard.{told_life, silent_no_end}
use Rattle.session_laws.proofs.Turn.Heard.{silent_applied, still_none, tame_between, hushed_still}
use Rattle.conn_laws.proofs.Links.Said.{carried_tied, setup_on, IsTame, renoticed}
use Rattle.session_laws.proofs.Managers.Comes.{course_later}
use Rattle.single_session.specs.declared.generations.Generations.{Generations}
use Rattle.conn_laws.proofs.Internal.Repeats.{repeat_alike}
use Rattle.conn_laws.proofs.Requests.Cancel.{early_cancelled, leave_closes, leave_frees, leave_link, left_creds, left_fit, left_hearing, left_life, left_link, left_others, left_renewal, left_repeat, left_setup, left_stopped, queued_apart, serves_cancelled, silenced_entries, silenced_wanted, still_dials, still_rests, was_ready, was_setting, was_wanting, without_awaited, without_in, without_others, without_rises}

-- a queue without a message
--
-- the messages of the others are as they were
queue_left : (table : List (Option Pending)) (story : ℕ → Story) (requests : List Request) (p : ℕ) (closed : ℕ → Story) (queue : List Queued) (ys : List ℕ) (lo : ℕ) → TiedNames table requests → p < length requests
    → is_open (story (name_at requests p)) ≡ true → Rising lo (queue_ids queue ++ ys) (length requests) → ((n : ℕ) → Closes (story n) (closed n)) → AllByRecursion (IsQueued story requests) queue
    → AllByRecursion (IsQueued (with_closed story requests p closed) (with_permits requests p progress.Closed 0)) (without queue p)
queue_left table story requests p closed [] ys lo names l asked r c all = tt
queue_left table story requests p closed (x ∷ xs) ys lo names l asked r c all =
    let within : (n : ℕ) → IsIn n (queue_ids (x ∷ xs)) → n < length requests = λ n i. (let k = rising_in lo (queue_ids (x ∷ xs) ++ ys) (length requests) n r (in_left n (queue_ids (x ∷ xs)) ys i) in k.1) in
    chosen (AllByRecursion (IsQueued (with_closed story requests p closed) (with_permits requests p progress.Closed 0))) (is_wanted p x) xs (x ∷ without xs p)
    (λ t.
    let same = eq_from x.id p (both_left (x.id == p) x.awaited t) in
    queue_closed table story requests p closed xs names l (λ n i. within n (inr i))
    (λ i. let k = rising_in (suc x.id) (queue_ids xs ++ ys) (length requests) p r.1 (in_left p (queue_ids xs) ys i) in omega (arith, k.0, same)) c all.1)
    (λ f. (
      queued_other table story requests p closed x names l (within x.id (inl refl)) (queued_apart story requests p x asked f all.0) c all.0,
      queue_left table story requests p closed xs ys (suc x.id) names l asked r.1 c all.1,
    ))

-- the lines of the others
left_lines : (table : List (Option Pending)) (story : ℕ → Story) (requests : List Request) (link : LinkState) (waiting admitted : List Waiting) (p : ℕ) (started : List ℕ) (closed : ℕ → Story) → TiedNames table requests → p < length requests
    → is_own p ≡ false → is_open (story (name_at requests p)) ≡ true → ((n : ℕ) → Closes (story n) (closed n)) → Rising 0 (requests_in (row_ids link.row) ++ (queue_ids link.queue ++ kept_ids admitted waiting)) (length requests) → TiedLines story requests link waiting admitted [] started
    → TiedLines (with_closed story requests p closed) (with_permits requests p progress.Closed 0) (cancelled link p) waiting admitted [] started
left_lines table story requests link waiting admitted p started closed names l other asked c r h =
    let rows = requests_in (wanted link.row) in
    let silent_rows = requests_in (wanted (silenced link.row p)) in
    let queue = queue_ids link.queue in
    let kept = kept_ids admitted waiting in
    record {
      line = subst (Rising 0 (requests_in started ++ (queue_ids (without link.queue p) ++ kept))) (sym (length_with requests p progress.Closed 0))
          (rising_tail 0 (requests_in started) (queue ++ kept) (queue_ids (without link.queue p) ++ kept) (length requests) (λ low s. without_rises link.queue kept p low (length requests) s) h.line);
      queued = queue_left table story requests p closed link.queue kept 0 names l asked (rising_right 0 (requests_in started) (queue ++ kept) (length requests) h.line) c h.queued;
      entries = silenced_entries requests p 0 (length requests) link.row (queue ++ kept) other r h.entries;
      packs = packs_closed story requests p closed waiting c h.packs;
      packed_in = packs_closed story requests p closed admitted c h.packed_in;
      there = λ q e.
          let k = with_then is_open_progress requests p q progress.Closed 0 refl l e in
          elim (h.there q k.1) [
            | inl i ↦ elim (in_either q rows (awaited_ids link.queue) i) [
              | inl j ↦ inl (in_left q silent_rows (awaited_ids (without link.queue p)) (request_in q (wanted (silenced link.row p)) (request_other q (wanted link.row) j) (silenced_wanted link.row p q k.0 (request_of q (wanted link.row) j))))
              | inr j ↦ inl (in_right q silent_rows (awaited_ids (without link.queue p)) (without_awaited link.queue p q k.0 j))
            ]
            | inr w ↦ inr (kept_other requests p q progress.Closed 0 waiting admitted k.0 w)
          ];
    }

-- by the life of the link
--
-- it has come as far, and so it has where everything is shut down later
pub left_course : (life : Life) (p : ℕ) (is_last : Bool) (end : Option End) (links link : ℕ) (shut next : Bool) (manager : Option Generations) (last opened : Bool) (info address : RedisConnectionInfo) → (next ≡ false → shut ≡ false) → HasCourse is_last end links link shut manager last opened info address life
    → HasCourse is_last end links link next manager last opened info address (cancelled_in life p)
left_course Resting p is_last end links link shut next manager last opened info address later h = h
left_course Dialing p is_last end links link shut next manager last opened info address later h = h
left_course (Wanting state) p is_last end links link shut next manager last opened info address later h = h
left_course (SettingUp state greeting) p is_last end links link shut next manager last opened info address later h = h
left_course (Ready state) p is_last end links link shut next manager last opened info address later h = h
left_course (Ended e) p is_last end links link shut next manager last opened info address later h = course_later (Ended e) is_last end links link shut next manager last opened info address later h

pub left_notices : {heard mine : Hearing} {notices : List Heard} {told : ℕ} {end : Option End} {parted strange reading : Bool} {untold : List Heard} {parting : Bool} (life : Life) (p : ℕ) (hearing : Hearing) → TiedNotices heard mine (hearing_at life mine hearing) notices told end parted strange reading untold parting
    → TiedNotices heard mine (hearing_at (cancelled_in life p) mine hearing) notices told end parted strange reading untold parting
left_notices {heard = heard} {mine = mine} {notices = notices} {told = told} {end = end} {parted = parted} {strange = strange} {reading = reading} {untold = untold} {parting = parting} life p hearing h =
    subst (λ (x : Hearing). TiedNotices heard mine x notices told end parted strange reading untold parting) (sym (left_hearing life p mine hearing)) h

-- the lines of the others, by the life of the link
left_lines_in : (table : List (Option Pending)) (story : ℕ → Story) (requests : List Request) (life : Life) (waiting admitted : List Waiting) (p : ℕ) (started : List ℕ) (closed : ℕ → Story) → TiedNames table requests → p < length requests
    → is_own p ≡ false → is_open (story (name_at requests p)) ≡ true → ((n : ℕ) → Closes (story n) (closed n))
    → (has_ended life ≡ false → Rising 0 (requests_in (row_ids (link_in life).row) ++ (queue_ids (link_in life).queue ++ kept_ids admitted waiting)) (length requests)) → TiedLines story requests (link_in life) waiting admitted [] started
    → TiedLines (with_closed story requests p closed) (with_permits requests p progress.Closed 0) (link_in (cancelled_in life p)) waiting admitted [] started
left_lines_in table story requests life waiting admitted p started closed names l other asked c r h = by_life life r h
  where
    -- a link without messages stays as it is
    bare : TiedLines story requests no_link waiting admitted [] started → TiedLines (with_closed story requests p closed) (with_permits requests p progress.Closed 0) no_link waiting admitted [] started
    bare h =
        let k = left_lines table story requests no_link waiting admitted p started closed names l other asked c (rising_right 0 (requests_in started) (kept_ids admitted waiting) (length requests) h.line) h in
        record { line = k.line; queued = k.queued; entries = k.entries; packs = k.packs; packed_in = k.packed_in; there = k.there }

    by_life : (x : Life) → (has_ended x ≡ false → Rising 0 (requests_in (row_ids (link_in x).row) ++ (queue_ids (link_in x).queue ++ kept_ids admitted waiting)) (length requests)) → TiedLines story requests (link_in x) waiting admitted [] started
        → TiedLines (with_closed story requests p closed) (with_permits requests p progress.Closed 0) (link_in (cancelled_in x p)) waiting admitted [] started
    by_life (Ready link) r h = left_lines table story requests link waiting admitted p started closed names l other asked c (r refl) h
    by_life Resting r h = bare h
    by_life Dialing r h = bare h
    by_life (Wanting link) r h = bare h
    by_life (SettingUp link greeting) r h = bare h
    by_life (Ended e) r h = bare h

-- who was told is none that leaves, and is in the queue still
left_told : (story : ℕ → Story) (requests : List Request) (number : ℕ) (life : Life) (p : ℕ) → is_open (story (name_at requests p)) ≡ true → (has_ended life ≡ false → AreQueued story requests number (link_in life))
    → has_ended (cancelled_in life p) ≡ false → AreQueued (with_closed story requests p (λ n. left (story n))) (with_permits requests p progress.Closed 0) number (link_in (cancelled_in life p))
left_told story requests number life p asked h = by_life life h
  where
    own : (let n = name_at requests p in IsUntried (left (story n)) → IsUntried (story n))
    own = let s = story (name_at requests p) in chosen (λ (x : Story). IsUntried x → IsUntried s) (is_open s) (record s { cancelled = true; permits = 0; waiting = None }) s (λ t u. (u.0, u.1)) (λ f u. u)

    other : (q : ℕ) → is_told (story (name_at requests q)) ≡ true → p ≢ q
    other q is same = not_both (is_told (story (name_at requests q))) (subst (λ n. is_told (story (name_at requests n)) ≡ false) same (open_untold (story (name_at requests p)) asked)) is

    by_life : (x : Life) → (has_ended x ≡ false → AreQueued story requests number (link_in x)) → has_ended (cancelled_in x p) ≡ false → AreQueued (with_closed story requests p (λ n. left (story n))) (with_permits requests p progress.Closed 0) number (link_in (cancelled_in x p))
    by_life (Ready link) g n = told_closed story requests number p (λ m. left (story m)) link (cancelled link p) own (λ n. leave_link (story n)) (λ q is i. without_others link.queue p q (other q is) i) (λ q i. without_in link.queue p q i) (g refl)
    by_life Resting g n = told_closed story requests number p (λ m. left (story m)) no_link no_link own (λ n. leave_link (story n)) (λ q is i. i) (λ q i. i) (g refl)
    by_life Dialing g n = told_closed story requests number p (λ m. left (story m)) no_link no_link own (λ n. leave_link (story n)) (λ q is i. i) (λ q i. i) (g refl)
    by_life (Wanting link) g n = told_closed story requests number p (λ m. left (story m)) no_link no_link own (λ n. leave_link (story n)) (λ q is i. i) (λ q i. i) (g refl)
    by_life (SettingUp link greeting) g n = told_closed story requests number p (λ m. left (story m)) no_link no_link own (λ n. leave_link (story n)) (λ q is i. i) (λ q i. i) (g refl)
    by_life (Ended e) g n = cc

-- the turn
--
-- the numbers of a silent turn
--
-- with as many submissions as before
pub none_more : (n : ℕ) → n ≡ n + 0
none_more n = omega arith

-- an event that nobody hears, which hands nothing in
pub record IsSilent (b : Book) (c : Core) (kind : EventKind) (timeout : Option ℕ) : Type 0 where
  pub silent : (m : ℕ) → news_of b.timers b.sources m kind ≡ silence
  pub none : submitted_by kind ≡ 0
  pub time : timeout_after (kind_in b.config) b.timeout kind ≡ timeout
  pub shut : (b.shut || shuts kind) ≡ (c.shut || is_shutdown kind)

-- the core of its turn
abbrev pub silent_core : Core → EventKind → Option ℕ → Core
silent_core c kind timeout = record (turned c kind) { timeout = timeout }

-- its numbers are those of the book, whatever becomes of the connection
pub silent_numbers : (b : Book) (c : Core) (started : List ℕ) (word : ℕ) (kind : EventKind) (timeout : Option ℕ) (story : ℕ → Story) (free : ℕ) (life : Life) (requests : List Request) (pending : List ℕ) → IsSilent b c kind timeout → Tied b (inner c started)
    → TiedNumbers (record (entered b (turn_of c word kind)) { story = story }) (seen (silent_core c kind timeout) [] (record c.single.connection { free = free; life = life; requests = requests }) pending started)
silent_numbers b c started word kind timeout story free life requests pending q h = record {
  turns = ap (λ m. m + 1) h.numbers.turns;
  links = h.numbers.links;
  timers = h.numbers.timers ∙ sym (append-nil c.timers);
  sources = h.numbers.sources ∙ sym (append-nil c.sources);
  aims = aims_on c.timers c.single.link (length c.table) h.numbers.aims;
  timed = h.numbers.timed;
  submissions = (let e = h.numbers.submissions in let none = q.none in omega arith);
  timeout = q.time;
  shut = q.shut;
  within = h.numbers.within;
  few = h.numbers.few;
  settings = record { size_is = h.numbers.settings.size_is; bound_is = h.numbers.settings.bound_is; limit_is = h.numbers.settings.limit_is; some = h.numbers.settings.some; limited = h.numbers.settings.limited };
  kind_is = h.numbers.kind_is;
  quiet = h.numbers.quiet;
  comes_back = h.numbers.comes_back;
  lazy = h.numbers.lazy;
  current_is = h.numbers.current_is;
  speaks = h.numbers.speaks;
  address_is = h.numbers.address_is;
  wants = h.numbers.wants;
  alone = h.numbers.alone;
}

-- all other links stay aside
pub silent_others : {links created : ℕ} {heard : Hearing} {within : Option ℕ} (b : Book) (c : Core) (kind : EventKind) (timeout : Option ℕ) (m : ℕ) → IsSilent b c kind timeout → IsAside links m (b.link m) heard within created → IsAside links m (noted (b.link m) (hears c.turns (news_of b.timers b.sources m kind))) heard within created
silent_others {links = links} {created = created} {heard = heard} {within = within} b c kind timeout m q u = subst (λ (x : News). IsAside links m (noted (b.link m) (hears c.turns x)) heard within created) (sym (q.silent m)) (aside_silent (b.link m) c.turns u)

-- no link must end
pub silent_ends : (b : Book) (c : Core) (kind : EventKind) (timeout : Option ℕ) → IsSilent b c kind timeout → NoneEnds b → (m : ℕ) → ending (noted (b.link m) (hears c.turns (news_of b.timers b.sources m kind))) ≡ None
silent_ends b c kind timeout q none m = ap (λ (x : News). ending (noted (b.link m) (hears c.turns x))) (q.silent m) ∙ silent_no_end (b.link m) c.turns (none m)

-- where nothing else changes, the session is tied as it was
pub still_tied : (b : Book) (c : Core) (started : List ℕ) (word : ℕ) (kind : EventKind) (timeout : Option ℕ) → IsSilent b c kind timeout → ((m : ℕ) → after_event b m kind ≡ b.story m) → Tied b (inner c started) → IsTame (b.link c.single.link)
    → Tied (entered b (turn_of c word kind)) (seen (silent_core c kind timeout) [] c.single.connection [] started)
still_tied b c started word kind timeout q same h tame =
    let conn = c.single.connection in
    let ledger = b.link c.single.link in
    let now = entered b (turn_of c word kind) in
    let t = seen (silent_core c kind timeout) [] conn [] started in
    let stories : b.story ≡ now.story = λ i m. sym (same m) i in
    let heard : now.link c.single.link ≡ record ledger { heard = silence } = ap (λ (x : News). noted ledger (hears c.turns x)) (q.silent c.single.link) in
    subst (λ (story : ℕ → Story). Tied (record now { story = story }) t) stories
    (tied_by (record now { story = b.story }) t (record ledger { heard = silence }) heard (record {
      numbers = silent_numbers b c started word kind timeout b.story conn.free conn.life conn.requests [] q h;
      others = λ m other. silent_others b c kind timeout m q (h.others m other);
      notices = renoticed tame h.notices;
      life = told_life ledger b.created conn.life silence h.life;
      course = course_later conn.life ledger.last ledger.end c.links c.single.link c.shut (c.shut || is_shutdown kind) c.manager conn.last conn.opened conn.info conn.address (or_left c.shut (is_shutdown kind)) h.course;
      calm = λ up awake. refl;
      creds = h.creds;
      creation = h.creation;
      uses = uses_on c.sources c.single.link h.uses;
      renewal = renewal_alike ledger (record ledger { heard = silence }) conn.renewal conn.life refl refl refl h.renewal;
      repeat = repeat_alike ledger (record ledger { heard = silence }) b.tracked conn.renewal.within conn.again conn.life refl refl refl (λ e is. refl) h.repeat;
      setup = setup_on ledger ledger.asked ledger.up ledger.end ledger.taken ledger.offer ledger.rest silence conn.info started conn.life h.setup;
      link = λ alive. told_tied (carried conn.life conn.requests) ledger (whole_link conn.life) ledger.asked ledger.up silence (h.link alive);
      names = h.names;
      story = h.story;
      tries = record { owners = h.tries.owners; greeted = h.tries.greeted; shapes = h.tries.shapes; tried = h.tries.tried; untried = h.tries.untried };
      lines = h.lines;
      told = h.told;
      waits = h.waits;
      permits = subst (λ k. TiedPermits b.story k conn.requests c.single.link conn.limit conn.free []) (let none = q.none in omega arith) h.permits;
      rounds = h.rounds;
      early = h.early;
      late = h.late;
    }))

-- a leave is silent
leave_silent : (b : Book) (c : Core) (started n : ℕ) (line : List ℕ) → Tied b (inner c line) → IsSilent b c (event.Cancel n) c.timeout
leave_silent b c started n line h = record { silent = λ m. refl; none = refl; time = time_still (kind_in b.config) b.timeout (event.Cancel n) tt ∙ h.numbers.timeout; shut = ap (λ s. s || false) h.numbers.shut }

-- an open one has gone
gone_tied : (b : Book) (c : Core) (started : List ℕ) (word p n : ℕ) → Tied b (inner c started) → IsTame (b.link c.single.link) → is_open_at c.single.connection.requests p ≡ true → name_at c.single.connection.requests p ≡ n
    → Tied (entered b (turn_of c word (event.Cancel n))) (seen (turned c (event.Cancel n)) [] (record (closed_conn c.single.connection p) { life = cancelled_in c.single.connection.life p }) [] started)
gone_tied b c started word p n h tame o named =
    let conn = c.single.connection in
    let requests = with_permits conn.requests p progress.Closed 0 in
    let free = given_back conn.limit conn.free (permits_at conn.requests p) in
    let l = open_within conn.requests p o in
    let r = request_story b (inner c started) p h l in
    let asked = r.open_is ∙ o in
    let line = rising_right 0 (requests_in started) (queue_ids (link_in conn.life).queue ++ kept_ids conn.admitted conn.waiting) (length conn.requests) h.lines.line in
    let closed : ℕ → Story = λ m. left (b.story m) in
    let k : (m : ℕ) → Closes (b.story m) (closed m) = λ m. leave_closes (b.story m) in
    let own = name_at conn.requests p in
    let known : own < b.submissions = (let within = name_within c.table conn.requests p h.names l in let e = h.numbers.submissions in omega arith) in
    let after = with_closed b.story conn.requests p closed in
    let is : after own ≡ closed own = taken_if (own == own) (closed own) (b.story own) (eq_test own own refl) in
    let ledger = b.link c.single.link in
    subst (λ m. Tied (entered b (turn_of c word (event.Cancel m))) (seen (turned c (event.Cancel m)) [] (record (closed_conn conn p) { life = cancelled_in conn.life p }) [] started)) named
    (record {
      numbers = silent_numbers b c started word (event.Cancel own) c.timeout after free (cancelled_in conn.life p) requests [] (leave_silent b c word own started h) h;
      others = λ m other. aside_silent (b.link m) c.turns (h.others m other);
      notices = left_notices conn.life p ledger.hearing (renoticed tame h.notices);
      life = left_life ledger b.created conn.life p h.life;
      course = left_course conn.life p ledger.last ledger.end c.links c.single.link c.shut (c.shut || false) c.manager conn.last conn.opened conn.info conn.address (or_left c.shut false) h.course;
      calm = λ up awake. refl;
      creds = left_creds ledger.creds conn.renewal.wanted conn.life p h.creds;
      creation = h.creation;
      uses = uses_on c.sources c.single.link h.uses;
      renewal = left_renewal (record ledger { heard = silence }) conn.renewal conn.life p (renewal_alike ledger (record ledger { heard = silence }) conn.renewal conn.life refl refl refl h.renewal);
      repeat = left_repeat (record ledger { heard = silence }) b.tracked conn.renewal.within conn.again conn.life p (repeat_alike ledger (record ledger { heard = silence }) b.tracked conn.renewal.within conn.again conn.life refl refl refl (λ e is. refl) h.repeat);
      setup = left_setup ledger conn.info started conn.life p h.setup;
      link = λ alive. left_link requests ledger conn.life p (λ up. carried_tied conn.life conn.requests requests ledger (sym (owners_with conn.requests p progress.Closed 0)) (h.link up)) alive;
      names = names_with c.table conn.requests p progress.Closed 0 h.names;
      story = λ m. story_closed b.story c.table conn.requests c.single.link p closed m h.names l (leave_frees (b.story own) asked) (k m) (h.story m);
      tries = tries_closed (record ledger { heard = silence }) b.story conn.requests c.single.link p closed started k (record { owners = h.tries.owners; greeted = h.tries.greeted; shapes = h.tries.shapes; tried = h.tries.tried; untried = h.tries.untried });
      lines = left_lines_in c.table b.story conn.requests conn.life conn.waiting conn.admitted p started closed h.names l (request_not b (inner c started) p h l) asked k (λ up. row_in_line b (inner c started) h up) h.lines;
      told = left_told b.story conn.requests c.single.link conn.life p asked h.told;
      waits = waits_closed c.table b.story conn.requests p closed conn.again conn.life (cancelled_in conn.life p) conn.fresh conn.moved h.names l (still_rests conn.life p) (still_dials conn.life p) (was_wanting conn.life p) (was_setting conn.life p) (was_ready conn.life p) (left_others conn.requests conn.life (kept_ids conn.admitted conn.waiting) p 0 line) h.waits;
      permits = subst (λ m. TiedPermits after m requests c.single.link conn.limit free []) (none_more b.submissions)
          (permits_closed b.story after c.table b.submissions conn.requests c.single.link conn.limit conn.free [] p h.names l known (r.on o) r.permits_is (λ m other. closed_other b.story conn.requests p closed m other)
          (ap (λ (s : Story). s.permits) is ∙ leave_frees (b.story own) asked) (ap (λ (s : Story). s.link) is ∙ leave_link (b.story own) ∙ r.on o) h.permits);
      rounds = subst (λ x. TiedRounds (has_generations b) after requests x conn.fresh conn.rounds) (sym (serves_cancelled conn.life conn.again p)) (rounds_closed b.story conn.requests conn.fresh p closed l k h.rounds);
      early = early_cancelled requests conn.again conn.life p (early_closed conn.requests conn.again conn.life p l h.early);
      late = late_closed c.table b.story conn.requests p closed [] [] h.names l (λ q other i. i) h.late;
    })

-- one that isn't open leaves nothing
stays_left : (b : Book) (n : ℕ) → is_open (b.story n) ≡ false → (m : ℕ) → if_own (n == m) (left (b.story m)) (b.story m) ≡ b.story m
stays_left b n f m = chosen (λ (s : Story). s ≡ b.story m) (n == m) (left (b.story m)) (b.story m)
    (λ t. left_if (is_open (b.story m)) _ (b.story m) (ap (λ k. is_open (b.story k)) (sym (eq_from n m t)) ∙ f))
    (λ o. refl)

-- the caller goes
pub cancel_applied : (before : List Action) (c : Core) (started : List ℕ) (word n : ℕ) → Between before c started → is_bad c (event.Cancel n) ≡ false → HasApplied (before ++ turn_of c word (event.Cancel n) ∷ []) (effect (counted c) (event.Cancel n)) started
cancel_applied before c started word n h good = by_entry (slice_get c.table n) refl (h.sound.tied.story n)
  where
    b : Book
    b = book before

    still : is_open (b.story n) ≡ false → HasApplied (before ++ turn_of c word (event.Cancel n) ∷ []) (with_work (record { core = turned c (event.Cancel n); acts = [] }) (record { conn = c.single.connection; acts = [] })) started
    still f = silent_applied before c started word (event.Cancel n) (turned c (event.Cancel n)) c.single.connection h good (λ m. silent_no_end (b.link m) c.turns (still_none before c started h m)) (λ z. absurd (omega arith)) h.moved h.fit (hushed_still c (event.Cancel n) refl h.hushed)
        (still_tied b c started word (event.Cancel n) c.timeout (leave_silent b c word n started h.sound.tied) (stays_left b n f) h.sound.tied (tame_between before c started h))

    by_entry : (x : Option (Option Pending)) → slice_get c.table n ≡ x → TiedStory (b.story n) c.single.connection.requests c.single.link x → HasApplied (before ++ turn_of c word (event.Cancel n) ∷ []) (left_by (heard (counted c) (event.Cancel n)) x) started
    by_entry None e s = still (ap is_open s)
    by_entry (Some None) e s = still (answered_closed (b.story n) [] (outcome.Fault s.error) s.answered)
    by_entry (Some (Some p)) e s =
        let conn = c.single.connection in
        let k = h.sound.tied.names.kept n p e in
        let named = name_of_some conn.requests p.number k.0 k.1 ∙ k.2 in
        chosen (λ (x : MultiplexedConnection). HasApplied (before ++ turn_of c word (event.Cancel n) ∷ []) (with_work (record { core = turned c (event.Cancel n); acts = [] }) (record { conn = x; acts = [] })) started)
        (is_open_at conn.requests p.number) (record (closed_conn conn p.number) { life = cancelled_in conn.life p.number }) conn
        (λ t. silent_applied before c started word (event.Cancel n) (turned c (event.Cancel n)) (record (closed_conn conn p.number) { life = cancelled_in conn.life p.number }) h good
        (λ m. silent_no_end (b.link m) c.turns (still_none before c started h m)) (λ z. absurd (omega arith)) h.moved (left_fit conn (given_back conn.limit conn.free (permits_at conn.requests p.number)) (with_permits conn.requests p.number progress.Closed 0) conn.life p.number refl h.fit)
        (λ over. left_stopped conn.life p.number conn.waiting (hushed_still c (event.Cancel n) refl h.hushed over))
        (gone_tied b c started word p.number n h.sound.tied (tame_between before c started h) t named))
        (λ f. still (s.open_is ∙ f))
