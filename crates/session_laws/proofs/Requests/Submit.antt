-- A submission is handed in: it is answered at once, or it is the next request.
use Rattle.std.proofs.lemmas.List.{append-nil}
use Rattle.std.specs.Prelude.{max}
use Rattle.std.proofs.Common.{slice_get, ◌≤◌, ◌≡◌, ◌≢◌, ◌⊎◌, inl, inr, ℕ, ◌+◌, ◌<◌, ◌==◌, Bool, true, false, ◌||◌, ◌&&◌, not, List, [], ◌∷◌, ◌++◌, length, Option, Some, None, if◌then◌else◌, refl, sym, ap, ◌∙◌, subst, arith, length-append, ◌^◌}
use Rattle.containers.proofs.Places.{get_within}
use Rattle.containers.proofs.Choices.{by_test, taken_if, left_if, eq_from, eq_test, ne_from, ne_test, not_both, or_left}
use Rattle.redis_error.specs.declared.fault_kind.FaultKind.TheVariants as kinds
use Rattle.redis_error.specs.declared.redis_error.RedisError.{RedisError}
use Rattle.redis_error.specs.declared.redis_error.RedisError.TheVariants as error
use Rattle.driver_model.specs.declared.action.Action.TheVariants as action
use Rattle.driver_model.specs.declared.event.EventKind.TheVariants as event
use Rattle.driver_model.specs.declared.event.Submission.{Submission}
use Rattle.driver_model.specs.declared.outcome.Outcome.TheVariants as outcome
use Rattle.driver_model.specs.News.{silence}
use Rattle.driver_model.specs.Request.{packed_bytes, has_no_form}
use Rattle.link_laws.proofs.TiedLink.{told_tied}
use Rattle.mux_conn.specs.declared.request.Request.{Request}
use Rattle.mux_conn.specs.Requests.{is_open as is_open_progress, is_waiting, is_admitted, is_placed, if_there, is_unbegun}
use Rattle.mux_conn.specs.declared.request.Progress.{Progress}
use Rattle.single_session.specs.declared.core_state.Core.{Core}
use Rattle.legal_trace.specs.Ledger.{is_over, next_notice}
use Rattle.legal_trace.specs.Story.{Story, Try, blank_story, is_open, is_no_error, is_told, is_awaited, bytes_of, handed_in, answered, last_of}
use Rattle.legal_trace.specs.Book.{Book, entered, if_own, is_unspoken, kind_in}
use Rattle.legal_trace.specs.Owed.{owed, owed_to_try, owed_waiting}
use Rattle.legal_trace.specs.Legal.{IsOpen, link_of, NoneIsOwed, NoneEnds, MayAnswer, FailuresAreShown}
use Rattle.conn_laws.proofs.Requests.Rounded.{rounds_longer}
use Rattle.conn_laws.proofs.Ties.Aside.{aside_silent}
use Rattle.conn_laws.proofs.Internal.Renewals.{renewal_alike}
use Rattle.conn_laws.proofs.Ties.Numbers.{IsIn, in_left, in_right, Rising, rising_in, requests_in, request_in}
use Rattle.conn_laws.proofs.Ties.Tied.{carried, link_in, queue_ids, waiting_ids, whole_link, IsRefused, TiedStory}
use Rattle.session_laws.proofs.Ties.Tied.{inner, Tied, NoReconnectCause}
use Rattle.conn_laws.proofs.Ties.Names.{there_within, names_refused}
use Rattle.session_laws.proofs.Ties.Names.{submits_unwatched}
use Rattle.session_laws.proofs.Ties.Owes.{started_within, ends_told, notices_told}
use Rattle.conn_laws.proofs.Requests.Answer.{no_push}
use Rattle.session_laws.proofs.Requests.Answer.{owed_in}
use Rattle.session_laws.proofs.Requests.Settle.{seen}
use Rattle.session_laws.proofs.Turn.Announce.{aims_longer, aims_on, turn_of, turned, uses_on, time_still}
use Rattle.conn_laws.proofs.Turn.Heard.{told_life, silent_no_end}
use Rattle.conn_laws.proofs.Links.Said.{setup_on, IsTame, renoticed}
use Rattle.session_laws.proofs.Links.Said.{sources_asked}
use Rattle.conn_laws.proofs.Requests.Further.{get_beyond, no_longer, SameBefore, further_story, tries_longer, queue_longer, packs_longer, told_longer, IsNext, waits_longer, permits_longer, late_longer}
use Rattle.conn_laws.proofs.Ties.InLine.{kept_ids, awaited_in}
use Rattle.session_laws.proofs.Managers.Comes.{course_later}
use Rattle.conn_laws.proofs.Internal.Repeats.{repeat_alike, TiedRepeat}

-- the stories once it is handed in
abbrev pub stories_with : Book → Submission → ℕ → Story
stories_with b what n = if_own (b.submissions == n) (handed_in (b.story n) what b.shut (is_unspoken b what) (max 1 b.generation) b.current b.timeout) (b.story n)

-- any other story stays
stories_before : (b : Book) (what : Submission) (n : ℕ) → n ≢ b.submissions → stories_with b what n ≡ b.story n
stories_before b what n other = left_if (b.submissions == n) _ (b.story n) (ne_test b.submissions n (λ e. other (sym e)))

-- its own
abbrev pub new_story : Book → Submission → Story
new_story b what = handed_in blank_story what b.shut (is_unspoken b what) (max 1 b.generation) b.current b.timeout

-- the next submission has no story before
next_is_blank : (b : Book) (c : Core) (started : List ℕ) → Tied b (inner c started) → b.story (length c.table) ≡ blank_story
next_is_blank b c started h = subst (TiedStory (b.story (length c.table)) c.single.connection.requests c.single.link) (get_beyond c.table (length c.table) (omega arith)) (h.story (length c.table))

-- its story is that
pub story_is_new : (b : Book) (c : Core) (started : List ℕ) (what : Submission) → Tied b (inner c started) → stories_with b what (length c.table) ≡ new_story b what
story_is_new b c started what h =
    taken_if (b.submissions == length c.table) _ (b.story (length c.table)) (eq_test b.submissions (length c.table) h.numbers.submissions)
    ∙ ap (λ (s : Story). handed_in s what b.shut (is_unspoken b what) (max 1 b.generation) b.current b.timeout) (next_is_blank b c started h)

-- the others, by the table
pub others_before : (b : Book) (c : Core) (started : List ℕ) (what : Submission) → Tied b (inner c started) → SameBefore b.story (stories_with b what) (length c.table)
others_before b c started what h n other = stories_before b what n (λ e. other (e ∙ h.numbers.submissions))

-- what started is within
pub within_line : (requests : List Request) (started queue last : List ℕ) (p : ℕ) → Rising 0 (started ++ (queue ++ last)) (length requests) → IsIn p (started ++ (queue ++ last)) → p < length requests
within_line requests started queue last p r i = let k = rising_in 0 (started ++ (queue ++ last)) (length requests) p r i in k.1

-- it is answered at once
--
-- nothing more is shut
pub or_none : (a : Bool) → (a || false) ≡ a
or_none true = refl
or_none false = refl

-- what the others are owed stays
others_owed : (b : Book) (c : Core) (word : ℕ) (what : Submission) (m : ℕ) → m ≢ b.submissions → owed (entered b (turn_of c word (event.Submit what))) m ≡ owed b m
others_owed b c word what m other = ap (owed_in (entered b (turn_of c word (event.Submit what)))) (stories_before b what m other) ∙ same (b.story m)
  where
    by_try : (s : Story) (x : Option Try) → owed_to_try (entered b (turn_of c word (event.Submit what))) s x ≡ owed_to_try b s x
    by_try s None = ap (λ x. owed_waiting x (b.link s.link)) (or_none b.shut)
    by_try s (Some t) = refl

    same : (s : Story) → owed_in (entered b (turn_of c word (event.Submit what))) s ≡ owed_in b s
    same s = (λ i.
        if s.late then Some (outcome.Fault error.Closed)
        else if s.unspoken then Some (outcome.Fault error.Resp3Required)
        else if length (bytes_of s) == 0 then Some (outcome.Fault error.EmptyCommand)
        else if s.overdue then Some (outcome.Fault (error.Io kinds.TimedOut))
        else by_try s (last_of s.tries) i)

-- the error that it gets
abbrev pub IsErrorOf : Bool → Bool → Submission → RedisError → Type 0
IsErrorOf late unspoken what e =
    ((late ≡ true) × (e ≡ error.Closed))
    ⊎ (((late ≡ false) × (unspoken ≡ true) × (e ≡ error.Resp3Required))
    ⊎ ((late ≡ false) × (unspoken ≡ false) × ((length (packed_bytes what) == 0) ≡ true) × (e ≡ error.EmptyCommand)))

-- where nothing was shut down, it is no cause for the next generation
error_calm : (late unspoken : Bool) (what : Submission) (e : RedisError) → late ≡ false → IsErrorOf late unspoken what e → NoReconnectCause (e ∷ [])
error_calm late unspoken what e awake (inl h) = absurd (not_both late awake h.0)
error_calm late unspoken what e awake (inr (inl h)) = subst (λ (x : RedisError). NoReconnectCause (x ∷ [])) (sym h.2) refl
error_calm late unspoken what e awake (inr (inr h)) = subst (λ (x : RedisError). NoReconnectCause (x ∷ [])) (sym h.3) refl

-- what it is owed then
new_owed : (b now : Book) (what : Submission) (e : RedisError) → IsErrorOf b.shut (is_unspoken b what) what e → owed_in now (new_story b what) ≡ Some (outcome.Fault e)
new_owed b now what e (inl h) = taken_if b.shut (Some (outcome.Fault error.Closed)) _ h.0 ∙ ap (λ x. Some (outcome.Fault x)) (sym h.1)
new_owed b now what e (inr (inl h)) =
    left_if b.shut (Some (outcome.Fault error.Closed)) _ h.0 ∙ taken_if (is_unspoken b what) (Some (outcome.Fault error.Resp3Required)) _ h.1 ∙ ap (λ x. Some (outcome.Fault x)) (sym h.2)
new_owed b now what e (inr (inr h)) =
    left_if b.shut (Some (outcome.Fault error.Closed)) _ h.0 ∙ left_if (is_unspoken b what) (Some (outcome.Fault error.Resp3Required)) _ h.1
    ∙ taken_if (length (packed_bytes what) == 0) (Some (outcome.Fault error.EmptyCommand)) _ h.2 ∙ ap (λ x. Some (outcome.Fault x)) (sym h.3)

-- its outcome may stand
pub may_refuse : (b : Book) (c : Core) (started : List ℕ) (word : ℕ) (what : Submission) (e : RedisError) → Tied b (inner c started) → NoneIsOwed b → NoneEnds b → FailuresAreShown b → IsErrorOf b.shut (is_unspoken b what) what e → MayAnswer (entered b (turn_of c word (event.Submit what))) (length c.table) (outcome.Fault e)
may_refuse b c started word what e h none no_end shown why =
    let now = entered b (turn_of c word (event.Submit what)) in
    let size = length c.table in
    let own = story_is_new b c started what h in
    let others : (m : ℕ) → m ≢ size → IsOpen now m → owed now m ≡ None = λ m other asked.
    (let apart : m ≢ b.submissions = λ x. other (x ∙ h.numbers.submissions) in
    others_owed b c word what m apart ∙ none m (ap is_open (sym (stories_before b what m apart)) ∙ asked)) in
    record {
      asked = ap is_open own;
      owes = ap (owed_in now) own ∙ new_owed b now what e why;
      in_order = λ m less asked same. others m (λ x. absurd (omega arith)) asked;
      after_notices = λ heard push next. absurd (no_push (next_notice (b.link (now.story size).link)) push (notices_told b (inner c started) h refl (now.story size).link heard) next);
      after_closes = λ over. (
        (λ l. silent_no_end (b.link l) c.turns (no_end l)),
        (λ m asked alive. by_test (m == size) _
            (λ t. absurd (not_both (is_over (link_of now size)) (subst (λ k. is_over (link_of now k) ≡ false) (eq_from m size t) alive) over))
            (λ o. others m (ne_from m size o) asked)),
        shown,
        ends_told b (inner c started) h refl,
      );
      after_sources = λ over. sources_asked b (inner c started) h;
    }

-- the stories once it is answered
abbrev stories_refused : Book → ℕ → Submission → RedisError → ℕ → Story
stories_refused b size what e n = if_own (size == n) (answered (stories_with b what n) (outcome.Fault e)) (stories_with b what n)

-- any other story stays
refused_before : (b : Book) (c : Core) (started : List ℕ) (what : Submission) (e : RedisError) → Tied b (inner c started) → SameBefore b.story (stories_refused b (length c.table) what e) (length c.table)
refused_before b c started what e h n other = left_if (length c.table == n) _ (stories_with b what n) (ne_test (length c.table) n (λ x. other (sym x))) ∙ others_before b c started what h n other

-- its own is answered
refused_is : (b : Book) (c : Core) (started : List ℕ) (what : Submission) (e : RedisError) → Tied b (inner c started) → stories_refused b (length c.table) what e (length c.table) ≡ answered (new_story b what) (outcome.Fault e)
refused_is b c started what e h =
    taken_if (length c.table == length c.table) _ (stories_with b what (length c.table)) (eq_test (length c.table) (length c.table) refl)
    ∙ ap (λ (s : Story). answered s (outcome.Fault e)) (story_is_new b c started what h)

-- a fault tells nobody at a place
fault_untold : (awaited : Bool) (e : RedisError) → (not awaited && is_no_error (outcome.Fault e ∷ [])) ≡ false
fault_untold true e = refl
fault_untold false e = refl

-- the core with one submission more
abbrev pub core_refused : Core → Submission → Core
core_refused c what = record (turned c (event.Submit what)) { table = c.table ++ None ∷ [] }

-- the session is tied with it
pub refused_tied : (b : Book) (c : Core) (started : List ℕ) (word : ℕ) (what : Submission) (e : RedisError) → Tied b (inner c started) → IsTame (b.link c.single.link) → has_no_form c.kind what ≡ false → length c.table < 2 ^ 32 → c.single.connection.fresh ≡ [] → IsErrorOf b.shut (is_unspoken b what) what e
    → Tied (entered (entered b (turn_of c word (event.Submit what))) (action.Outcome (length c.table) (outcome.Fault e))) (seen (core_refused c what) [] c.single.connection [] started)
refused_tied b c started word what e h tame form few no_fresh why =
    let conn = c.single.connection in
    let ledger = b.link c.single.link in
    let after = stories_refused b (length c.table) what e in
    let same = refused_before b c started what e h in
    let longer = no_longer conn.requests in
    let queue = queue_ids (link_in conn.life).queue in
    let last = kept_ids conn.admitted conn.waiting in
    let at : (p : ℕ) → IsIn p (requests_in started ++ (queue ++ last)) → p < length conn.requests = λ p i. within_line conn.requests (requests_in started) queue last p h.lines.line i in
    let few_requests : length conn.requests ≤ 2 ^ 32 = omega (arith, h.names.few, h.numbers.few) in
    let is = refused_is b c started what e h in
    let past_all : (test : Progress → Bool) (p : ℕ) → if_there test (slice_get conn.requests p) ≡ true → length conn.requests ≤ p → ⊥ = λ test p w past. (let l = there_within test conn.requests p w in omega arith) in
    let next : IsNext after conn.requests conn.requests conn.fresh = record {
      newer = subst (λ ns. Rising 0 ns (length conn.requests)) (sym no_fresh) (omega arith);
      only = λ p i. absurd (subst (IsIn p) no_fresh i);
      shown = λ p w past. absurd (past_all is_waiting p w past);
      none = λ p e past. elim e [ inl a ↦ past_all is_admitted p a past | inr a ↦ past_all is_placed p a past ];
      free = λ p w past. absurd (past_all is_waiting p w past);
      early = λ p o past. absurd (past_all is_open_progress p o past);
      unbegun = λ p u past. absurd (past_all is_unbegun p u past);
      begun = λ p o u past. past_all is_open_progress p o past;
    } in
    record {
      numbers = record {
        turns = ap (λ m. m + 1) h.numbers.turns;
        links = h.numbers.links;
        timers = h.numbers.timers ∙ sym (append-nil c.timers);
        sources = h.numbers.sources ∙ sym (append-nil c.sources);
        aims = aims_on c.timers c.single.link (length (c.table ++ None ∷ [])) (aims_longer c.timers c.single.link (length c.table) (length (c.table ++ None ∷ [])) (omega (arith, length-append c.table (None ∷ []))) h.numbers.aims);
        timed = h.numbers.timed;
        submissions = (let k = h.numbers.submissions in omega (arith, length-append c.table (None ∷ [])));
        timeout = time_still (kind_in b.config) b.timeout (event.Submit what) tt ∙ h.numbers.timeout;
        shut = ap (λ s. s || false) h.numbers.shut;
        within = h.numbers.within;
        few = omega (arith, few, length-append c.table (None ∷ []));
        settings = record { size_is = h.numbers.settings.size_is; bound_is = h.numbers.settings.bound_is; limit_is = h.numbers.settings.limit_is; some = h.numbers.settings.some; limited = h.numbers.settings.limited };
        kind_is = h.numbers.kind_is;
        quiet = λ w. absurd (submits_unwatched b (inner c started) what h form w);
        comes_back = h.numbers.comes_back;
        lazy = h.numbers.lazy;
        current_is = h.numbers.current_is;
        speaks = h.numbers.speaks;
        address_is = h.numbers.address_is;
        wants = h.numbers.wants;
        alone = h.numbers.alone;
      };
      others = λ m other. aside_silent (b.link m) c.turns (h.others m other);
      notices = renoticed tame h.notices;
      life = told_life ledger b.created conn.life silence h.life;
      course = course_later conn.life ledger.last ledger.end c.links c.single.link c.shut (c.shut || false) c.manager conn.last conn.opened conn.info conn.address (or_left c.shut false) h.course;
      calm = λ up awake. error_calm b.shut (is_unspoken b what) what e (h.numbers.shut ∙ or_left c.shut false awake) why;
      creds = h.creds;
      creation = h.creation;
      uses = uses_on c.sources c.single.link h.uses;
      renewal = renewal_alike ledger (record ledger { heard = silence }) conn.renewal conn.life refl refl refl h.renewal;
      repeat = subst (λ calls. TiedRepeat (record ledger { heard = silence }) calls conn.renewal.within conn.again conn.life) (sym (append-nil b.tracked)) (repeat_alike ledger (record ledger { heard = silence }) b.tracked conn.renewal.within conn.again conn.life refl refl refl (λ x over. refl) h.repeat);
      setup = setup_on ledger ledger.asked ledger.up ledger.end ledger.taken ledger.offer ledger.rest silence conn.info started conn.life h.setup;
      link = λ alive. told_tied (carried conn.life conn.requests) ledger (whole_link conn.life) ledger.asked ledger.up silence (h.link alive);
      names = names_refused c.table conn.requests h.names;
      story = further_story c.table b.story after conn.requests conn.requests c.single.link None h.names same longer h.story
          (subst IsRefused (sym is) (record { what = what; handed_in = refl; untried = refl; error = e; answered = refl }));
      tries = tries_longer c.table (record ledger { heard = silence }) b.story after conn.requests conn.requests c.single.link started h.names same longer
          few_requests (λ p other i. at p (in_left p (requests_in started) (queue ++ last) (request_in p started other i))) (λ k p other i. started_within b (inner c started) k p h other i) (λ p r i past. absurd (let l = get_within conn.requests p r i in omega arith))
          (record { owners = h.tries.owners; greeted = h.tries.greeted; shapes = h.tries.shapes; tried = h.tries.tried; untried = h.tries.untried });
      lines = record {
        line = h.lines.line;
        queued = queue_longer c.table b.story after conn.requests conn.requests (link_in conn.life).queue h.names same longer (λ p i. at p (in_right p (requests_in started) (queue ++ last) (in_left p queue last i))) h.lines.queued;
        entries = h.lines.entries;
        packs = packs_longer c.table b.story after conn.requests conn.requests conn.waiting h.names same longer
            (λ p i. at p (in_right p (requests_in started) (queue ++ last) (in_right p queue last (in_right p (waiting_ids conn.admitted) (waiting_ids conn.waiting) i)))) h.lines.packs;
        packed_in = packs_longer c.table b.story after conn.requests conn.requests conn.admitted h.names same longer
            (λ p i. at p (in_right p (requests_in started) (queue ++ last) (in_right p queue last (in_left p (waiting_ids conn.admitted) (waiting_ids conn.waiting) i)))) h.lines.packed_in;
        there = h.lines.there;
      };
      told = λ up. told_longer c.table b.story after conn.requests conn.requests c.single.link (link_in conn.life) h.names same longer
          (λ u. not_both (is_told (answered (new_story b what) (outcome.Fault e))) (fault_untold (is_awaited (new_story b what)) e) (ap is_told (sym is) ∙ u.0))
          (λ p i. at p (in_right p (requests_in started) (queue ++ last) (in_left p queue last i))) (h.told up);
      waits = waits_longer c.table b.story after conn.requests conn.requests conn.again conn.life conn.fresh conn.fresh conn.moved h.names same longer
          (λ p i. at p (in_right p (requests_in started) (queue ++ last) (in_left p queue last (awaited_in p (link_in conn.life).queue i)))) no_fresh
          next h.waits;
      permits = permits_longer c.table b.story after b.submissions conn.requests conn.requests c.single.link conn.limit conn.free conn.fresh h.names same longer h.numbers.submissions (ap (λ (s : Story). s.permits) is) next h.permits;
      rounds = rounds_longer c.table b.story after conn.requests conn.requests conn.fresh conn.fresh h.names same longer no_fresh next h.rounds;
      early = h.early;
      late = late_longer c.table b.story after conn.requests conn.requests conn.fresh h.names same longer next h.late;
    }
