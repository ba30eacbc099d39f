-- A submission is handed in: it is the next request, or it is answered at once.
use Rattle.std.proofs.lemmas.List.{append-nil}
use Rattle.std.proofs.Common.{◌≡◌, ◌≢◌, inl, inr, ℕ, ◌+◌, ◌<◌, ◌≤◌, ◌==◌, Bool, true, false, ◌||◌, ◌&&◌, not, List, [], ◌∷◌, ◌++◌, length, Some, slice_get, if◌then◌else◌, refl, sym, ap, ◌∙◌, subst, append_assoc, arith, length-append, ◌^◌}
use Rattle.containers.proofs.Places.{get_within}
use Rattle.containers.proofs.Choices.{chosen, not_both, or_left}
use Rattle.redis_error.specs.declared.redis_error.RedisError.{RedisError}
use Rattle.redis_error.specs.declared.redis_error.RedisError.TheVariants as error
use Rattle.driver_model.specs.declared.action.Action.{Action}
use Rattle.driver_model.specs.declared.action.Action.TheVariants as action
use Rattle.driver_model.specs.declared.event.EventKind.TheVariants as event
use Rattle.driver_model.specs.declared.event.Submission.{Submission}
use Rattle.driver_model.specs.declared.outcome.Outcome.TheVariants as outcome
use Rattle.driver_model.specs.News.{silence}
use Rattle.connection_info.specs.Protocol.{is_resp3}
use Rattle.driver_model.specs.Hearing.{hears_messages}
use Rattle.driver_model.specs.Request.{packed_bytes, shape_of, is_reply_awaited, lacks_resp3, needs_resp3, has_no_form}
use Rattle.link_laws.proofs.Lists.{get_last}
use Rattle.link_laws.proofs.TiedLink.{told_tied, all_push}
use Rattle.mux_conn.specs.declared.request.Progress.{Progress}
use Rattle.mux_conn.specs.declared.request.Progress.TheVariants as progress
use Rattle.mux_conn.specs.declared.request.Request.{Request}
use Rattle.mux_conn.specs.declared.request.Waiting.{Waiting}
use Rattle.mux_conn.specs.Requests.{is_open as is_open_progress, is_waiting, is_admitted, is_placed, if_there, name_or_none, permits_or_none, permits_at, is_open_at, is_waiting_at, is_admitted_at, is_placed_at, name_at, waiting_of, asked, is_unbegun, is_unbegun_at}
use Rattle.single_session.specs.declared.core_state.Core.{Core}
use Rattle.single_session.specs.Turn.{Turning, heard, refused_with, asked_for, pending, effect, counted, is_bad}
use Rattle.legal_trace.specs.Story.{Story, is_no_error, is_told, is_awaited}
use Rattle.legal_trace.specs.Book.{Book, blank_book, book, entered, hearing_in, info_in, is_unspoken, kind_in}
use Rattle.legal_trace.specs.Legal.{AllStand, NoneEnds, MayAnswer}
use Rattle.conn_laws.proofs.Requests.Rounded.{rounds_longer, early_longer}
use Rattle.conn_laws.proofs.Ties.Aside.{aside_silent}
use Rattle.conn_laws.proofs.Internal.Renewals.{renewal_alike}
use Rattle.conn_laws.proofs.Ties.Numbers.{IsIn, in_left, in_right, Rising, rising_next, requests_in, request_in}
use Rattle.conn_laws.proofs.Ties.Tied.{carried, link_in, queue_ids, waiting_ids, whole_link, IsOf, IsRequest, IsPacked, IsKept, TiedLines, TiedWaits}
use Rattle.session_laws.proofs.Ties.Tied.{inner, Tied}
use Rattle.session_laws.proofs.Ties.States.{Between, HasApplied}
use Rattle.session_laws.proofs.Ties.Entered.{all_stand-append, book_more, sound_more}
use Rattle.conn_laws.proofs.Ties.Names.{there_within, names_asked}
use Rattle.session_laws.proofs.Ties.Names.{submits_unwatched}
use Rattle.session_laws.proofs.Ties.Owes.{started_within}
use Rattle.session_laws.proofs.Requests.Settle.{seen}
use Rattle.session_laws.proofs.Turn.Announce.{aims_longer, aims_on, turn_of, turned, may_turn, uses_on, time_still}
use Rattle.conn_laws.proofs.Turn.Heard.{told_life, silent_no_end}
use Rattle.session_laws.proofs.Turn.Heard.{silent_applied, still_none, tame_between, hushed_still}
use Rattle.conn_laws.proofs.Links.Said.{setup_on, IsTame, renoticed}
use Rattle.conn_laws.proofs.Requests.Further.{one_longer, there_longer, before_or_new, further_story, tries_longer, queue_longer, packs_longer, entries_longer, link_longer, told_longer, IsNext, waits_longer, permits_longer, late_longer}
use Rattle.conn_laws.proofs.Ties.InLine.{kept_ids, awaited_in}
use Rattle.session_laws.proofs.Requests.Submit.{stories_with, new_story, story_is_new, others_before, within_line, IsErrorOf, may_refuse, core_refused, refused_tied, or_none}
use Rattle.session_laws.proofs.Managers.Comes.{course_later}
use Rattle.conn_laws.proofs.Internal.Repeats.{repeat_alike}

-- a submission that isn't bad has a form
formed : (c : Core) (what : Submission) → is_bad c (event.Submit what) ≡ false → has_no_form c.kind what ≡ false
unfolding is_bad
formed c what good = good

-- it is answered at once
pub refused_applied : (before : List Action) (c : Core) (started : List ℕ) (word : ℕ) (what : Submission) (e : RedisError) → Between before c started → length c.table < 2 ^ 32 → is_bad c (event.Submit what) ≡ false → IsErrorOf (book before).shut (is_unspoken (book before) what) what e
    → HasApplied (before ++ turn_of c word (event.Submit what) ∷ []) (refused_with (heard (counted c) (event.Submit what)) e) started
refused_applied before c started word what e h few good why =
    let b = book before in
    let front = before ++ turn_of c word (event.Submit what) ∷ [] in
    let now = entered b (turn_of c word (event.Submit what)) in
    let a = action.Outcome (length c.table) (outcome.Fault e) in
    let t = seen (core_refused c what) [] c.single.connection [] started in
    let book_is : book front ≡ now = book_more before (turn_of c word (event.Submit what)) in
    let all : AllStand blank_book front = all_stand-append before (turn_of c word (event.Submit what) ∷ []) h.sound.stands (may_turn before c started word (event.Submit what) h good, tt) in
    let applied = h.settled.written.moved.begun.applied.shown in
    let may : MayAnswer now (length c.table) (outcome.Fault e) = may_refuse b c started word what e h.sound.tied applied.answered applied.ended applied.created.failed why in
    record {
      sound = sound_more front a t all (inl (subst (λ (x : Book). MayAnswer x (length c.table) (outcome.Fault e)) (sym book_is) may))
          (subst (λ (x : Book). Tied (entered x a) t) (sym book_is) (refused_tied b c started word what e h.sound.tied (tame_between before c started h) (formed c what good) few h.fresh why));
      ended = subst NoneEnds (sym (book_more front a ∙ ap (λ (x : Book). entered x a) book_is)) (λ m. silent_no_end (b.link m) c.turns (still_none before c started h m));
      began = λ z. absurd (omega arith);
      moved = h.moved;
      fit = record { wanting = h.fit.wanting; setup = h.fit.setup; link = h.fit.link; none = h.fit.none };
      hushed = hushed_still c (event.Submit what) refl h.hushed;
    }

-- it is the next request
--
-- the next request
abbrev new_request : Core → Request
new_request c = record { name = length c.table; progress = progress.Waiting; permits = 0 }

-- the requests with it
abbrev more_requests : Core → List Request
more_requests c = c.single.connection.requests ++ new_request c ∷ []

-- how it waits
abbrev new_waiting : Core → Submission → Waiting
new_waiting c what = waiting_of (length c.single.connection.requests) (packed_bytes what) (shape_of what) (is_reply_awaited what) c.timeout

-- who waits then
waiting_more : (waiting : List Waiting) (w : Waiting) → waiting_ids (waiting ++ w ∷ []) ≡ waiting_ids waiting ++ w.number ∷ []
waiting_more [] w = refl
waiting_more (x ∷ waiting) w = ap (λ ns. x.number ∷ ns) (waiting_more waiting w)

-- what is true of the last request
last_named : (c : Core) → name_at (more_requests c) (length c.single.connection.requests) ≡ length c.table
last_named c = ap name_or_none (get_last c.single.connection.requests (new_request c))

-- it is open
last_open : (c : Core) → is_open_at (more_requests c) (length c.single.connection.requests) ≡ true
last_open c = ap (if_there is_open_progress) (get_last c.single.connection.requests (new_request c))

-- it waits
last_waiting : (c : Core) → is_waiting_at (more_requests c) (length c.single.connection.requests) ≡ true
last_waiting c = ap (if_there is_waiting) (get_last c.single.connection.requests (new_request c))

-- its round has not begun
last_unbegun : (c : Core) → is_unbegun_at (more_requests c) (length c.single.connection.requests) ≡ true
last_unbegun c = ap (if_there is_unbegun) (get_last c.single.connection.requests (new_request c))

-- and it doesn't wait for a place
last_unadmitted : (c : Core) → is_admitted_at (more_requests c) (length c.single.connection.requests) ≡ false
last_unadmitted c = ap (if_there is_admitted) (get_last c.single.connection.requests (new_request c))

-- and it has none
last_unplaced : (c : Core) → is_placed_at (more_requests c) (length c.single.connection.requests) ≡ false
last_unplaced c = ap (if_there is_placed) (get_last c.single.connection.requests (new_request c))

-- nor a permit
last_free : (c : Core) → permits_at (more_requests c) (length c.single.connection.requests) ≡ 0
last_free c = ap permits_or_none (get_last c.single.connection.requests (new_request c))

-- what is one of these and not one of those before is the last
last_is : (c : Core) (p : ℕ) → p < length (more_requests c) → length c.single.connection.requests ≤ p → p ≡ length c.single.connection.requests
last_is c p l past = omega (arith, length-append c.single.connection.requests (new_request c ∷ []))

-- who has no place then
kept_more : (c : Core) (what : Submission) → kept_ids c.single.connection.admitted (c.single.connection.waiting ++ new_waiting c what ∷ []) ≡ kept_ids c.single.connection.admitted c.single.connection.waiting ++ length c.single.connection.requests ∷ []
kept_more c what =
    let conn = c.single.connection in
    ap (λ ns. waiting_ids conn.admitted ++ ns) (waiting_more conn.waiting (new_waiting c what)) ∙ sym (append_assoc (waiting_ids conn.admitted) (waiting_ids conn.waiting) (length conn.requests ∷ []))

-- the numbers of the line rise
asked_line : (c : Core) (what : Submission) (started queue : List ℕ) → Rising 0 (started ++ (queue ++ kept_ids c.single.connection.admitted c.single.connection.waiting)) (length c.single.connection.requests)
    → Rising 0 (started ++ (queue ++ kept_ids c.single.connection.admitted (c.single.connection.waiting ++ new_waiting c what ∷ []))) (length (more_requests c))
asked_line c what started queue r =
    let requests = c.single.connection.requests in
    let last = kept_ids c.single.connection.admitted c.single.connection.waiting in
    let n = length requests in
    let long : n + 1 ≡ length (more_requests c) = sym (length-append requests (new_request c ∷ [])) in
    let line : (started ++ (queue ++ last)) ++ n ∷ [] ≡ started ++ (queue ++ kept_ids c.single.connection.admitted (c.single.connection.waiting ++ new_waiting c what ∷ [])) =
    append_assoc started (queue ++ last) (n ∷ []) ∙ ap (λ ns. started ++ ns) (append_assoc queue last (n ∷ []) ∙ ap (λ ns. queue ++ ns) (sym (kept_more c what))) in
    subst (λ ns. Rising 0 ns (length (more_requests c))) line (subst (Rising 0 ((started ++ (queue ++ last)) ++ n ∷ [])) long (rising_next 0 (started ++ (queue ++ last)) n r))

-- it stands at the end of the line
asked_lines : (b : Book) (c : Core) (started : List ℕ) (what : Submission) → Tied b (inner c started)
    → TiedLines (stories_with b what) (more_requests c) (link_in c.single.connection.life) (c.single.connection.waiting ++ new_waiting c what ∷ []) c.single.connection.admitted [] started
asked_lines b c started what h =
    let conn = c.single.connection in
    let after = stories_with b what in
    let same = others_before b c started what h in
    let longer = one_longer conn.requests (new_request c) in
    let queue = queue_ids (link_in conn.life).queue in
    let last = waiting_ids conn.waiting in
    let admitted = waiting_ids conn.admitted in
    let kept = admitted ++ last in
    let n = length conn.requests in
    let at : (p : ℕ) → IsIn p (requests_in started ++ (queue ++ kept)) → p < n = λ p i. within_line conn.requests (requests_in started) queue kept p h.lines.line i in
    let own : after (name_at (more_requests c) n) ≡ new_story b what = ap after (last_named c) ∙ story_is_new b c started what h in
    let in_last : (p : ℕ) → IsIn p (last ++ n ∷ []) → IsIn p (waiting_ids (conn.waiting ++ new_waiting c what ∷ [])) = λ p i. subst (IsIn p) (sym (waiting_more conn.waiting (new_waiting c what))) i in
    record {
      line = asked_line c what (requests_in started) queue h.lines.line;
      queued = queue_longer c.table b.story after conn.requests (more_requests c) (link_in conn.life).queue h.names same longer (λ p i. at p (in_right p (requests_in started) (queue ++ kept) (in_left p queue kept i))) h.lines.queued;
      entries = entries_longer conn.requests (more_requests c) (link_in conn.life).row longer h.lines.entries;
      packs = all_push (IsPacked after (more_requests c)) conn.waiting (new_waiting c what)
          (packs_longer c.table b.story after conn.requests (more_requests c) conn.waiting h.names same longer (λ p i. at p (in_right p (requests_in started) (queue ++ kept) (in_right p queue kept (in_right p admitted last i)))) h.lines.packs)
          (record {
            is_of = subst (λ (s : Story). IsOf s (packed_bytes what) (shape_of what) (is_reply_awaited what)) (sym own) (record { packs = refl; shape_is = refl; awaited_is = refl });
            time_is = sym h.numbers.timeout ∙ ap (λ (s : Story). s.timeout) (sym own);
          });
      packed_in = packs_longer c.table b.story after conn.requests (more_requests c) conn.admitted h.names same longer (λ p i. at p (in_right p (requests_in started) (queue ++ kept) (in_right p queue kept (in_left p admitted last i)))) h.lines.packed_in;
      there = λ p e. before_or_new conn.requests (more_requests c) p _
          (λ old. elim (h.lines.there p (sym (there_longer is_open_progress conn.requests (more_requests c) p longer old) ∙ e)) [
            | inl i ↦ inl i
            | inr w ↦ inr (elim w as (λ _. IsKept (more_requests c) (conn.waiting ++ new_waiting c what ∷ []) conn.admitted p) [
              | inl a ↦ inl (there_longer is_admitted conn.requests (more_requests c) p longer old ∙ a.0, a.1)
              | inr x ↦ inr (there_longer is_waiting conn.requests (more_requests c) p longer old ∙ x.0, in_last p (in_left p last (n ∷ []) x.1))
            ])
          ])
          (λ past.
          let is = last_is c p (there_within is_open_progress (more_requests c) p e) past in
          inr (inr (ap (is_waiting_at (more_requests c)) is ∙ last_waiting c, in_last p (in_right p last (n ∷ []) (inl (sym is))))));
    }

-- its wait is not shown yet
asked_next : (b : Book) (c : Core) (started : List ℕ) (what : Submission) → Tied b (inner c started) → c.single.connection.fresh ≡ [] → IsNext (stories_with b what) c.single.connection.requests (more_requests c) (c.single.connection.fresh ++ length c.single.connection.requests ∷ [])
asked_next b c started what h no_fresh =
    let conn = c.single.connection in
    let after = stories_with b what in
    let n = length conn.requests in
    let fresh_is : conn.fresh ++ n ∷ [] ≡ n ∷ [] = ap (λ ns. ns ++ n ∷ []) no_fresh in
    let own : after (name_at (more_requests c) n) ≡ new_story b what = ap after (last_named c) ∙ story_is_new b c started what h in
    let story_is : (p : ℕ) → p ≡ n → after (name_at (more_requests c) p) ≡ new_story b what = λ p is. ap (λ m. after (name_at (more_requests c) m)) is ∙ own in
    let last : (test : Progress → Bool) (p : ℕ) → if_there test (slice_get (more_requests c) p) ≡ true → n ≤ p → p ≡ n = λ test p w past. last_is c p (there_within test (more_requests c) p w) past in
    let long = length-append conn.requests (new_request c ∷ []) in
    let in_fresh : (p : ℕ) → p ≡ n → IsIn p (conn.fresh ++ n ∷ []) = λ p is. subst (IsIn p) (sym fresh_is) (inl (sym is)) in
    record {
      newer = subst (λ ns. Rising 0 ns (length (more_requests c))) (sym fresh_is) (omega arith, omega (arith, long));
      only = λ p i. elim (subst (IsIn p) fresh_is i) as (λ _. n ≤ p) [ inl same ↦ omega (arith, same) | inr none ↦ absurd none ];
      shown = λ p w past. let is = last is_waiting p w past in (ap (λ (s : Story). s.waiting) (story_is p is), in_fresh p is);
      none = λ p e past. elim e [
        | inl a ↦ not_both (is_admitted_at (more_requests c) p) (ap (is_admitted_at (more_requests c)) (last is_admitted p a past) ∙ last_unadmitted c) a
        | inr a ↦ not_both (is_placed_at (more_requests c) p) (ap (is_placed_at (more_requests c)) (last is_placed p a past) ∙ last_unplaced c) a
      ];
      free = λ p w past. let is = last is_waiting p w past in (ap (permits_at (more_requests c)) is ∙ last_free c, ap (λ (s : Story). s.clock) (story_is p is));
      early = λ p o past. ap (λ (s : Story). s.overdue) (story_is p (last is_open_progress p o past));
      unbegun = λ p u past. let is = last is_unbegun p u past in (ap (λ (s : Story). s.rounded) (story_is p is), in_fresh p is);
      begun = λ p o u past. not_both (is_unbegun_at (more_requests c) p) u (ap (is_unbegun_at (more_requests c)) (last is_open_progress p o past) ∙ last_unbegun c);
    }

-- the waits with it
asked_waits : (b : Book) (c : Core) (started : List ℕ) (what : Submission) → Tied b (inner c started) → c.single.connection.fresh ≡ []
    → TiedWaits (stories_with b what) (more_requests c) c.single.connection.again c.single.connection.life (c.single.connection.fresh ++ length c.single.connection.requests ∷ []) c.single.connection.moved
asked_waits b c started what h no_fresh =
    let conn = c.single.connection in
    let queue = queue_ids (link_in conn.life).queue in
    let kept = kept_ids conn.admitted conn.waiting in
    waits_longer c.table b.story (stories_with b what) conn.requests (more_requests c) conn.again conn.life conn.fresh (conn.fresh ++ length conn.requests ∷ []) conn.moved h.names (others_before b c started what h) (one_longer conn.requests (new_request c))
    (λ p i. within_line conn.requests (requests_in started) queue kept p h.lines.line (in_right p (requests_in started) (queue ++ kept) (in_left p queue kept (awaited_in p (link_in conn.life).queue i)))) no_fresh (asked_next b c started what h no_fresh) h.waits

-- a submission without outcomes was told nothing
new_untold : (awaited : Bool) → (not awaited && is_no_error []) ≡ true → ⊥
new_untold true e = cc
new_untold false e = cc

-- the core with one request more
abbrev core_asked : Core → Submission → Core
core_asked c what = record (turned c (event.Submit what)) { table = c.table ++ Some (pending (length c.single.connection.requests)) ∷ [] }

-- the session is tied with it
asked_tied : (b : Book) (c : Core) (started : List ℕ) (word : ℕ) (what : Submission) → Tied b (inner c started) → IsTame (b.link c.single.link) → has_no_form c.kind what ≡ false → length c.table < 2 ^ 32 → c.single.connection.fresh ≡ [] → b.shut ≡ false → is_unspoken b what ≡ false → packed_bytes what ≢ []
    → Tied (entered b (turn_of c word (event.Submit what))) (seen (core_asked c what) [] (asked c.single.connection (length c.table) (packed_bytes what) (shape_of what) (is_reply_awaited what) c.timeout) [] started)
asked_tied b c started word what h tame form few no_fresh up speaks some =
    let conn = c.single.connection in
    let ledger = b.link c.single.link in
    let after = stories_with b what in
    let same = others_before b c started what h in
    let longer = one_longer conn.requests (new_request c) in
    let n = length conn.requests in
    let next = Some (pending n) in
    let queue = queue_ids (link_in conn.life).queue in
    let last = kept_ids conn.admitted conn.waiting in
    let own_at : (p : ℕ) (r : Request) → slice_get (more_requests c) p ≡ Some r → n ≤ p → after r.name ≡ new_story b what = λ p r i past.
    (let is = last_is c p (get_within (more_requests c) p r i) past in
    let named : length c.table ≡ r.name = sym (last_named c) ∙ ap (name_at (more_requests c)) (sym is) ∙ ap name_or_none i in
    ap after (sym named) ∙ story_is_new b c started what h) in
    record {
      numbers = record {
        turns = ap (λ m. m + 1) h.numbers.turns;
        links = h.numbers.links;
        timers = h.numbers.timers ∙ sym (append-nil c.timers);
        sources = h.numbers.sources ∙ sym (append-nil c.sources);
        aims = aims_on c.timers c.single.link (length (c.table ++ next ∷ [])) (aims_longer c.timers c.single.link (length c.table) (length (c.table ++ next ∷ [])) (omega (arith, length-append c.table (next ∷ []))) h.numbers.aims);
        timed = h.numbers.timed;
        submissions = (let k = h.numbers.submissions in omega (arith, length-append c.table (next ∷ [])));
        timeout = time_still (kind_in b.config) b.timeout (event.Submit what) tt ∙ h.numbers.timeout;
        shut = ap (λ s. s || false) h.numbers.shut;
        within = h.numbers.within;
        few = omega (arith, few, length-append c.table (next ∷ []));
        settings = record { size_is = h.numbers.settings.size_is; bound_is = h.numbers.settings.bound_is; limit_is = h.numbers.settings.limit_is; some = h.numbers.settings.some; limited = h.numbers.settings.limited };
        kind_is = h.numbers.kind_is;
        quiet = λ w. absurd (submits_unwatched b (inner c started) what h form w);
        comes_back = h.numbers.comes_back;
        lazy = h.numbers.lazy;
        current_is = h.numbers.current_is;
        speaks = h.numbers.speaks;
        address_is = h.numbers.address_is;
        wants = h.numbers.wants;
        alone = h.numbers.alone;
      };
      others = λ m other. aside_silent (b.link m) c.turns (h.others m other);
      notices = renoticed tame h.notices;
      life = told_life ledger b.created conn.life silence h.life;
      course = course_later conn.life ledger.last ledger.end c.links c.single.link c.shut (c.shut || false) c.manager conn.last conn.opened conn.info conn.address (or_left c.shut false) h.course;
      calm = λ up awake. refl;
      creds = h.creds;
      creation = h.creation;
      uses = uses_on c.sources c.single.link h.uses;
      renewal = renewal_alike ledger (record ledger { heard = silence }) conn.renewal conn.life refl refl refl h.renewal;
      repeat = repeat_alike ledger (record ledger { heard = silence }) b.tracked conn.renewal.within conn.again conn.life refl refl refl (λ e is. refl) h.repeat;
      setup = setup_on ledger ledger.asked ledger.up ledger.end ledger.taken ledger.offer ledger.rest silence conn.info started conn.life h.setup;
      link = λ alive. told_tied (carried conn.life (more_requests c)) ledger (whole_link conn.life) ledger.asked ledger.up silence (link_longer ledger conn.requests (more_requests c) conn.life longer h.lines.entries (h.link alive));
      names = names_asked c.table conn.requests progress.Waiting h.names;
      story = further_story c.table b.story after conn.requests (more_requests c) c.single.link next h.names same longer h.story
          (subst (λ (s : Story). IsRequest s (more_requests c) c.single.link n) (sym (story_is_new b c started what h)) (record {
            what = what;
            handed_in = refl;
            in_time = up;
            spoken = speaks;
            on = λ o. h.numbers.current_is;
            some = some;
            open_is = sym (last_open c);
            permits_is = sym (last_free c);
          }));
      tries = tries_longer c.table (record ledger { heard = silence }) b.story after conn.requests (more_requests c) c.single.link started h.names same longer
          (omega (arith, h.names.few, few, length-append conn.requests (new_request c ∷ [])))
          (λ p other i. within_line conn.requests (requests_in started) queue last p h.lines.line (in_left p (requests_in started) (queue ++ last) (request_in p started other i))) (λ k p other i. started_within b (inner c started) k p h other i)
          (λ p r i past. ap (λ (s : Story). s.tries) (own_at p r i past))
          (record { owners = h.tries.owners; greeted = h.tries.greeted; shapes = h.tries.shapes; tried = h.tries.tried; untried = h.tries.untried });
      lines = asked_lines b c started what h;
      told = λ up. told_longer c.table b.story after conn.requests (more_requests c) c.single.link (link_in conn.life) h.names same longer (λ u. absurd (new_untold (is_awaited (new_story b what)) (ap is_told (sym (story_is_new b c started what h)) ∙ u.0)))
          (λ p i. within_line conn.requests (requests_in started) queue last p h.lines.line (in_right p (requests_in started) (queue ++ last) (in_left p queue last i))) (h.told up);
      waits = asked_waits b c started what h no_fresh;
      permits = permits_longer c.table b.story after b.submissions conn.requests (more_requests c) c.single.link conn.limit conn.free (conn.fresh ++ n ∷ []) h.names same longer h.numbers.submissions (ap (λ (s : Story). s.permits) (story_is_new b c started what h))
          (asked_next b c started what h no_fresh) h.permits;
      rounds = rounds_longer c.table b.story after conn.requests (more_requests c) conn.fresh (conn.fresh ++ n ∷ []) h.names same longer no_fresh (asked_next b c started what h no_fresh) h.rounds;
      early = early_longer after conn.requests (more_requests c) (conn.fresh ++ n ∷ []) conn.again conn.life longer (asked_next b c started what h no_fresh) h.early;
      late = late_longer c.table b.story after conn.requests (more_requests c) (conn.fresh ++ n ∷ []) h.names same longer (asked_next b c started what h no_fresh) h.late;
    }

-- no act is shown
pub asked_applied : (before : List Action) (c : Core) (started : List ℕ) (word : ℕ) (what : Submission) → Between before c started → length c.table < 2 ^ 32 → is_bad c (event.Submit what) ≡ false → (book before).shut ≡ false → is_unspoken (book before) what ≡ false → packed_bytes what ≢ []
    → HasApplied (before ++ turn_of c word (event.Submit what) ∷ []) (asked_for (heard (counted c) (event.Submit what)) what) started
asked_applied before c started word what h few good up speaks some =
    let b = book before in
    silent_applied before c started word (event.Submit what) (core_asked c what) (asked c.single.connection (length c.table) (packed_bytes what) (shape_of what) (is_reply_awaited what) c.timeout) h good (λ m. silent_no_end (b.link m) c.turns (still_none before c started h m)) (λ z. absurd (omega arith)) h.moved (record { wanting = h.fit.wanting; setup = h.fit.setup; link = h.fit.link; none = h.fit.none })
    (λ over. absurd (not_both b.shut up (h.sound.tied.numbers.shut ∙ sym (or_none c.shut) ∙ over)))
    (asked_tied b c started word what h.sound.tied (tame_between before c started h) (formed c what good) few h.fresh up speaks some)

-- one or the other
--
-- what has a length is not empty
some_bytes : (bytes : List ℕ) → (length bytes == 0) ≡ false → bytes ≢ []
some_bytes bytes f e = not_both (length bytes == 0) f (ap (λ (bs : List ℕ). length bs == 0) e)

-- three that all hold, in another order
in_turn : (a b c : Bool) → (a && b && c) ≡ (b && (a && c))
in_turn true b c = refl
in_turn false true c = refl
in_turn false false c = refl

-- what the session says to the server is what the book tells of the link that a submission goes to
lacks_as_told : (b : Book) (c : Core) (started : List ℕ) (what : Submission) → Tied b (inner c started) → lacks_resp3 c.single.connection.hears c.single.connection.info.protocol what ≡ is_unspoken b what
lacks_as_told b c started what h =
    let says = sym h.numbers.speaks in
    let hears = sym h.notices.heard_is in
    (λ i. lacks_resp3 (hears i) (says i) what) ∙ in_turn (not (hears_messages (hearing_in b.config))) (needs_resp3 what) (not (is_resp3 (info_in b.config).protocol))

-- a submission, whichever it is
pub submit_applied : (before : List Action) (c : Core) (started : List ℕ) (word : ℕ) (what : Submission) → Between before c started → length c.table < 2 ^ 32 → is_bad c (event.Submit what) ≡ false
    → HasApplied (before ++ turn_of c word (event.Submit what) ∷ []) (effect (counted c) (event.Submit what)) started
submit_applied before c started word what h few good =
    let t = heard (counted c) (event.Submit what) in
    let front = before ++ turn_of c word (event.Submit what) ∷ [] in
    let shut_is : (c.shut || false) ≡ (book before).shut = or_none c.shut ∙ sym h.sound.tied.numbers.shut in
    let lacks = lacks_resp3 c.single.connection.hears c.single.connection.info.protocol what in
    let lacks_is : lacks ≡ is_unspoken (book before) what = lacks_as_told (book before) c started what h.sound.tied in
    let some = if length (packed_bytes what) == 0 then refused_with t error.EmptyCommand else asked_for t what in
    chosen (λ (x : Turning). HasApplied front x started) (c.shut || false) (refused_with t error.Closed) (if lacks then refused_with t error.Resp3Required else some)
    (λ s. refused_applied before c started word what error.Closed h few good (inl (sym shut_is ∙ s, refl)))
    (λ f. chosen (λ (x : Turning). HasApplied front x started) lacks (refused_with t error.Resp3Required) some
    (λ l. refused_applied before c started word what error.Resp3Required h few good (inr (inl (sym shut_is ∙ f, sym lacks_is ∙ l, refl))))
    (λ g. chosen (λ (x : Turning). HasApplied front x started) (length (packed_bytes what) == 0) (refused_with t error.EmptyCommand) (asked_for t what)
    (λ e. refused_applied before c started word what error.EmptyCommand h few good (inr (inr (sym shut_is ∙ f, sym lacks_is ∙ g, e, refl))))
    (λ n. asked_applied before c started word what h few good (sym shut_is ∙ f) (sym lacks_is ∙ g) (some_bytes (packed_bytes what) n))))
