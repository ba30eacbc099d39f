-- The notices that came are told, each behind as many of the messages that were settled as it came behind.
use Rattle.std.proofs.Common.{◌≡◌, inl, inr, ℕ, suc, ◌+◌, ◌<◌, ◌≤◌, ◌==◌, nat_le, nat_lt, Bool, true, false, if◌then◌else◌, List, [], ◌∷◌, ◌++◌, length, Option, Some, None, refl, sym, ap, ◌∙◌, subst, arith}
use Rattle.std.specs.List.{AllByRecursion}
use Rattle.containers.proofs.Choices.{by_test, chosen, le_from, not_both, not_le_from, not_lt_from, left_if}
use Rattle.driver_model.specs.declared.action.Action.{Action}
use Rattle.driver_model.specs.declared.action.Owner.TheVariants as owner
use Rattle.driver_model.specs.declared.outcome.Outcome.{Outcome}
use Rattle.driver_model.specs.declared.outcome.Shape.{Shape}
use Rattle.driver_model.specs.declared.push_info.PushInfo.{PushInfo}
use Rattle.driver_model.specs.Push.{is_disconnection}
use Rattle.driver_model.specs.Shape.{outcome_of}
use Rattle.link_core.specs.declared.message.NoticeAt.{NoticeAt}
use Rattle.link_core.specs.declared.message.Settled.{Settled}
use Rattle.link_laws.specs.Notices.{AreApart, SayTheSame}
use Rattle.link_laws.specs.Settles.{StandsAs, settled_ids, wanted, awaited_ids}
use Rattle.link_laws.proofs.Started.{row_open}
use Rattle.mux_conn.specs.declared.act.LinkAct.TheVariants as act
use Rattle.mux_conn.specs.declared.request.Progress.TheVariants as progress
use Rattle.mux_conn.specs.Connection.{Work}
use Rattle.mux_conn.specs.Effects.{notice_act, noticed, settled_each, told_each, settled_one}
use Rattle.mux_conn.specs.Requests.{answered, closed, is_open, is_open_at, name_at}
use Rattle.single_session.specs.declared.core_state.Core.{Core}
use Rattle.redis_error.specs.declared.fault_kind.FaultKind.TheVariants as kinds
use Rattle.redis_error.specs.declared.redis_error.RedisError.TheVariants as error
use Rattle.driver_model.specs.declared.action.Action.TheVariants as action
use Rattle.driver_model.specs.declared.outcome.Outcome.TheVariants as outcome
use Rattle.legal_trace.specs.Ledger.{Ledger, Heard, Line, is_full_by, noted, noted_each, parts, tells}
use Rattle.legal_trace.specs.Story.{Story, Try, bytes_of, last_of, shape}
use Rattle.legal_trace.specs.Book.{Book, book, entered, if_mine, push_line, blank_book}
use Rattle.legal_trace.specs.Owed.{owed, owed_to_message, owed_to_try, owed_waiting}
use Rattle.legal_trace.specs.Legal.{AllStand, IsBefore, IsOpen, MayNotify, MayPushBy, MayStand}
use Rattle.conn_laws.proofs.Ties.Numbers.{IsIn, Rising, in_either, in_left, in_right, requests_in, request_of, is_own, requests_behind, requests_first}
use Rattle.conn_laws.proofs.Ties.Tied.{has_ended, link_in, owner_of, queue_ids, own_owner}
use Rattle.session_laws.proofs.Ties.Tied.{TurnState, Tied, Sound}
use Rattle.session_laws.proofs.Links.Said.{ready_shown, sources_asked}
use Rattle.conn_laws.proofs.Changes.Requests.{progress_count as length_with}
use Rattle.conn_laws.proofs.Ties.Names.{name_with, open_within, with_then}
use Rattle.conn_laws.proofs.Ties.InLine.{IsInLine, awaited_in, kept_ids, kept_in, line_of, wanted_in}
use Rattle.conn_laws.proofs.Ties.Owes.{lives, row_link, wanted_entry}
use Rattle.session_laws.proofs.Ties.Owes.{open_request, stands_started, open_on}
use Rattle.session_laws.proofs.Ties.Ahead.{later_untried}
use Rattle.session_laws.proofs.Requests.Answer.{answer_tied, owed_still, skip_tied}
use Rattle.conn_laws.proofs.Links.Told.{retells}
use Rattle.session_laws.proofs.Links.Told.{current_is, lined, notice_action, notice_tied}
use Rattle.session_laws.proofs.Ties.Kept.{mine_noted}
use Rattle.conn_laws.proofs.Requests.Settle.{IsDue, rest_in_line, one_leaves, answered_owns, own_each, own_one, own_settled, request_settled, AnswersNone}
use Rattle.session_laws.proofs.Requests.Settle.{Tells, book_of_more, first_may, seen, settled_holds, sound_told, trace_of_acts, shown_now, some_pending}
use Rattle.driver_model.specs.declared.hearing.Notice.{Notice}
use Rattle.driver_model.specs.declared.hearing.Notice.TheVariants as notice
use Rattle.link_laws.proofs.Notices.{IsNoEnd}
use Rattle.driver_model.specs.Hearing.{hears_something}
use Rattle.mux_conn.specs.declared.act.LinkAct.{LinkAct}
use Rattle.mux_conn.specs.declared.connection.MultiplexedConnection.{MultiplexedConnection}
use Rattle.conn_laws.proofs.Internal.Own.{acted_own, own_leaves}
use Rattle.conn_laws.proofs.Links.Telling.{IsHeard, IsLate, IsOnTime, LeavesOwed, apart_rest, behind_in, late_now, next_of, of_requests, push_leaves_owed, same_push, takes_late, try_of}
use Rattle.conn_laws.proofs.Changes.Values.{none_told}

-- whose message was full before a notice came
--
-- the last try of a request whose message started as number k
last_try : (b : Book) (t : TurnState) (p k : ℕ) (of_shape : Shape) → Tied b t → p < length t.requests → StandsAs (b.link t.link).starts (owner_of t.requests p) of_shape k → last_of (b.story (name_at t.requests p)).tries ≡ Some (record { link = t.link; message = k })
last_try b t p k of_shape h l place =
    let s = stands_started b t p k of_shape h l place in
    ap last_of (h.tries.tried s.0 p l s.2 ∙ ap (λ m. record { link = t.link; message = m } ∷ []) (sym s.1))

-- where it was full
full_before : (b : Book) (t : TurnState) (p k : ℕ) (of_shape : Shape) (push : Heard) → Tied b t → p < length t.requests → StandsAs (b.link t.link).starts (owner_of t.requests p) of_shape k → is_full_by (b.link t.link) push.after k ≡ true → IsBefore b (name_at t.requests p) push
full_before b t p k of_shape push h l place full = record { try = record { link = t.link; message = k }; last = last_try b t p k of_shape h l place; full = full }

-- and the other way round
before_full : (b : Book) (t : TurnState) (p k : ℕ) (of_shape : Shape) (push : Heard) → Tied b t → p < length t.requests → StandsAs (b.link t.link).starts (owner_of t.requests p) of_shape k → IsBefore b (name_at t.requests p) push → is_full_by (b.link t.link) push.after k ≡ true
before_full b t p k of_shape push h l place before =
    let same : record { link = t.link; message = k } ≡ before.try = one_try (record { link = t.link; message = k }) before.try (sym (last_try b t p k of_shape h l place) ∙ before.last) in
    subst (λ (x : Try). is_full_by (b.link x.link) push.after x.message ≡ true) (sym same) before.full
  where
    one_try : (x y : Try) → ◌≡◌ {A = Option Try} (Some x) (Some y) → x ≡ y
    one_try x y e = cc

-- who has not started has no message
none_started : (b : Book) (p : ℕ) (push : Heard) (name : ℕ) → (b.story name).tries ≡ [] → IsBefore b name push → ⊥
none_started b p push name none before = no_try before.try (sym (ap last_of none) ∙ before.last)
  where
    no_try : (x : Try) → ◌≡◌ {A = Option Try} None (Some x) → ⊥
    no_try x e = cc

-- those whose message was not full before a notice came
--
-- so nobody who is open was before it, where those that are to be answered weren't
none_was : (b : Book) (t : TurnState) (push : Heard) → Tied b t → has_ended t.life ≡ false → push.after ≤ length (b.link t.link).dealt → ((p : ℕ) → IsIn p t.pending → p < length t.requests → IsLate (b.link t.link) (owner_of t.requests) push p)
    → (m : ℕ) → IsOpen b m → IsBefore b m push → ⊥
none_was b t push h alive within pending m asked before =
    let q = open_request b t m h asked in
    let p = q.number in
    let l = open_within t.requests p q.open_at in
    let was = subst (λ n. IsBefore b n push) (sym q.named) before in
    elim (h.lines.there p q.open_at) [
      | inl i ↦ elim (in_either p t.pending (requests_in (wanted (link_in t.life).row) ++ awaited_ids (link_in t.life).queue) i) [
        | inl j ↦ let d = pending p j l in not_both (is_full_by (b.link t.link) push.after d.number) d.late (before_full b t p d.number d.of_shape push h l d.stands was)
        | inr j ↦ elim (in_either p (requests_in (wanted (link_in t.life).row)) (awaited_ids (link_in t.life).queue) j) [
          | inl r ↦ in_row p l was (request_of p (wanted (link_in t.life).row) r)
          | inr w ↦ unstarted p q.open_at was (in_left p (queue_ids (link_in t.life).queue) (kept_ids t.admitted t.waiting) (awaited_in p (link_in t.life).queue w))
        ]
      ]
      | inr w ↦ unstarted p q.open_at was (in_right p (queue_ids (link_in t.life).queue) (kept_ids t.admitted t.waiting) (kept_in t.requests t.waiting t.admitted p w))
    ]
  where
    unstarted : (p : ℕ) → is_open_at t.requests p ≡ true → IsBefore b (name_at t.requests p) push → IsIn p (queue_ids (link_in t.life).queue ++ kept_ids t.admitted t.waiting) → ⊥
    unstarted p o was i = none_started b p push (name_at t.requests p) (later_untried b t p h (open_within t.requests p o) (open_on b t p h o) i) was

    in_row : (p : ℕ) → p < length t.requests → IsBefore b (name_at t.requests p) push → IsIn p (wanted (link_in t.life).row) → ⊥
    in_row p l was i =
        let ledger = b.link t.link in
        let name = owner_of t.requests in
        let lives_on = lives ledger b.created t.life h.life alive in
        let j = wanted_in p (link_in t.life).row i in
        let w = wanted_entry name ledger _ (link_in t.life).row p (row_open name ledger (link_in t.life) lives_on (row_link ledger t.requests t.life p j (h.link alive))) j in
        let place = subst (λ m. StandsAs ledger.starts (name m) w.entry.shape w.number) w.is w.open_as.place in
        not_both (is_full_by ledger push.after w.number) (takes_late ledger push w.number within w.open_as.takes_more) (before_full b t p w.number w.entry.shape push h l place was)

-- telling
--
-- some requests are to be answered, in line, and these notices are still to be told; of the ledger of their link but this has
-- changed, and what is owed, and all names, are as they were
pub record IsTelling (before : List Action) (f : Core) (ledger : Ledger) (owes : ℕ → Option Outcome) (name : ℕ → ℕ) (was : ℕ → Bool) (w : Work) (untold : List Heard) (pending started : List ℕ) : Type 0 where
  pub holds : Tells before f w untold pending started
  pub line : IsInLine w.conn.requests (link_in w.conn.life) w.conn.admitted w.conn.waiting pending
  pub quiet : AnswersNone w.conn pending
  pub told : ℕ
  pub ledger_is : (book (trace_of_acts before f w.acts)).link f.single.link ≡ retells ledger told ledger.parted
  pub owed_is : (n : ℕ) → owed (book (trace_of_acts before f w.acts)) n ≡ owes n
  pub named : (p : ℕ) → name_at w.conn.requests p ≡ name p
  pub opens : (p : ℕ) → is_open_at w.conn.requests p ≡ true → was p ≡ true

-- a number that is below another is so by the test
lt_test : (a b : ℕ) → a < b → nat_lt a b ≡ true
lt_test a b less = by_test (nat_lt a b) _ (λ t. t) (λ f. absurd (let no_less = not_lt_from a b f in omega arith))

-- a notice that came
--
-- what shows it is the action that tells it
shown_notice : (f : Core) (acts : List LinkAct) (n : Notice) → shown_now f acts (notice_act n) ≡ notice_action f.single.link n
shown_notice f acts (notice.Push info) = refl
shown_notice f acts (notice.Message m) = refl
shown_notice f acts (notice.Monitor v) = refl

-- which asks for nothing
sound_notice : (before : List Action) (f : Core) (acts : List LinkAct) (n : Notice) (conn : MultiplexedConnection) (untold : List Heard) (pending started : List ℕ) → AllStand blank_book (trace_of_acts before f acts) → MayStand (book (trace_of_acts before f acts)) (notice_action f.single.link n)
    → Tied (entered (book (trace_of_acts before f acts)) (notice_action f.single.link n)) (record (seen f acts conn pending started) { untold = untold }) → Sound (trace_of_acts before f (acts ++ notice_act n ∷ [])) (record (seen f (acts ++ notice_act n ∷ []) conn pending started) { untold = untold })
sound_notice before f acts (notice.Push info) conn untold pending started stands may tied = sound_told before f acts (act.Push info) conn untold false pending started stands may tied
sound_notice before f acts (notice.Message m) conn untold pending started stands may tied = sound_told before f acts (act.Message m) conn untold false pending started stands may tied
sound_notice before f acts (notice.Monitor v) conn untold pending started stands may tied = sound_told before f acts (act.Monitor v) conn untold false pending started stands may tied

-- the book behind it
notice_book : (before : List Action) (f : Core) (acts : List LinkAct) (n : Notice) → book (trace_of_acts before f (acts ++ notice_act n ∷ [])) ≡ entered (book (trace_of_acts before f acts)) (notice_action f.single.link n)
notice_book before f acts n = book_of_more before f acts (notice_act n) ∙ ap (entered (book (trace_of_acts before f acts))) (shown_notice f acts n)

-- in which it is told
notice_link : (b : Book) (l : ℕ) (n : Notice) → IsNoEnd n → b.current ≡ l → (entered b (notice_action l n)).link l ≡ retells (b.link l) ((b.link l).told + 1) (b.link l).parted
notice_link b l (notice.Push info) come here = mine_noted (b.link l) l (push_line info.kind) ∙ ap (noted (b.link l)) (left_if (is_disconnection info.kind) parts tells come)
notice_link b l (notice.Message m) come here = ap (λ k. noted_each (b.link l) (if_mine (k == l) tells)) here ∙ mine_noted (b.link l) l tells
notice_link b l (notice.Monitor v) come here = ap (λ k. noted_each (b.link l) (if_mine (k == l) tells)) here ∙ mine_noted (b.link l) l tells

-- it may be told
notify_may : (b : Book) (t : TurnState) (n : Notice) (h : Heard) (rest : List Heard) → Tied b t → t.untold ≡ h ∷ rest → hears_something t.hears ≡ true → has_ended t.life ≡ false → n ≡ h.what → h.after ≤ length (b.link t.link).dealt
    → ((p : ℕ) → IsIn p t.pending → p < length t.requests → IsLate (b.link t.link) (owner_of t.requests) h p) → MayNotify b t.link n
notify_may b t n h rest tied untold hears alive says within pending =
    let following = next_of (b.link t.link).told (b.link t.link).notices h rest (tied.notices.untold_is hears ∙ untold) in
    record {
      is_heard = ap hears_something tied.notices.heard_is ∙ hears;
      heard = h;
      next = following.next;
      says = says;
      in_order = λ m less. (tied.others m (λ same. absurd (omega arith))).told hears;
      created = ready_shown b t tied;
      sourced = sources_asked b t tied;
      answered = λ m asked on before. none_was b t h tied alive within pending m asked before;
    }

-- so its action may stand
notice_may : (b : Book) (t : TurnState) (n : Notice) → IsNoEnd n → b.current ≡ t.link → MayNotify b t.link n → MayStand b (notice_action t.link n)
notice_may b t (notice.Push info) come here may = subst (λ (x : Bool). MayPushBy x b t.link info) (sym come) may
notice_may b t (notice.Message m) come here may = subst (λ k. MayNotify b k (notice.Message m)) (sym here) may
notice_may b t (notice.Monitor v) come here may = subst (λ k. MayNotify b k (notice.Monitor v)) (sym here) may

-- what is owed stays
lined_owed : (b : Book) (l : ℕ) (line : Line) (m : ℕ) → LeavesOwed line → owed (lined b l line) m ≡ owed b m
lined_owed b l line m leaves = λ i.
    if s.late then Some (outcome.Fault error.Closed)
    else if s.unspoken then Some (outcome.Fault error.Resp3Required)
    else if length (bytes_of s) == 0 then Some (outcome.Fault error.EmptyCommand)
    else if s.overdue then Some (outcome.Fault (error.Io kinds.TimedOut))
    else by_try (last_of s.tries) i
  where
    s : Story
    s = b.story m

    message_same : (x : Ledger) (n k : ℕ) (of_shape : Shape) → owed_to_message (noted_each x (if_mine (l == k) line)) n of_shape ≡ owed_to_message x n of_shape
    message_same x n k of_shape = chosen (λ (ls : List Line). owed_to_message (noted_each x ls) n of_shape ≡ owed_to_message x n of_shape) (l == k) (line ∷ []) [] (λ t. leaves.message x n of_shape) (λ f. refl)

    end_same : (x : Ledger) (k : ℕ) → owed_waiting b.shut (noted_each x (if_mine (l == k) line)) ≡ owed_waiting b.shut x
    end_same x k = chosen (λ (ls : List Line). owed_waiting b.shut (noted_each x ls) ≡ owed_waiting b.shut x) (l == k) (line ∷ []) [] (λ t. leaves.unstarted b.shut x) (λ f. refl)

    by_try : (x : Option Try) → owed_to_try (lined b l line) s x ≡ owed_to_try b s x
    by_try None = end_same (b.link s.link) s.link
    by_try (Some t) = message_same (b.link t.link) t.message t.link (shape s)

pub push_owed : (b : Book) (l : ℕ) (info : PushInfo) (m : ℕ) → owed (entered b (action.Push l info)) m ≡ owed b m
push_owed b l info m = lined_owed b l (push_line info.kind) m (push_leaves_owed (is_disconnection info.kind))

-- and anything that is told
notice_owed : (b : Book) (l : ℕ) (n : Notice) (m : ℕ) → owed (entered b (notice_action l n)) m ≡ owed b m
notice_owed b l (notice.Push info) m = push_owed b l info m
notice_owed b l (notice.Message x) m = lined_owed b b.current tells m (push_leaves_owed false)
notice_owed b l (notice.Monitor v) m = lined_owed b b.current tells m (push_leaves_owed false)

-- and is
one_told : (before : List Action) (f : Core) (ledger : Ledger) (owes : ℕ → Option Outcome) (name : ℕ → ℕ) (was : ℕ → Bool) (w : Work) (n : Notice) (h : Heard) (rest : List Heard) (pending started : List ℕ) → hears_something w.conn.hears ≡ true → has_ended w.conn.life ≡ false → n ≡ h.what → IsHeard ledger h
    → ((p : ℕ) → IsIn p pending → IsLate ledger (try_of name) h p) → IsTelling before f ledger owes name was w (h ∷ rest) pending started → IsTelling before f ledger owes name was (noticed w n) rest pending started
one_told before f ledger owes name was w n h rest pending started hears alive says heard late k =
    let b = book (trace_of_acts before f w.acts) in
    let t = record (seen f w.acts w.conn pending started) { untold = h ∷ rest } in
    let l = b.link f.single.link in
    let come : IsNoEnd n = subst IsNoEnd (sym says) heard.kind_is in
    let here = current_is b t k.holds.tied in
    let following = next_of l.told l.notices h rest (k.holds.tied.notices.untold_is hears) in
    let next_is : (book (trace_of_acts before f (noticed w n).acts)).link f.single.link ≡ retells l (l.told + 1) l.parted = ap (λ (x : Book). x.link f.single.link) (notice_book before f w.acts n) ∙ notice_link b f.single.link n come here in
    record {
      holds = sound_notice before f w.acts n w.conn rest pending started k.holds.stands
          (notice_may b t n come here (notify_may b t n h rest k.holds.tied refl hears alive says (subst (λ (x : Ledger). h.after ≤ length x.dealt) (sym k.ledger_is) heard.within)
          (λ p i less. late_now ledger l k.told name w.conn.requests h p k.ledger_is (k.named p) (late p i))))
          (notice_tied b t n rest come (record {
            heard_is = k.holds.tied.notices.heard_is;
            hearing_is = k.holds.tied.notices.hearing_is;
            within = λ y. following.within;
            untold_is = λ y. following.behind;
            parts = k.holds.tied.notices.parts;
            alive = k.holds.tied.notices.alive;
            due = k.holds.tied.notices.due;
            tame = k.holds.tied.notices.tame;
          }) k.holds.tied);
      line = k.line;
      quiet = k.quiet;
      told = l.told + 1;
      ledger_is = next_is ∙ ap (λ (x : Ledger). retells x (l.told + 1) x.parted) k.ledger_is;
      owed_is = λ m. ap (λ (x : Book). owed x m) (notice_book before f w.acts n) ∙ notice_owed b f.single.link n m ∙ k.owed_is m;
      named = k.named;
      opens = k.opens;
    }

-- an answer between
--
-- the first of those that are to be answered is, where it is open: its message was full before the next notice
answered_between : (before : List Action) (f : Core) (ledger : Ledger) (owes : ℕ → Option Outcome) (name : ℕ → ℕ) (was : ℕ → Bool) (w : Work) (h : Heard) (rest : List Heard) (p : ℕ) (o : Outcome) (pending started : List ℕ) → hears_something w.conn.hears ≡ true → (was p ≡ true → owes (name p) ≡ Some o)
    → IsOnTime ledger (try_of name) h p → IsTelling before f ledger owes name was w (h ∷ rest) (p ∷ pending) started → IsTelling before f ledger owes name was (answered w p o) (h ∷ rest) pending started
answered_between before f ledger owes name was w h rest p o pending started hears due early k =
    chosen (λ (x : Work). IsTelling before f ledger owes name was x (h ∷ rest) pending started) (is_open_at w.conn.requests p) _ w open_one shut_one
  where
    b : Book
    b = book (trace_of_acts before f w.acts)

    t : TurnState
    t = record (seen f w.acts w.conn pending started) { untold = h ∷ rest }

    l : Ledger
    l = b.link f.single.link

    open_one : is_open_at w.conn.requests p ≡ true → IsTelling before f ledger owes name was (record { conn = closed w.conn p; acts = w.acts ++ act.Outcome (name_at w.conn.requests p) o ∷ [] }) (h ∷ rest) pending started
    open_one e =
        let a = act.Outcome (name_at w.conn.requests p) o in
        let owes_now = k.owed_is (name_at w.conn.requests p) ∙ ap owes (k.named p) ∙ due (k.opens p e) in
        let place = subst (λ n. StandsAs ledger.starts (if is_own p then own_owner p else owner.Try n 0) early.of_shape early.number) (sym (k.named p)) early.stands in
        let here = subst (λ (x : Ledger). StandsAs x.starts (owner_of w.conn.requests p) early.of_shape early.number) (sym k.ledger_is) place in
        let full = subst (λ (x : Ledger). is_full_by x h.after early.number ≡ true) (sym k.ledger_is) early.full in
        let n = next_of l.told l.notices h rest (k.holds.tied.notices.untold_is hears) in
        record {
          holds = sound_told before f w.acts a (closed w.conn p) (h ∷ rest) false pending started k.holds.stands
              (inl (first_may b t p pending o k.holds.tied k.line e owes_now
              (λ heard push next. full_before b (record t { pending = p ∷ pending }) p early.number early.of_shape push k.holds.tied (open_within w.conn.requests p e) here (subst (λ (x : Heard). is_full_by l x.after early.number ≡ true) (same_push h push (sym n.next ∙ next)) full)) refl))
              (answer_tied b t p pending o e owes_now k.line (λ up goes. some_pending p pending (k.quiet up goes)) k.holds.tied);
          line = subst (λ m. Rising 0 (pending ++ line_of (link_in w.conn.life) w.conn.admitted w.conn.waiting) m) (sym (length_with w.conn.requests p progress.Closed 0)) (rest_in_line w.conn.requests (link_in w.conn.life) w.conn.admitted w.conn.waiting p pending k.line);
          quiet = λ up goes. absurd (some_pending p pending (k.quiet up goes));
          told = k.told;
          ledger_is = ap (λ (x : Book). x.link f.single.link) (book_of_more before f w.acts a) ∙ k.ledger_is;
          owed_is = λ m. ap (λ (x : Book). owed x m) (book_of_more before f w.acts a) ∙ owed_still b (name_at w.conn.requests p) o m ∙ k.owed_is m;
          named = λ q. name_with w.conn.requests p progress.Closed 0 q ∙ k.named q;
          opens = λ q was_open. k.opens q (with_then is_open w.conn.requests p q progress.Closed 0 refl (open_within w.conn.requests p e) was_open).1;
        }

    shut_one : is_open_at w.conn.requests p ≡ false → IsTelling before f ledger owes name was w (h ∷ rest) pending started
    shut_one e = record {
      holds = record { stands = k.holds.stands; tied = skip_tied b t p pending e k.holds.tied };
      line = rest_in_line w.conn.requests (link_in w.conn.life) w.conn.admitted w.conn.waiting p pending k.line;
      quiet = λ up goes. absurd (some_pending p pending (k.quiet up goes));
      told = k.told;
      ledger_is = k.ledger_is;
      owed_is = k.owed_is;
      named = k.named;
      opens = k.opens;
    }

-- where no notice is left the others are answered
answered_last : (before : List Action) (f : Core) (ledger : Ledger) (owes : ℕ → Option Outcome) (name : ℕ → ℕ) (was : ℕ → Bool) (w : Work) (ss : List Settled) (started : List ℕ) → AllByRecursion (IsDue owes name was) ss
    → IsTelling before f ledger owes name was (own_each w ss) [] (requests_in (settled_ids ss) ++ []) started → IsTelling before f ledger owes name was (settled_each w ss) [] [] started
answered_last before f ledger owes name was w ss started due k =
    let now = (book (trace_of_acts before f (own_each w ss).acts)).link f.single.link in
    let a = settled_holds before f now owes name was w ss [] started due (record { holds = k.holds; line = k.line; quiet = k.quiet; ledger_is = refl; owed_is = k.owed_is; named = k.named; opens = k.opens }) in
    record { holds = a.holds; line = a.line; quiet = a.quiet; told = k.told; ledger_is = a.ledger_is ∙ k.ledger_is; owed_is = a.owed_is; named = a.named; opens = a.opens }

-- one that was settled is answered between, where it is a request's
settled_between : (before : List Action) (f : Core) (ledger : Ledger) (owes : ℕ → Option Outcome) (name : ℕ → ℕ) (was : ℕ → Bool) (w : Work) (h : Heard) (rest : List Heard) (s : Settled) (ss : List Settled) (started : List ℕ) → hears_something w.conn.hears ≡ true → IsDue owes name was s → IsOnTime ledger (try_of name) h s.id
    → IsTelling before f ledger owes name was (own_each w (s ∷ ss)) (h ∷ rest) (requests_in (settled_ids (s ∷ ss)) ++ []) started
    → IsTelling before f ledger owes name was (own_each (settled_one w s) ss) (h ∷ rest) (requests_in (settled_ids ss) ++ []) started
settled_between before f ledger owes name was w h rest s ss started hears due early k =
    let o = outcome_of s.verdict in
    let ids = requests_in (settled_ids ss) in
    by_test (is_own s.id) (telling_so (own_each (settled_one w s) ss) ids)
    (λ t. subst (λ (x : Work). telling_so (own_each x ss) ids) (sym (own_settled w s t)) (subst (telling_so (own_each (own_one w s) ss)) (requests_behind s.id (settled_ids ss) t) k))
    (λ f1.
    let q = request_settled w s f1 in
    let first = subst (λ (x : Work). telling_so (own_each x ss) (s.id ∷ ids)) q.1 (subst (telling_so (own_each (own_one w s) ss)) (requests_first s.id (settled_ids ss) f1) k) in
    let done = answered_between before f ledger owes name was (own_each w ss) h rest s.id o (ids ++ []) started (ap hears_something (own_leaves w ss).hears ∙ hears) due early first in
    subst (λ (x : Work). telling_so (own_each x ss) ids) (sym q.0) (subst (λ (x : Work). telling_so x ids) (sym (answered_owns w s.id o ss)) done))
  where
    telling_so : Work → List ℕ → Type 0
    telling_so x ns = IsTelling before f ledger owes name was x (h ∷ rest) (ns ++ []) started

-- all of them
--
-- each notice is told in its place, and all else is answered
pub told_holds : (before : List Action) (f : Core) (ledger : Ledger) (owes : ℕ → Option Outcome) (name : ℕ → ℕ) (was : ℕ → Bool) (w : Work) (n : ℕ) (ps : List NoticeAt) (hs : List Heard) (ss : List Settled) (started : List ℕ) → hears_something w.conn.hears ≡ true → has_ended w.conn.life ≡ false → SayTheSame ps hs
    → AreApart (try_of name) ledger ps hs n ss → AllByRecursion (IsHeard ledger) hs → AllByRecursion (IsDue owes name was) ss → IsTelling before f ledger owes name was (own_each w ss) hs (requests_in (settled_ids ss) ++ []) started → IsTelling before f ledger owes name was (told_each w n ps ss) [] [] started
told_holds before f ledger owes name was w n [] [] ss started hears alive same apart heard due k =
    subst (λ (x : Work). IsTelling before f ledger owes name was x [] [] started) (sym (none_told w n ss)) (answered_last before f ledger owes name was w ss started due k)
told_holds before f ledger owes name was w n [] (h ∷ hs) ss started hears alive same apart heard due k = absurd same
told_holds before f ledger owes name was w n (p ∷ ps) [] ss started hears alive same apart heard due k = absurd same
told_holds before f ledger owes name was w n (p ∷ ps) (h ∷ hs) [] started hears alive same apart heard due k =
    told_holds before f ledger owes name was (noticed w p.notice) n ps hs [] started hears alive same.1 tt heard.1 tt (one_told before f ledger owes name was w p.notice h hs [] started hears alive same.0 heard.0 (λ q i. absurd i) k)
told_holds before f ledger owes name was w n (p ∷ ps) (h ∷ hs) (s ∷ ss) started hears alive same apart heard due k =
    let v = settled_one w s in
    let still = one_leaves w s in
    let come = own_each w (s ∷ ss) in
    let leaves = own_leaves w (s ∷ ss) in
    let ids = settled_ids (s ∷ ss) in
    chosen (λ (x : Work). IsTelling before f ledger owes name was x [] [] started) (nat_le p.settled n) (told_each (noticed w p.notice) n ps (s ∷ ss)) (told_each v (n + 1) (p ∷ ps) ss)
    (λ t.
    told_holds before f ledger owes name was (noticed w p.notice) n ps hs (s ∷ ss) started hears alive same.1 (apart_rest (try_of name) ledger p ps h hs n (s ∷ ss) apart) heard.1 due
    (subst (λ (x : Work). IsTelling before f ledger owes name was x hs (requests_in ids ++ []) started) (sym (acted_own w (notice_act p.notice) (s ∷ ss)))
    (one_told before f ledger owes name was come p.notice h hs (requests_in ids ++ []) started (ap hears_something leaves.hears ∙ hears) (ap has_ended leaves.life ∙ alive) same.0 heard.0 (λ q i. behind_in name ledger p ps h hs n n (s ∷ ss) (le_from p.settled n t) (omega arith) apart q (of_requests q ids i)) k)))
    (λ t.
    let late = not_le_from p.settled n t in
    let next : n + 1 ≡ suc n = omega arith in
    told_holds before f ledger owes name was v (n + 1) (p ∷ ps) (h ∷ hs) ss started (ap hears_something still.hears ∙ hears) (ap has_ended still.life ∙ alive) same (subst (λ m. AreApart (try_of name) ledger (p ∷ ps) (h ∷ hs) m ss) (sym next) apart.1) heard due.1
    (settled_between before f ledger owes name was w h hs s ss started hears due.0
    (record { number = apart.0.number; of_shape = apart.0.of_shape; stands = apart.0.stands; full = sym (apart.0.apart 0 p h refl refl) ∙ lt_test n p.settled late }) k))

-- and where nobody hears any
pub unheard_holds : (before : List Action) (f : Core) (ledger : Ledger) (owes : ℕ → Option Outcome) (name : ℕ → ℕ) (was : ℕ → Bool) (w : Work) (n : ℕ) (ss : List Settled) (started : List ℕ) → AllByRecursion (IsDue owes name was) ss
    → IsTelling before f ledger owes name was (own_each w ss) [] (requests_in (settled_ids ss) ++ []) started → IsTelling before f ledger owes name was (told_each w n [] ss) [] [] started
unheard_holds before f ledger owes name was w n ss started due k =
    subst (λ (x : Work). IsTelling before f ledger owes name was x [] [] started) (sym (none_told w n ss)) (answered_last before f ledger owes name was w ss started due k)

-- it begins
pub telling : (before : List Action) (f : Core) (w : Work) (untold : List Heard) (pending started : List ℕ) → Tells before f w untold pending started → IsInLine w.conn.requests (link_in w.conn.life) w.conn.admitted w.conn.waiting pending → AnswersNone w.conn pending
    → (let b = book (trace_of_acts before f w.acts) in IsTelling before f (b.link f.single.link) (owed b) (name_at w.conn.requests) (is_open_at w.conn.requests) w untold pending started)
telling before f w untold pending started h line quiet = record { holds = h; line = line; quiet = quiet; told = ((book (trace_of_acts before f w.acts)).link f.single.link).told; ledger_is = refl; owed_is = λ n. refl; named = λ p. refl; opens = λ p o. o }
