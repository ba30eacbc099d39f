-- What each part of a turn keeps: a fact of the limit of permits, of the requests, of the link's life, of those that were moved, and of what the turn has shown.
use Rattle.std.proofs.Common.{ℕ, true, false, Bool, List, [], length, Option, Some, None, refl, ap, arith, nat_le, ◌≡◌, ◌+◌, ◌≤◌, ◌==◌, ◌&&◌, ◌||◌, ◌∷◌, ◌++◌, ◌∙◌, if◌then◌else◌, ◌⊎◌, inl, inr, ◌≢◌, not}
use Rattle.containers.proofs.Choices.{chosen, both_right}
use Rattle.redis_error.specs.declared.redis_error.RedisError.TheVariants as error
use Rattle.redis_error.specs.declared.fault_kind.FaultKind.TheVariants as kinds
use Rattle.redis_error.specs.declared.fault_kind.FaultKind.{FaultKind}
use Rattle.redis_error.specs.declared.redis_error.RedisError.{RedisError}
use Rattle.resp_value.specs.declared.value.Value.TheVariants.{Nil}
use Rattle.credentials.specs.Credentials.{Credentials}
use Rattle.connection_setup.specs.declared.judgement.SetupResult.{SetupResult}
use Rattle.connection_setup.specs.declared.judgement.SetupResult.TheVariants as result
use Rattle.driver_model.specs.declared.news.LinkFault.{LinkFault}
use Rattle.driver_model.specs.declared.news.LinkFault.TheVariants as fault
use Rattle.driver_model.specs.declared.outcome.Outcome.{Outcome}
use Rattle.driver_model.specs.declared.outcome.Outcome.TheVariants as outcome
use Rattle.driver_model.specs.News.{News, silence, connected, took, failed, shut, refused, overdue, authorized, denied, deserted, renewed, unrenewed, late, unrepeated, dropped, came}
use Rattle.driver_model.specs.Setup.{says_nothing}
use Rattle.driver_model.specs.Shape.{outcome_of}
use Rattle.link_core.specs.declared.message.Queued.{Queued}
use Rattle.link_core.specs.declared.message.Settled.{Settled}
use Rattle.link_core.specs.declared.message.Started.{Started}
use Rattle.link_core.specs.Link.{LinkState, Starting, Reading, fresh, enqueued, begun, start_of, holds_back, is_up_to, started_one, started_each, started_all, started_to_each, started_to, offered_of, wrote_of, piece_read, faulted, closed_all}
use Rattle.mux_conn.specs.declared.act.LinkAct.{LinkAct}
use Rattle.mux_conn.specs.declared.act.LinkAct.TheVariants as act
use Rattle.mux_conn.specs.declared.again.Again.{Again}
use Rattle.mux_conn.specs.declared.again.Again.TheVariants as again
use Rattle.mux_conn.specs.declared.connection.MultiplexedConnection.{MultiplexedConnection}
use Rattle.mux_conn.specs.declared.life.Greeting.{Greeting}
use Rattle.mux_conn.specs.declared.life.Life.{Life}
use Rattle.mux_conn.specs.declared.life.Life.TheVariants.{Resting, Dialing, Wanting, SettingUp, Ready, Ended}
use Rattle.mux_conn.specs.declared.request.Progress.TheVariants as progress
use Rattle.mux_conn.specs.declared.request.Request.{Request}
use Rattle.mux_conn.specs.declared.request.Waiting.{Waiting}
use Rattle.mux_conn.specs.Connection.{Work, acted, opened_on, at_life, with_link, with_setup, with_wanting, has_room, admits_none, is_ready, is_due, is_repeating, is_serving, last_queued}
use Rattle.mux_conn.specs.Requests.{is_open_at, is_waiting_at, is_admitted_at, name_at, with_permits, at_progress, answered, is_unbegun_at, permits_at, progressed}
use Rattle.mux_conn.specs.Effects.{afresh, creation_told, given_up, new_link, settled_one, settled_each, failed_each, nobody_waits, waiting_failed, ended, opening_failed, authorized_at, come_up, comes_to_want, connected_at, unauthorized_at, with_credentials, refused_at, overdue_at, taken_at, failed_at, broken_at, read_to, read_at, shut_at, all_fresh, made_ready, steps_of, greeting_queued, greeting_error, greeted, greeted_by, is_unreadable, dropped_at, dropped_by, sets_up, judged_by, set_up_by, answered_setup, applied, cancelled_in, all_answered, behind_first, cut_short, heard_on, notice_act, noticed, noticed_each, parted, told_each, served, settled_other}
use Rattle.mux_conn.specs.Renewals as renewals
use Rattle.mux_conn.specs.Renewals.{renewing, expecting, takes_more, late_for, is_unanswered, renewal_id, renewal_queued, asked_next, renewal_act, renewal_timed, renewal_asked, started_ahead_at, started_ahead, renewal_told, renewal_moved}
use Rattle.mux_conn.specs.Starts.{shown_each}
use Rattle.mux_conn.specs.Passes.{greeting_act, greeted_each, started_at, started, message_of, placed_at, told_at_place, seated, still_admitted, moved_up, moved_up_each, moved_up_all, put_behind, seated_or_behind, permits_taken, holding, took_shown, took as holds, timer_asked, let_in, admitted_at, admitted, still_waiting, admitted_each, passed, round_begun, rounds_of, rounds_begun, moved_all, said}
use Rattle.conn_laws.proofs.Changes.Counts.{count_on, count_started, count_came}
use Rattle.conn_laws.proofs.Changes.Requests.{admitted_now, begun_waits}
use Rattle.driver_model.specs.Hearing.{felt, hears_messages, hears_pushes, is_watching}
use Rattle.driver_model.specs.declared.hearing.Hearing.{Hearing}
use Rattle.driver_model.specs.declared.hearing.Hearing.TheVariants as hearing
use Rattle.driver_model.specs.declared.hearing.Notice.{Notice}
use Rattle.driver_model.specs.declared.hearing.Notice.TheVariants as notice
use Rattle.link_core.specs.declared.message.NoticeAt.{NoticeAt}
use Rattle.mux_conn.specs.declared.life.Greeting.TheVariants as greet
use Rattle.resp_value.specs.declared.push_kind.PushKind.TheVariants.{Disconnection}
use Rattle.mux_conn.specs.Repeats.{is_to_start, is_untimed, with_timer, repeating, repeat_id, repeat_queued, repeat_timed, repeat_asked, repeat_act, repeat_told, repeat_moved, repeated}

-- what an act shows, if it is not the outcome of submission n
abbrev pub other_act : ℕ → LinkAct → List LinkAct
other_act n (act.Created e) = act.Created e ∷ []
other_act n (act.Round m) = act.Round m ∷ []
other_act n (act.Took m count) = act.Took m count ∷ []
other_act n (act.Timer m ms) = act.Timer m ms ∷ []
other_act n (act.RenewalTimer k ms) = act.RenewalTimer k ms ∷ []
other_act n (act.RepeatTimer ms) = act.RepeatTimer ms ∷ []
other_act n (act.Push info) = act.Push info ∷ []
other_act n (act.Message m) = act.Message m ∷ []
other_act n (act.Monitor v) = act.Monitor v ∷ []
other_act n act.NeedCreds = act.NeedCreds ∷ []
other_act n act.NeedRenewals = act.NeedRenewals ∷ []
other_act n act.Close = act.Close ∷ []
other_act n (act.Write bytes) = act.Write bytes ∷ []
other_act n (act.Wait m kind) = act.Wait m kind ∷ []
other_act n (act.Start message m need len) = act.Start message m need len ∷ []
other_act n (act.SetUp message need len) = act.SetUp message need len ∷ []
other_act n (act.Renewed message need len) = act.Renewed message need len ∷ []
other_act n (act.Repeated message need len) = act.Repeated message need len ∷ []
other_act n (act.Watch message need len) = act.Watch message need len ∷ []
other_act n (act.Outcome m o) = if m == n then [] else act.Outcome m o ∷ []

-- an act that answers nobody
abbrev pub IsPlain : LinkAct → Type 0
IsPlain a = (n : ℕ) → other_act n a ≡ a ∷ []

-- the number of a message of the driver's own on a link that is set up: of new credentials, or of what is subscribed again
abbrev pub IsOwnMessage : ℕ → Type 0
IsOwnMessage n = (n ≡ renewal_id) ⊎ (n ≡ repeat_id)

-- no request has it
abbrev pub IsApart : ℕ → Type 0
IsApart p = (q : ℕ) → IsOwnMessage q → q ≢ p

-- a fact of the limit of permits, of the requests, of the link's life, of those that were moved in a turn, and of its acts, that each single change keeps
pub record IsKept (P : Option ℕ → List Request → Life → List ℕ → List LinkAct → Type 0) : Type 0 where
  pub answer : (lim : Option ℕ) (r : List Request) (life : Life) (ms : List ℕ) (xs : List LinkAct) (q : ℕ) (o : Outcome) → is_open_at r q ≡ true → P lim r life ms xs → P lim (with_permits r q progress.Closed 0) life ms (xs ++ act.Outcome (name_at r q) o ∷ [])
  pub cancel : (lim : Option ℕ) (r : List Request) (life : Life) (ms : List ℕ) (xs : List LinkAct) (q : ℕ) → is_open_at r q ≡ true → P lim r life ms xs → P lim (with_permits r q progress.Closed 0) (cancelled_in life q) ms xs
  pub hush : (lim : Option ℕ) (r : List Request) (life : Life) (ms : List ℕ) (xs : List LinkAct) (q : ℕ) → P lim r life ms xs → P lim r (cancelled_in life q) ms xs
  pub want : (lim : Option ℕ) (r : List Request) (size bound : ℕ) (ms : List ℕ) (xs : List LinkAct) → P lim r Dialing ms xs → P lim r (Wanting (fresh size bound)) ms xs
  pub wait_on : (lim : Option ℕ) (r : List Request) (l k : LinkState) (ms : List ℕ) (xs : List LinkAct) → count_on k ≤ count_on l → P lim r (Wanting l) ms xs → P lim r (Wanting k) ms xs
  pub connect : (lim : Option ℕ) (r : List Request) (l : LinkState) (ms : List ℕ) (xs : List LinkAct) → P lim r (Wanting l) ms xs → P lim r (Ready l) ms xs
  pub set_up : (lim : Option ℕ) (r : List Request) (l : LinkState) (ms : List ℕ) (xs : List LinkAct) (q : Queued) (greeting : Greeting) → P lim r (Wanting l) ms xs → P lim r (SettingUp (enqueued l q) greeting) ms xs
  pub go_on : (lim : Option ℕ) (r : List Request) (l k : LinkState) (greeting : Greeting) (ms : List ℕ) (xs : List LinkAct) → count_on k ≤ count_on l → P lim r (SettingUp l greeting) ms xs → P lim r (SettingUp k greeting) ms xs
  pub repeat : (lim : Option ℕ) (r : List Request) (l k : LinkState) (q : Queued) (greeting next : Greeting) (ms : List ℕ) (xs : List LinkAct) → count_on k + 1 ≤ count_on l → P lim r (SettingUp l greeting) ms xs → P lim r (SettingUp (enqueued k q) next) ms xs
  pub ready : (lim : Option ℕ) (r : List Request) (l k : LinkState) (greeting : Greeting) (ms : List ℕ) (xs : List LinkAct) → count_on k + 1 ≤ count_on l → P lim r (SettingUp l greeting) ms xs → P lim r (Ready k) ms xs
  pub round : (lim : Option ℕ) (r : List Request) (life : Life) (ms : List ℕ) (xs : List LinkAct) (q : ℕ) → is_unbegun_at r q ≡ true → P lim r life ms xs → P lim (at_progress r q progress.Begun) life ms xs
  pub admit : (lim : Option ℕ) (r : List Request) (life : Life) (ms : List ℕ) (xs : List LinkAct) (q count : ℕ) → is_waiting_at r q ≡ true → P lim r life ms xs → P lim (with_permits r q progress.Admitted count) life ms xs
  pub note : (lim : Option ℕ) (r : List Request) (life : Life) (ms : List ℕ) (xs : List LinkAct) (q : ℕ) → is_admitted_at r q ≡ true → P lim r life ms xs → P lim r life (ms ++ q ∷ []) xs
  pub place : (lim : Option ℕ) (r : List Request) (l : LinkState) (ms : List ℕ) (xs : List LinkAct) (q : Waiting) → is_admitted_at r q.number ≡ true → P lim r (Ready l) ms xs → P lim (at_progress r q.number progress.Placed) (Ready (enqueued l (message_of q))) ms xs
  pub start : (lim : Option ℕ) (r : List Request) (l : LinkState) (q : Queued) (qs : List Queued) (ms : List ℕ) (xs : List LinkAct) → P lim r (Ready (record l { queue = q ∷ qs })) ms xs → P lim r (Ready (record (begun l q) { queue = qs })) ms xs
  pub say : (lim : Option ℕ) (r : List Request) (l : LinkState) (ms : List ℕ) (xs : List LinkAct) (q : Queued) → IsOwnMessage q.id → P lim r (Ready l) ms xs → P lim r (Ready (begun l q)) ms xs
  pub offer : (lim : Option ℕ) (r : List Request) (l : LinkState) (ms : List ℕ) (xs : List LinkAct) → P lim r (Ready l) ms xs → P lim r (Ready (offered_of l)) ms xs
  pub write : (lim : Option ℕ) (r : List Request) (l : LinkState) (ms : List ℕ) (xs : List LinkAct) (k : ℕ) → P lim r (Ready l) ms xs → P lim r (Ready (wrote_of l k)) ms xs
  pub come : (lim : Option ℕ) (r : List Request) (l : LinkState) (ms : List ℕ) (xs : List LinkAct) (h : Hearing) (piece : List ℕ) → P lim r (Ready l) ms xs → P lim r (Ready (piece_read h true l piece).link) ms xs
  pub end : (lim : Option ℕ) (r : List Request) (life : Life) (ms : List ℕ) (xs : List LinkAct) (e : RedisError) → P lim r life ms xs → P lim r (Ended e) ms xs
  pub rest : (lim : Option ℕ) (r : List Request) (life : Life) (ms : List ℕ) (xs : List LinkAct) → P lim r life ms xs → P lim r Resting ms xs
  pub show : (lim : Option ℕ) (r : List Request) (life : Life) (ms : List ℕ) (xs : List LinkAct) (a : LinkAct) → IsPlain a → P lim r life ms xs → P lim r life ms (xs ++ a ∷ [])
  pub calm : (lim : Option ℕ) (r : List Request) (life : Life) (ms : List ℕ) (xs : List LinkAct) → P lim r life ms xs → P lim r life [] xs

-- the same of the requests and the life alone
pub record IsKeptThere (P : List Request → Life → Type 0) : Type 0 where
  pub answer : (r : List Request) (life : Life) (q : ℕ) → P r life → P (with_permits r q progress.Closed 0) life
  pub hush : (r : List Request) (life : Life) (q : ℕ) → P r life → P r (cancelled_in life q)
  pub want : (r : List Request) (size bound : ℕ) → P r Dialing → P r (Wanting (fresh size bound))
  pub wait_on : (r : List Request) (l k : LinkState) → count_on k ≤ count_on l → P r (Wanting l) → P r (Wanting k)
  pub connect : (r : List Request) (l : LinkState) → P r (Wanting l) → P r (Ready l)
  pub set_up : (r : List Request) (l : LinkState) (q : Queued) (greeting : Greeting) → P r (Wanting l) → P r (SettingUp (enqueued l q) greeting)
  pub go_on : (r : List Request) (l k : LinkState) (greeting : Greeting) → count_on k ≤ count_on l → P r (SettingUp l greeting) → P r (SettingUp k greeting)
  pub repeat : (r : List Request) (l k : LinkState) (q : Queued) (greeting next : Greeting) → count_on k + 1 ≤ count_on l → P r (SettingUp l greeting) → P r (SettingUp (enqueued k q) next)
  pub ready : (r : List Request) (l k : LinkState) (greeting : Greeting) → count_on k + 1 ≤ count_on l → P r (SettingUp l greeting) → P r (Ready k)
  pub round : (r : List Request) (life : Life) (q : ℕ) → is_unbegun_at r q ≡ true → P r life → P (at_progress r q progress.Begun) life
  pub admit : (r : List Request) (life : Life) (q count : ℕ) → is_waiting_at r q ≡ true → P r life → P (with_permits r q progress.Admitted count) life
  pub place : (r : List Request) (l : LinkState) (q : Waiting) → is_admitted_at r q.number ≡ true → P r (Ready l) → P (at_progress r q.number progress.Placed) (Ready (enqueued l (message_of q)))
  pub start : (r : List Request) (l : LinkState) (q : Queued) (qs : List Queued) → P r (Ready (record l { queue = q ∷ qs })) → P r (Ready (record (begun l q) { queue = qs }))
  pub say : (r : List Request) (l : LinkState) (q : Queued) → IsOwnMessage q.id → P r (Ready l) → P r (Ready (begun l q))
  pub offer : (r : List Request) (l : LinkState) → P r (Ready l) → P r (Ready (offered_of l))
  pub write : (r : List Request) (l : LinkState) (k : ℕ) → P r (Ready l) → P r (Ready (wrote_of l k))
  pub come : (r : List Request) (l : LinkState) (h : Hearing) (piece : List ℕ) → P r (Ready l) → P r (Ready (piece_read h true l piece).link)
  pub end : (r : List Request) (life : Life) (e : RedisError) → P r life → P r (Ended e)
  pub rest : (r : List Request) (life : Life) → P r life → P r Resting

-- a fact of the requests and the life, whatever the limit is, and whatever a turn has moved and shown
abbrev pub There : (List Request → Life → Type 0) → Option ℕ → List Request → Life → List ℕ → List LinkAct → Type 0
There P lim r life ms xs = P r life

-- it is kept where its parts are: a cancel looks away from a message, and closes its request
pub kept_there : {P : List Request → Life → Type 0} → IsKeptThere P → IsKept (There P)
kept_there k = record {
  answer = λ lim r life ms xs q o t h. k.answer r life q h;
  cancel = λ lim r life ms xs q t h. k.answer r (cancelled_in life q) q (k.hush r life q h);
  hush = λ lim r life ms xs q h. k.hush r life q h;
  want = λ lim r size bound ms xs h. k.want r size bound h;
  wait_on = λ lim r l m ms xs few h. k.wait_on r l m few h;
  connect = λ lim r l ms xs h. k.connect r l h;
  set_up = λ lim r l ms xs q greeting h. k.set_up r l q greeting h;
  go_on = λ lim r l m greeting ms xs few h. k.go_on r l m greeting few h;
  repeat = λ lim r l m q greeting next ms xs few h. k.repeat r l m q greeting next few h;
  ready = λ lim r l m greeting ms xs few h. k.ready r l m greeting few h;
  round = λ lim r life ms xs q t h. k.round r life q t h;
  admit = λ lim r life ms xs q count t h. k.admit r life q count t h;
  note = λ lim r life ms xs q t h. h;
  place = λ lim r l ms xs q t h. k.place r l q t h;
  start = λ lim r l q qs ms xs h. k.start r l q qs h;
  say = λ lim r l ms xs q own h. k.say r l q own h;
  offer = λ lim r l ms xs h. k.offer r l h;
  write = λ lim r l ms xs n h. k.write r l n h;
  come = λ lim r l ms xs what piece h. k.come r l what piece h;
  end = λ lim r life ms xs e h. k.end r life e h;
  rest = λ lim r life ms xs h. k.rest r life h;
  show = λ lim r life ms xs a p h. h;
  calm = λ lim r life ms xs h. h;
}

-- permits aren't counted
abbrev pub Unlimited : Option ℕ → List Request → Life → List ℕ → List LinkAct → Type 0
Unlimited lim r life ms xs = lim ≡ None

-- which nothing changes
pub unlimited_kept : IsKept Unlimited
unlimited_kept = record {
  answer = λ lim r life ms xs q o t h. h;
  cancel = λ lim r life ms xs q t h. h;
  hush = λ lim r life ms xs q h. h;
  want = λ lim r size bound ms xs h. h;
  wait_on = λ lim r l k ms xs few h. h;
  connect = λ lim r l ms xs h. h;
  set_up = λ lim r l ms xs q greeting h. h;
  go_on = λ lim r l k greeting ms xs few h. h;
  repeat = λ lim r l k q greeting next ms xs few h. h;
  ready = λ lim r l k greeting ms xs few h. h;
  round = λ lim r life ms xs q t h. h;
  admit = λ lim r life ms xs q count t h. h;
  note = λ lim r life ms xs q t h. h;
  place = λ lim r l ms xs q t h. h;
  start = λ lim r l q qs ms xs h. h;
  say = λ lim r l ms xs q own h. h;
  offer = λ lim r l ms xs h. h;
  write = λ lim r l ms xs n h. h;
  come = λ lim r l ms xs what piece h. h;
  end = λ lim r life ms xs e h. h;
  rest = λ lim r life ms xs h. h;
  show = λ lim r life ms xs a p h. h;
  calm = λ lim r life ms xs h. h;
}

-- the fact where a turn stands
abbrev pub At : (Option ℕ → List Request → Life → List ℕ → List LinkAct → Type 0) → Work → Type 0
At P w = P w.conn.limit w.conn.requests w.conn.life w.conn.moved w.acts

-- answers
--
-- an answer
pub answered_kept : {P : Option ℕ → List Request → Life → List ℕ → List LinkAct → Type 0} → IsKept P → (w : Work) (q : ℕ) (o : Outcome) → At P w → At P (answered w q o)
answered_kept {P = P} k w q o h = chosen (At P) (is_open_at w.conn.requests q) _ w (λ t. k.answer w.conn.limit w.conn.requests w.conn.life w.conn.moved w.acts q o t h) (λ f. h)

-- what is subscribed again is answered, or the time for it is over
pub served_kept : {P : Option ℕ → List Request → Life → List ℕ → List LinkAct → Type 0} → IsKept P → (w : Work) → At P w → At P (served w)
served_kept {P = P} k w h = chosen (At P) (is_repeating w.conn) (all_fresh (repeating w again.Nothing)) w (λ t. h) (λ f. h)

-- a message that the link has settled: it is a request's, or that of new credentials, or the one that subscribes again
pub settled_one_kept : {P : Option ℕ → List Request → Life → List ℕ → List LinkAct → Type 0} → IsKept P → (w : Work) (s : Settled) → At P w → At P (settled_one w s)
settled_one_kept {P = P} k w s h = chosen (At P) (s.id == renewal_id) _ (settled_other w s) (λ t. h)
    (λ f. chosen (At P) (s.id == repeat_id) (served w) (answered w s.id (outcome_of s.verdict)) (λ t. served_kept k w h) (λ g. answered_kept k w s.id (outcome_of s.verdict) h))

-- what the link settled
pub settled_kept : {P : Option ℕ → List Request → Life → List ℕ → List LinkAct → Type 0} → IsKept P → (w : Work) (ss : List Settled) → At P w → At P (settled_each w ss)
settled_kept k w [] h = h
settled_kept k w (s ∷ ss) h = settled_kept k (settled_one w s) ss (settled_one_kept k w s h)

-- requests that get an error
pub failed_each_kept : {P : Option ℕ → List Request → Life → List ℕ → List LinkAct → Type 0} → IsKept P → (w : Work) (e : RedisError) (qs : List Waiting) → At P w → At P (failed_each w e qs)
failed_each_kept k w e [] h = h
failed_each_kept k w e (q ∷ qs) h = failed_each_kept k (answered w q.number (outcome.Fault e)) e qs (answered_kept k w q.number (outcome.Fault e) h)

-- those that wait
waiting_kept : {P : Option ℕ → List Request → Life → List ℕ → List LinkAct → Type 0} → IsKept P → (w : Work) (e : RedisError) → At P w → At P (waiting_failed w e)
waiting_kept k w e h = failed_each_kept k (failed_each (nobody_waits w) e w.conn.admitted) e w.conn.waiting (failed_each_kept k (nobody_waits w) e w.conn.admitted h)

-- the link is over, which is shown
pub over_kept : {P : Option ℕ → List Request → Life → List ℕ → List LinkAct → Type 0} → IsKept P → (w : Work) (e : RedisError) (a : LinkAct) → IsPlain a → At P w → At P (acted (at_life w (Ended e)) a)
over_kept k w e a plain h = k.show w.conn.limit w.conn.requests (Ended e) w.conn.moved w.acts a plain (k.end w.conn.limit w.conn.requests w.conn.life w.conn.moved w.acts e h)

-- the end of the link
ended_kept : {P : Option ℕ → List Request → Life → List ℕ → List LinkAct → Type 0} → IsKept P → (w : Work) (out : List Settled) → At P w → At P (ended w out)
ended_kept k w out h =
    let d = acted (at_life w (Ended error.Closed)) act.Close in
    waiting_kept k (settled_each d out) error.Closed (settled_kept k d out (over_kept k w error.Closed act.Close (λ n. refl) h))

-- notices
--
-- what shows one answers nobody
pub notice_plain : (n : Notice) → IsPlain (notice_act n)
notice_plain (notice.Push info) = λ m. refl
notice_plain (notice.Message msg) = λ m. refl
notice_plain (notice.Monitor v) = λ m. refl

-- one is told
pub notice_kept : {P : Option ℕ → List Request → Life → List ℕ → List LinkAct → Type 0} → IsKept P → (w : Work) (n : Notice) → At P w → At P (noticed w n)
notice_kept k w n h = k.show w.conn.limit w.conn.requests w.conn.life w.conn.moved w.acts (notice_act n) (notice_plain n) h

-- those that came are, in order
notices_kept : {P : Option ℕ → List Request → Life → List ℕ → List LinkAct → Type 0} → IsKept P → (w : Work) (ps : List NoticeAt) → At P w → At P (noticed_each w ps)
notices_kept k w [] h = h
notices_kept k w (p ∷ ps) h = notices_kept k (noticed w p.notice) ps (notice_kept k w p.notice h)

-- each in its place, and what the link settled is answered
pub telling_kept : {P : Option ℕ → List Request → Life → List ℕ → List LinkAct → Type 0} → IsKept P → (w : Work) (n : ℕ) (ps : List NoticeAt) (ss : List Settled) → At P w → At P (told_each w n ps ss)
telling_kept k w n ps [] h = notices_kept k w ps h
telling_kept k w n [] (s ∷ ss) h = settled_kept k w (s ∷ ss) h
telling_kept {P = P} k w n (p ∷ ps) (s ∷ ss) h =
    chosen (At P) (nat_le p.settled n) (told_each (noticed w p.notice) n ps (s ∷ ss)) (told_each (settled_one w s) (n + 1) (p ∷ ps) ss)
    (λ t. telling_kept k (noticed w p.notice) n ps (s ∷ ss) (notice_kept k w p.notice h))
    (λ f. telling_kept k (settled_one w s) (n + 1) (p ∷ ps) ss (settled_one_kept k w s h))

-- where the link is set up
heard_on_kept : {P : Option ℕ → List Request → Life → List ℕ → List LinkAct → Type 0} → IsKept P → (w : Work) (ps : List NoticeAt) → At P w → At P (heard_on w ps)
heard_on_kept {P = P} k w ps h = chosen (At P) (is_ready w.conn.life) (noticed_each w ps) w (λ t. notices_kept k w ps h) (λ f. h)

-- and so is the end
pub parted_kept : {P : Option ℕ → List Request → Life → List ℕ → List LinkAct → Type 0} → IsKept P → (w : Work) → At P w → At P (parted w)
parted_kept {P = P} k w h =
    let end = notice.Push (record { kind = Disconnection; parts = [] }) in
    chosen (At P) (hears_pushes w.conn.hears) (noticed w end) w (λ t. notice_kept k w end h) (λ f. h)

-- a fault ends the link
faulted_kept : {P : Option ℕ → List Request → Life → List ℕ → List LinkAct → Type 0} → IsKept P → (w : Work) (out : List Settled) → At P w → At P (all_answered (parted (cut_short w)) out)
faulted_kept k w out h =
    let d = parted (cut_short w) in
    waiting_kept k (settled_each d out) error.Closed (settled_kept k d out (parted_kept k (cut_short w) (over_kept k w error.Closed act.Close (λ n. refl) h)))

-- what is shown unless it was before
pub creation_kept : {P : Option ℕ → List Request → Life → List ℕ → List LinkAct → Type 0} → IsKept P → (w : Work) (e : Option RedisError) → At P w → At P (creation_told w e)
creation_kept {P = P} k w e h =
    chosen (λ (xs : List LinkAct). P w.conn.limit w.conn.requests w.conn.life w.conn.moved xs) w.conn.told w.acts (w.acts ++ act.Created e ∷ [])
    (λ t. h)
    (λ f. k.show w.conn.limit w.conn.requests w.conn.life w.conn.moved w.acts (act.Created e) (λ n. refl) h)

-- the end of an opening, after which another attempt may follow
opening_kept : {P : Option ℕ → List Request → Life → List ℕ → List LinkAct → Type 0} → IsKept P → (w : Work) (e : RedisError) → At P w → At P (opening_failed w e)
opening_kept {P = P} k w e h =
    let over : At P (at_life w (Ended e)) = k.end w.conn.limit w.conn.requests w.conn.life w.conn.moved w.acts e h in
    chosen (At P) w.conn.last (given_up w e) (record w { conn = afresh w.conn })
    (λ t. waiting_kept k (creation_told (at_life w (Ended e)) (Some e)) e (creation_kept k (at_life w (Ended e)) (Some e) over))
    (λ f. k.calm w.conn.limit w.conn.requests Resting w.conn.moved w.acts (k.rest w.conn.limit w.conn.requests w.conn.life w.conn.moved w.acts h))

-- the end of one whose link is closed
given_up_kept : {P : Option ℕ → List Request → Life → List ℕ → List LinkAct → Type 0} → IsKept P → (w : Work) (e : RedisError) → At P w → At P (opening_failed (acted w act.Close) e)
given_up_kept k w e h = opening_kept k (acted w act.Close) e (k.show w.conn.limit w.conn.requests w.conn.life w.conn.moved w.acts act.Close (λ n. refl) h)

-- news
--
-- a link is set up, and a source of new credentials is asked for, where they are to come
made_ready_kept : {P : Option ℕ → List Request → Life → List ℕ → List LinkAct → Type 0} → IsKept P → (w : Work) (l : LinkState) → P w.conn.limit w.conn.requests (Ready l) w.conn.moved w.acts → At P (made_ready w l)
made_ready_kept {P = P} k w l g =
    let d = creation_told (opened_on (all_fresh w) l) None in
    let h : At P d = creation_kept k (opened_on (all_fresh w) l) None g in
    chosen (At P) w.conn.renewal.wanted (acted d act.NeedRenewals) d (λ t. k.show d.conn.limit d.conn.requests d.conn.life d.conn.moved d.acts act.NeedRenewals (λ n. refl) h) (λ f. h)

-- a link comes up, where the fact is true of it while it waits for credentials
come_up_kept : {P : Option ℕ → List Request → Life → List ℕ → List LinkAct → Type 0} → IsKept P → (w : Work) (l : LinkState) → P w.conn.limit w.conn.requests (Wanting l) w.conn.moved w.acts → At P (come_up w l)
come_up_kept {P = P} k w l g =
    let begins : (greeting : Greeting) → P w.conn.limit w.conn.requests (SettingUp (enqueued l (greeting_queued w.conn greeting)) greeting) w.conn.moved w.acts =
    (λ greeting. k.set_up w.conn.limit w.conn.requests l w.conn.moved w.acts (greeting_queued w.conn greeting) greeting g) in
    chosen (At P) (says_nothing (steps_of w.conn greet.WithUser)) (greeted w l) (sets_up (all_fresh w) l greet.WithUser)
    (λ t. chosen (At P) (is_watching w.conn.hears) (sets_up w l greet.Monitor) (made_ready w l)
    (λ u. begins greet.Monitor)
    (λ u. made_ready_kept k w l (k.connect w.conn.limit w.conn.requests l w.conn.moved w.acts g)))
    (λ f. begins greet.WithUser)

-- a function of the life that a connection has is looked at with any life of which the fact is true
connected_kept : {P : Option ℕ → List Request → Life → List ℕ → List LinkAct → Type 0} → IsKept P → (w : Work) (life : Life) → P w.conn.limit w.conn.requests life w.conn.moved w.acts → At P w → At P (connected_at w life)
connected_kept {P = P} k w Dialing g h =
    let link = new_link w.conn in
    let wanting = k.want w.conn.limit w.conn.requests w.conn.size w.conn.boundary w.conn.moved w.acts g in
    chosen (At P) w.conn.renewal.wanted (comes_to_want w link) (come_up w link)
    (λ t. k.show w.conn.limit w.conn.requests (Wanting link) w.conn.moved w.acts act.NeedCreds (λ n. refl) wanting)
    (λ f. come_up_kept k w link wanting)
connected_kept k w Resting g h = h
connected_kept k w (Wanting l) g h = h
connected_kept k w (SettingUp l greeting) g h = h
connected_kept k w (Ready l) g h = h
connected_kept k w (Ended e) g h = h

-- credentials come
authorized_kept : {P : Option ℕ → List Request → Life → List ℕ → List LinkAct → Type 0} → IsKept P → (w : Work) (c : Credentials) (life : Life) → P w.conn.limit w.conn.requests life w.conn.moved w.acts → At P w → At P (authorized_at w c life)
authorized_kept k w c (Wanting l) g h = come_up_kept k (with_credentials w c) l g
authorized_kept k w c Resting g h = h
authorized_kept k w c Dialing g h = h
authorized_kept k w c (SettingUp l greeting) g h = h
authorized_kept k w c (Ready l) g h = h
authorized_kept k w c (Ended e) g h = h

-- or there are none
unauthorized_kept : {P : Option ℕ → List Request → Life → List ℕ → List LinkAct → Type 0} → IsKept P → (w : Work) (e : RedisError) (life : Life) → At P w → At P (unauthorized_at w e life)
unauthorized_kept k w e (Wanting l) h = given_up_kept k w e h
unauthorized_kept k w e Resting h = h
unauthorized_kept k w e Dialing h = h
unauthorized_kept k w e (SettingUp l greeting) h = h
unauthorized_kept k w e (Ready l) h = h
unauthorized_kept k w e (Ended x) h = h

-- the connect is refused
refused_kept : {P : Option ℕ → List Request → Life → List ℕ → List LinkAct → Type 0} → IsKept P → (w : Work) (f : FaultKind) (life : Life) → At P w → At P (refused_at w f life)
refused_kept k w f Resting h = h
refused_kept k w f Dialing h = opening_kept k w (error.Io f) h
refused_kept k w f (Wanting l) h = h
refused_kept k w f (SettingUp l greeting) h = h
refused_kept k w f (Ready l) h = h
refused_kept k w f (Ended e) h = h

-- the time to connect is over
overdue_kept : {P : Option ℕ → List Request → Life → List ℕ → List LinkAct → Type 0} → IsKept P → (w : Work) (life : Life) → At P w → At P (overdue_at w life)
overdue_kept k w Resting h = h
overdue_kept k w Dialing h = given_up_kept k w (error.Io kinds.TimedOut) h
overdue_kept k w (Wanting l) h = given_up_kept k w (error.Io kinds.TimedOut) h
overdue_kept k w (SettingUp l greeting) h = given_up_kept k w (error.Io kinds.TimedOut) h
overdue_kept k w (Ready l) h = h
overdue_kept k w (Ended e) h = h

-- bytes were taken
taken_kept : {P : Option ℕ → List Request → Life → List ℕ → List LinkAct → Type 0} → IsKept P → (w : Work) (count : ℕ) (life : Life) → P w.conn.limit w.conn.requests life w.conn.moved w.acts → At P w → At P (taken_at w count life)
taken_kept k w count (Ready l) g h = k.write w.conn.limit w.conn.requests l w.conn.moved w.acts count g
taken_kept k w count Resting g h = h
taken_kept k w count Dialing g h = h
taken_kept k w count (Wanting l) g h = k.wait_on w.conn.limit w.conn.requests l (wrote_of l count) w.conn.moved w.acts (omega arith) g
taken_kept k w count (SettingUp l greeting) g h = k.go_on w.conn.limit w.conn.requests l (wrote_of l count) greeting w.conn.moved w.acts (omega arith) g
taken_kept k w count (Ended e) g h = h

-- a fault
failed_kept : {P : Option ℕ → List Request → Life → List ℕ → List LinkAct → Type 0} → IsKept P → (w : Work) (f : LinkFault) (life : Life) → At P w → At P (failed_at w f life)
failed_kept k w f (Ready l) h = faulted_kept k w (faulted (record { link = l; out = [] }) (felt w.conn.hears f)).out h
failed_kept k w f Resting h = h
failed_kept k w f Dialing h = h
failed_kept k w f (Wanting l) h = given_up_kept k w error.Closed h
failed_kept k w f (SettingUp l greeting) h = given_up_kept k w (greeting_error greeting l.row f) h
failed_kept k w f (Ended e) h = h

-- the stream of messages is dropped
dropped_at_kept : {P : Option ℕ → List Request → Life → List ℕ → List LinkAct → Type 0} → IsKept P → (w : Work) (life : Life) → At P w → At P (dropped_at w life)
dropped_at_kept k w (Ready l) h = faulted_kept k w (faulted (record { link = l; out = [] }) fault.Ended).out h
dropped_at_kept k w Resting h = h
dropped_at_kept k w Dialing h = given_up_kept k w error.Closed h
dropped_at_kept k w (Wanting l) h = given_up_kept k w error.Closed h
dropped_at_kept k w (SettingUp l greeting) h = given_up_kept k w error.Closed h
dropped_at_kept k w (Ended e) h = h

-- which ends a link of messages
dropped_kept : {P : Option ℕ → List Request → Life → List ℕ → List LinkAct → Type 0} → IsKept P → (w : Work) → At P w → At P (dropped_by w)
dropped_kept {P = P} k w h = chosen (At P) (hears_messages w.conn.hears) (dropped_at w w.conn.life) w (λ t. dropped_at_kept k w w.conn.life h) (λ f. h)

-- what can't be read on
broken_kept : {P : Option ℕ → List Request → Life → List ℕ → List LinkAct → Type 0} → IsKept P → (b : Bool) (w : Work) → At P w → At P (broken_at b w)
broken_kept {P = P} k b w h = chosen (At P) b (failed_at w fault.Parse w.conn.life) w (λ t. failed_kept k w fault.Parse w.conn.life h) (λ f. h)

-- what the link settled by bytes
read_kept : {P : Option ℕ → List Request → Life → List ℕ → List LinkAct → Type 0} → IsKept P → (w : Work) (r : Reading) → P w.conn.limit w.conn.requests (Ready r.link) w.conn.moved w.acts → At P (read_to w r)
read_kept k w r h = broken_kept k (r.link.broken || r.strange) (told_each (with_link w r.link) 0 r.notices r.out) (telling_kept k (with_link w r.link) 0 r.notices r.out h)

-- a greeting is answered well
greeted_kept : {P : Option ℕ → List Request → Life → List ℕ → List LinkAct → Type 0} → IsKept P → (w : Work) (l m : LinkState) (greeting : Greeting) → count_on m + 1 ≤ count_on l → P w.conn.limit w.conn.requests (SettingUp l greeting) w.conn.moved w.acts → At P (greeted w m)
greeted_kept {P = P} k w l m greeting few g =
    chosen (At P) (is_watching w.conn.hears) (sets_up w m greet.Monitor) (made_ready w m)
    (λ t. k.repeat w.conn.limit w.conn.requests l m (greeting_queued w.conn greet.Monitor) greeting greet.Monitor w.conn.moved w.acts few g)
    (λ f. made_ready_kept k w m (k.ready w.conn.limit w.conn.requests l m greeting w.conn.moved w.acts few g))

-- whichever it is
greeted_by_kept : {P : Option ℕ → List Request → Life → List ℕ → List LinkAct → Type 0} → IsKept P → (w : Work) (l m : LinkState) (greeting : Greeting) → count_on m + 1 ≤ count_on l → P w.conn.limit w.conn.requests (SettingUp l greeting) w.conn.moved w.acts → At P (greeted_by w m greeting)
greeted_by_kept k w l m greet.WithUser few g = greeted_kept k w l m greet.WithUser few g
greeted_by_kept k w l m greet.WithoutUser few g = greeted_kept k w l m greet.WithoutUser few g
greeted_by_kept k w l m greet.Monitor few g = made_ready_kept k w m (k.ready w.conn.limit w.conn.requests l m greet.Monitor w.conn.moved w.acts few g)

-- the setup is answered
set_up_by_kept : {P : Option ℕ → List Request → Life → List ℕ → List LinkAct → Type 0} → IsKept P → (w : Work) (l m : LinkState) (greeting : Greeting) (what : SetupResult) → count_on m + 1 ≤ count_on l → P w.conn.limit w.conn.requests (SettingUp l greeting) w.conn.moved w.acts → At P w → At P (set_up_by w m greeting what)
set_up_by_kept k w l m greeting result.Ready few g h = greeted_by_kept k w l m greeting few g
set_up_by_kept k w l m greeting result.RepeatWithoutUser few g h = k.repeat w.conn.limit w.conn.requests l m (greeting_queued w.conn greet.WithoutUser) greeting greet.WithoutUser w.conn.moved w.acts few g
set_up_by_kept k w l m greeting (result.Failed e) few g h = given_up_kept k w e h
set_up_by_kept k w l m greeting result.NoMemory few g h = h

-- if it is
answered_setup_kept : {P : Option ℕ → List Request → Life → List ℕ → List LinkAct → Type 0} → IsKept P → (w : Work) (l m : LinkState) (greeting : Greeting) (ps : List NoticeAt) (out : List Settled) → count_on m + length out ≤ count_on l → P w.conn.limit w.conn.requests (SettingUp l greeting) w.conn.moved w.acts → At P w → At P (answered_setup w m greeting ps out)
answered_setup_kept k w l m greeting ps [] few g h = k.go_on w.conn.limit w.conn.requests l m greeting w.conn.moved w.acts (omega (arith, few)) g
answered_setup_kept k w l m greeting ps (s ∷ ss) few g h =
    let r = judged_by (steps_of w.conn greeting) s.verdict in
    heard_on_kept k (set_up_by w m greeting r) (behind_first ps) (set_up_by_kept k w l m greeting r (omega (arith, few)) g h)

-- bytes come
came_kept : {P : Option ℕ → List Request → Life → List ℕ → List LinkAct → Type 0} → IsKept P → (w : Work) (piece : List ℕ) (life : Life) → P w.conn.limit w.conn.requests life w.conn.moved w.acts → At P w → At P (read_at w piece life)
came_kept k w piece (Ready l) g h = read_kept k w (piece_read w.conn.hears true l piece) (k.come w.conn.limit w.conn.requests l w.conn.moved w.acts w.conn.hears piece g)
came_kept k w piece Resting g h = h
came_kept k w piece Dialing g h = h
came_kept k w piece (Wanting l) g h =
    let r = piece_read hearing.Nothing false l piece in
    broken_kept k r.link.broken (with_wanting w r.link) (k.wait_on w.conn.limit w.conn.requests l r.link w.conn.moved w.acts (omega (arith, count_came hearing.Nothing false l piece)) g)
came_kept k w piece (SettingUp l greeting) g h =
    let r = piece_read w.conn.hears false l piece in
    let d = answered_setup w r.link greeting r.notices r.out in
    broken_kept k (is_unreadable r d) d (answered_setup_kept k w l r.link greeting r.notices r.out (count_came w.conn.hears false l piece) g h)
came_kept k w piece (Ended e) g h = h

-- the shutdown
shut_kept : {P : Option ℕ → List Request → Life → List ℕ → List LinkAct → Type 0} → IsKept P → (w : Work) (life : Life) → At P w → At P (shut_at w life)
shut_kept k w (Ready l) h = ended_kept k w (closed_all (record { link = l; out = [] })).out h
shut_kept k w Resting h = waiting_kept k w error.Closed h
shut_kept k w Dialing h = ended_kept k w [] h
shut_kept k w (Wanting l) h = ended_kept k w [] h
shut_kept k w (SettingUp l greeting) h = ended_kept k w [] h
shut_kept k w (Ended e) h = h

-- new credentials come, where more may
expecting_kept : {P : Option ℕ → List Request → Life → List ℕ → List LinkAct → Type 0} → IsKept P → (w : Work) (c : Credentials) → At P w → At P (record w { conn = expecting w.conn c })
expecting_kept {P = P} k w c h =
    chosen (λ (x : MultiplexedConnection). At P (record w { conn = x })) (is_ready w.conn.life && takes_more w.conn.renewal) _ w.conn (λ t. h) (λ f. h)

-- the time for new credentials is over
late_for_kept : {P : Option ℕ → List Request → Life → List ℕ → List LinkAct → Type 0} → IsKept P → (w : Work) (n : ℕ) → At P w → At P (record w { conn = late_for w.conn n })
late_for_kept {P = P} k w n h = chosen (λ (x : MultiplexedConnection). At P (record w { conn = x })) (is_unanswered w.conn.renewal n) _ w.conn (λ t. h) (λ f. h)

-- all news
pub applied_kept : {P : Option ℕ → List Request → Life → List ℕ → List LinkAct → Type 0} → IsKept P → (w : Work) (what : News) → At P w → At P (applied w what)
applied_kept k w silence h = h
applied_kept k w connected h = connected_kept k w w.conn.life h h
applied_kept k w (refused f) h = refused_kept k w f w.conn.life h
applied_kept k w overdue h = overdue_kept k w w.conn.life h
applied_kept k w (took count) h = taken_kept k w count w.conn.life h h
applied_kept k w (came piece) h = came_kept k w piece w.conn.life h h
applied_kept k w (failed f) h = failed_kept k w f w.conn.life h
applied_kept k w (authorized c) h = authorized_kept k w c w.conn.life h h
applied_kept k w (denied text) h = unauthorized_kept k w (error.Credentials text) w.conn.life h
applied_kept k w deserted h = unauthorized_kept k w (error.AuthFailed []) w.conn.life h
applied_kept k w (renewed c) h = expecting_kept k w c h
applied_kept k w unrenewed h = h
applied_kept k w (late n) h = late_for_kept k w n h
applied_kept k w unrepeated h = served_kept k w h
applied_kept k w dropped h = dropped_kept k w h
applied_kept k w shut h = shut_kept k w w.conn.life h

-- moves
--
-- starts are shown
shown_kept : {P : Option ℕ → List Request → Life → List ℕ → List LinkAct → Type 0} → IsKept P → (w : Work) (ss : List Started) → At P w → At P (shown_each w ss)
shown_kept k w [] h = h
shown_kept k w (s ∷ ss) h =
    let a = act.Start s.msg (name_at w.conn.requests s.id) s.need s.len in
    shown_kept k (acted w a) ss (k.show w.conn.limit w.conn.requests w.conn.life w.conn.moved w.acts a (λ n. refl) h)

-- what shows the start of a greeting answers nobody
pub greeting_plain : (greeting : Greeting) (s : Started) → IsPlain (greeting_act greeting s)
greeting_plain greet.WithUser s = λ n. refl
greeting_plain greet.WithoutUser s = λ n. refl
greeting_plain greet.Monitor s = λ n. refl

-- and so is that of a greeting
greeted_each_kept : {P : Option ℕ → List Request → Life → List ℕ → List LinkAct → Type 0} → IsKept P → (w : Work) (greeting : Greeting) (ss : List Started) → At P w → At P (greeted_each w greeting ss)
greeted_each_kept k w greeting [] h = h
greeted_each_kept k w greeting (s ∷ ss) h =
    let a = greeting_act greeting s in
    greeted_each_kept k (acted w a) greeting ss (k.show w.conn.limit w.conn.requests w.conn.life w.conn.moved w.acts a (greeting_plain greeting s) h)

-- messages of the queue start
starts_kept : {P : Option ℕ → List Request → Life → List ℕ → List LinkAct → Type 0} → IsKept P → (lim : Option ℕ) (r : List Request) (s : Starting) (queue : List Queued) (ms : List ℕ) (xs : List LinkAct) → P lim r (Ready (record s.link { queue = queue })) ms xs → P lim r (Ready (started_each s queue).link) ms xs
starts_kept k lim r s [] ms xs h = h
starts_kept {P = P} k lim r s (q ∷ qs) ms xs h =
    chosen (λ (x : Starting). P lim r (Ready x.link) ms xs) (holds_back s.link) _ _ (λ t. h) (λ f. starts_kept k lim r (started_one s q) qs ms xs (k.start lim r s.link q qs ms xs h))

-- those up to one of them do
ahead_kept : {P : Option ℕ → List Request → Life → List ℕ → List LinkAct → Type 0} → IsKept P → (last lim : Option ℕ) (r : List Request) (s : Starting) (queue : List Queued) (ms : List ℕ) (xs : List LinkAct) → P lim r (Ready (record s.link { queue = queue })) ms xs → P lim r (Ready (started_to_each last s queue).link) ms xs
ahead_kept k last lim r s [] ms xs h = h
ahead_kept {P = P} k last lim r s (q ∷ qs) ms xs h =
    chosen (λ (x : Starting). P lim r (Ready x.link) ms xs) (holds_back s.link || not (is_up_to last q.id)) _ _ (λ t. h)
    (λ f. ahead_kept k last lim r (started_one s q) qs ms xs (k.start lim r s.link q qs ms xs h))

-- messages start
started_at_kept : {P : Option ℕ → List Request → Life → List ℕ → List LinkAct → Type 0} → IsKept P → (w : Work) (life : Life) → P w.conn.limit w.conn.requests life w.conn.moved w.acts → At P w → At P (started_at w life)
started_at_kept k w (Ready l) g h =
    let s = started_all (record { link = l; out = [] }) in
    shown_kept k (with_link w s.link) s.out (starts_kept k w.conn.limit w.conn.requests (record { link = l; out = [] }) l.queue w.conn.moved w.acts g)
started_at_kept k w (Wanting l) g h = h
started_at_kept k w (SettingUp l greeting) g h =
    let s = started_all (record { link = l; out = [] }) in
    greeted_each_kept k (with_setup w s.link greeting) greeting s.out (k.go_on w.conn.limit w.conn.requests l s.link greeting w.conn.moved w.acts (count_started l) g)
started_at_kept k w Resting g h = h
started_at_kept k w Dialing g h = h
started_at_kept k w (Ended e) g h = h

-- on the link that the connection has
pub started_kept : {P : Option ℕ → List Request → Life → List ℕ → List LinkAct → Type 0} → IsKept P → (w : Work) → At P w → At P (started w)
started_kept k w h = started_at_kept k w w.conn.life h h

-- what is subscribed again is
--
-- its message starts before all others
repeat_moved_kept : {P : Option ℕ → List Request → Life → List ℕ → List LinkAct → Type 0} → IsKept P → (w : Work) (life : Life) (a : Again) → P w.conn.limit w.conn.requests life w.conn.moved w.acts → At P w → At P (repeat_moved w life a)
repeat_moved_kept {P = P} k w (Ready l) (again.Due packed of_shape timed) g h =
    let q = repeat_queued packed of_shape in
    chosen (At P) (holds_back l) w (repeat_told w l packed of_shape) (λ t. h)
    (λ f. k.show w.conn.limit w.conn.requests (Ready (begun l q)) w.conn.moved w.acts (repeat_act (start_of l.started q)) (λ n. refl) (k.say w.conn.limit w.conn.requests l w.conn.moved w.acts q (inr refl) g))
repeat_moved_kept k w (Ready l) again.Nothing g h = h
repeat_moved_kept k w (Ready l) again.Sent g h = h
repeat_moved_kept k w Resting a g h = h
repeat_moved_kept k w Dialing a g h = h
repeat_moved_kept k w (Wanting l) a g h = h
repeat_moved_kept k w (SettingUp l greeting) a g h = h
repeat_moved_kept k w (Ended e) a g h = h

-- behind its timer, where it is to be answered within a time
repeat_timed_kept : {P : Option ℕ → List Request → Life → List ℕ → List LinkAct → Type 0} → IsKept P → (w : Work) (within : Option ℕ) (a : Again) → At P w → At P (repeat_moved (repeat_timed w within) w.conn.life a)
repeat_timed_kept k w None a h = repeat_moved_kept k w w.conn.life a h h
repeat_timed_kept k w (Some ms) a h =
    let x = act.RepeatTimer ms in
    let g = k.show w.conn.limit w.conn.requests w.conn.life w.conn.moved w.acts x (λ n. refl) h in
    repeat_moved_kept k (acted w x) w.conn.life a g g

-- which is asked for once
pub repeated_kept : {P : Option ℕ → List Request → Life → List ℕ → List LinkAct → Type 0} → IsKept P → (w : Work) → At P w → At P (repeated w)
repeated_kept {P = P} k w h =
    let a = w.conn.again in
    let d = repeating w (with_timer a) in
    chosen (At P) (is_ready w.conn.life && is_to_start a) (repeat_moved (repeat_asked w) w.conn.life a) w
    (λ t. chosen (λ (x : Work). At P (repeat_moved x w.conn.life a)) (is_untimed a) (repeat_timed d w.conn.renewal.within) d
    (λ u. repeat_timed_kept k d w.conn.renewal.within a h)
    (λ u. repeat_moved_kept k d w.conn.life a h h))
    (λ f. h)

-- new credentials are told
--
-- their message starts before the queue
renewal_moved_kept : {P : Option ℕ → List Request → Life → List ℕ → List LinkAct → Type 0} → IsKept P → (w : Work) (life : Life) (cs : List Credentials) → P w.conn.limit w.conn.requests life w.conn.moved w.acts → At P w → At P (renewal_moved w life cs)
renewal_moved_kept {P = P} k w (Ready l) (c ∷ cs) g h =
    let q = renewal_queued c in
    chosen (At P) (holds_back l) w (renewal_told w l c cs) (λ t. h)
    (λ f. k.show w.conn.limit w.conn.requests (Ready (begun l q)) w.conn.moved w.acts (renewal_act (start_of l.started q)) (λ n. refl) (k.say w.conn.limit w.conn.requests l w.conn.moved w.acts q (inl refl) g))
renewal_moved_kept k w (Ready l) [] g h = h
renewal_moved_kept k w Resting cs g h = h
renewal_moved_kept k w Dialing cs g h = h
renewal_moved_kept k w (Wanting l) cs g h = h
renewal_moved_kept k w (SettingUp l greeting) cs g h = h
renewal_moved_kept k w (Ended e) cs g h = h

-- behind their timer, where they are to be answered within a time
renewal_timed_kept : {P : Option ℕ → List Request → Life → List ℕ → List LinkAct → Type 0} → IsKept P → (w : Work) (number : ℕ) (within : Option ℕ) → At P w → At P (renewal_timed w number within)
renewal_timed_kept k w number None h = h
renewal_timed_kept k w number (Some ms) h = k.show w.conn.limit w.conn.requests w.conn.life w.conn.moved w.acts (act.RenewalTimer number ms) (λ n. refl) h

-- which is asked for once
pub renewal_asked_kept : {P : Option ℕ → List Request → Life → List ℕ → List LinkAct → Type 0} → IsKept P → (w : Work) → At P w → At P (renewal_asked w)
renewal_asked_kept {P = P} k w h =
    let r = w.conn.renewal in
    let d = renewing w (asked_next r (last_queued w.conn.life)) in
    chosen (At P) r.pending w (renewal_timed d r.asked r.within) (λ t. h) (λ f. renewal_timed_kept k d r.asked r.within h)

-- and behind those that took their places before them
ahead_at_kept : {P : Option ℕ → List Request → Life → List ℕ → List LinkAct → Type 0} → IsKept P → (w : Work) (life : Life) → P w.conn.limit w.conn.requests life w.conn.moved w.acts → At P w → At P (started_ahead_at w life)
ahead_at_kept k w (Ready l) g h =
    let last = w.conn.renewal.last in
    let s = started_to last (record { link = l; out = [] }) in
    shown_kept k (with_link w s.link) s.out (ahead_kept k last w.conn.limit w.conn.requests (record { link = l; out = [] }) l.queue w.conn.moved w.acts g)
ahead_at_kept k w Resting g h = h
ahead_at_kept k w Dialing g h = h
ahead_at_kept k w (Wanting l) g h = h
ahead_at_kept k w (SettingUp l greeting) g h = h
ahead_at_kept k w (Ended e) g h = h

-- all of it
pub renewed_kept : {P : Option ℕ → List Request → Life → List ℕ → List LinkAct → Type 0} → IsKept P → (w : Work) → At P w → At P (renewals.renewed w)
renewed_kept {P = P} k w h =
    let v = renewal_asked w in
    let a = started_ahead v in
    let g = renewal_asked_kept k w h in
    let m : At P a = ahead_at_kept k v v.conn.life g g in
    chosen (At P) (is_ready w.conn.life && is_due w.conn.renewal) (renewal_moved a a.conn.life a.conn.renewal.waiting) w
    (λ t. renewal_moved_kept k a a.conn.life a.conn.renewal.waiting m m)
    (λ f. h)

-- so is all that the driver says itself
pub said_kept : {P : Option ℕ → List Request → Life → List ℕ → List LinkAct → Type 0} → IsKept P → (w : Work) → At P w → At P (said w)
said_kept k w h = renewed_kept k (repeated w) (repeated_kept k w h)

-- an answer at its place
pub told_kept : {P : Option ℕ → List Request → Life → List ℕ → List LinkAct → Type 0} → IsKept P → (w : Work) (q : Waiting) → At P w → At P (told_at_place w q)
told_kept {P = P} k w q h = chosen (At P) q.awaited w (answered w q.number (outcome.One Nil)) (λ t. h) (λ f. answered_kept k w q.number (outcome.One Nil) h)

-- a request takes its place, and messages start
seated_at_kept : {P : Option ℕ → List Request → Life → List ℕ → List LinkAct → Type 0} → IsKept P → (w : Work) (q : Waiting) (life : Life) → is_admitted_at w.conn.requests q.number ≡ true → P w.conn.limit w.conn.requests life w.conn.moved w.acts → At P w → At P (started (told_at_place (placed_at w q life) q))
seated_at_kept k w q (Ready l) t g h =
    let d = placed_at w q (Ready l) in
    let lim = w.conn.limit in
    let r = w.conn.requests in
    let ms = w.conn.moved in
    started_kept k (told_at_place d q) (told_kept k d q (k.place lim r l (ms ++ q.number ∷ []) w.acts q t (k.note lim r (Ready l) ms w.acts q.number t g)))
seated_at_kept k w q Resting t g h = started_kept k (told_at_place w q) (told_kept k w q h)
seated_at_kept k w q Dialing t g h = started_kept k (told_at_place w q) (told_kept k w q h)
seated_at_kept k w q (Wanting l) t g h = started_kept k (told_at_place w q) (told_kept k w q h)
seated_at_kept k w q (SettingUp l greeting) t g h = started_kept k (told_at_place w q) (told_kept k w q h)
seated_at_kept k w q (Ended e) t g h = started_kept k (told_at_place w q) (told_kept k w q h)

-- on the link that the connection has
seated_kept : {P : Option ℕ → List Request → Life → List ℕ → List LinkAct → Type 0} → IsKept P → (w : Work) (q : Waiting) → is_admitted_at w.conn.requests q.number ≡ true → At P w → At P (seated w q)
seated_kept k w q t h = seated_at_kept k w q w.conn.life t h h

-- one that waits for a place takes it
pub moved_up_kept : {P : Option ℕ → List Request → Life → List ℕ → List LinkAct → Type 0} → IsKept P → (w : Work) (q : Waiting) → At P w → At P (moved_up w q)
moved_up_kept {P = P} k w q h = chosen (At P) (is_admitted_at w.conn.requests q.number) (seated w q) w (λ t. seated_kept k w q t h) (λ f. h)

-- and so do more of them
pub moved_up_each_kept : {P : Option ℕ → List Request → Life → List ℕ → List LinkAct → Type 0} → IsKept P → (w : Work) (qs : List Waiting) → At P w → At P (moved_up_each w qs)
moved_up_each_kept k w [] h = h
moved_up_each_kept {P = P} k w (q ∷ qs) h = chosen (At P) (has_room w.conn) _ _ (λ t. moved_up_each_kept k (moved_up w q) qs (moved_up_kept k w q h)) (λ f. h)

-- and all
pub moved_up_all_kept : {P : Option ℕ → List Request → Life → List ℕ → List LinkAct → Type 0} → IsKept P → (w : Work) → At P w → At P (moved_up_all w)
moved_up_all_kept k w h = moved_up_each_kept k (still_admitted w []) w.conn.admitted h

-- a request takes its place, or goes behind those that wait for one
seated_or_behind_kept : {P : Option ℕ → List Request → Life → List ℕ → List LinkAct → Type 0} → IsKept P → (w : Work) (q : Waiting) → is_admitted_at w.conn.requests q.number ≡ true → At P w → At P (seated_or_behind w q)
seated_or_behind_kept {P = P} k w q t h =
    chosen (At P) (has_room w.conn) (seated w q) (put_behind w q) (λ u. seated_kept k w q t h) (λ f. k.note w.conn.limit w.conn.requests w.conn.life w.conn.moved w.acts q.number t h)

-- rounds
--
-- one begins
pub round_kept : {P : Option ℕ → List Request → Life → List ℕ → List LinkAct → Type 0} → IsKept P → (w : Work) (q : ℕ) → At P w → At P (round_begun w q)
round_kept {P = P} k w q h =
    let c = w.conn in
    let d = progressed w q progress.Begun in
    let a = act.Round (name_at c.requests q) in
    chosen (At P) (c.rounds && is_unbegun_at c.requests q) (acted d a) w
    (λ t. k.show c.limit d.conn.requests c.life c.moved w.acts a (λ n. refl) (k.round c.limit c.requests c.life c.moved w.acts q (both_right c.rounds (is_unbegun_at c.requests q) t) h))
    (λ f. h)

-- who waits waits on then
pub round_waits : (w : Work) (q : ℕ) → is_waiting_at w.conn.requests q ≡ true → is_waiting_at (round_begun w q).conn.requests q ≡ true
round_waits w q t =
    chosen (λ (x : Work). is_waiting_at x.conn.requests q ≡ true) (w.conn.rounds && is_unbegun_at w.conn.requests q) (acted (progressed w q progress.Begun) (act.Round (name_at w.conn.requests q))) w
    (λ u. begun_waits w.conn.requests q (permits_at w.conn.requests q) t) (λ f. t)

-- more of them begin
rounds_of_kept : {P : Option ℕ → List Request → Life → List ℕ → List LinkAct → Type 0} → IsKept P → (w : Work) (qs : List ℕ) → At P w → At P (rounds_of w qs)
rounds_of_kept k w [] h = h
rounds_of_kept k w (q ∷ qs) h = rounds_of_kept k (round_begun w q) qs (round_kept k w q h)

-- and those of all that go on waiting
rounds_kept : {P : Option ℕ → List Request → Life → List ℕ → List LinkAct → Type 0} → IsKept P → (w : Work) → At P w → At P (rounds_begun w)
rounds_kept {P = P} k w h = chosen (At P) (w.conn.rounds && is_serving w.conn) (rounds_of w w.conn.fresh) w (λ t. rounds_of_kept k w w.conn.fresh h) (λ f. h)

-- permits
--
-- what is shown of permits changes no connection
pub took_conn : (w : Work) (q count : ℕ) (lim : Option ℕ) → (took_shown w q count lim).conn ≡ w.conn
took_conn w q count None = refl
took_conn w q count (Some most) = refl

-- nor does it that a timer is asked for
timer_conn : (w : Work) (q : ℕ) (timeout : Option ℕ) → (timer_asked w q timeout).conn ≡ w.conn
timer_conn w q None = refl
timer_conn w q (Some ms) = refl

-- so a request that is let in holds its permits, and nothing else changes
pub let_in_conn : (w : Work) (q : Waiting) → (let_in w q).conn ≡ holding w.conn q.number (permits_taken w.conn.limit w.conn.free q.shape)
let_in_conn w q =
    let count = permits_taken w.conn.limit w.conn.free q.shape in
    timer_conn (holds w q.number count) q.number q.timeout ∙ took_conn (record w { conn = holding w.conn q.number count }) q.number count w.conn.limit

-- and it may take a place
pub let_in_admitted : (w : Work) (q : Waiting) → is_waiting_at w.conn.requests q.number ≡ true → is_admitted_at (let_in w q).conn.requests q.number ≡ true
let_in_admitted w q t =
    ap (λ (c : MultiplexedConnection). is_admitted_at c.requests q.number) (let_in_conn w q) ∙ admitted_now w.conn.requests q.number (permits_taken w.conn.limit w.conn.free q.shape) t

-- its permits are shown
took_kept : {P : Option ℕ → List Request → Life → List ℕ → List LinkAct → Type 0} → IsKept P → (w : Work) (q count : ℕ) (lim : Option ℕ) → At P w → At P (took_shown w q count lim)
took_kept k w q count None h = h
took_kept k w q count (Some most) h = k.show w.conn.limit w.conn.requests w.conn.life w.conn.moved w.acts (act.Took (name_at w.conn.requests q) count) (λ n. refl) h

-- and its timer is asked for
timer_kept : {P : Option ℕ → List Request → Life → List ℕ → List LinkAct → Type 0} → IsKept P → (w : Work) (q : ℕ) (timeout : Option ℕ) → At P w → At P (timer_asked w q timeout)
timer_kept k w q None h = h
timer_kept k w q (Some ms) h = k.show w.conn.limit w.conn.requests w.conn.life w.conn.moved w.acts (act.Timer (name_at w.conn.requests q) ms) (λ n. refl) h

-- so a request is let in
pub let_in_kept : {P : Option ℕ → List Request → Life → List ℕ → List LinkAct → Type 0} → IsKept P → (w : Work) (q : Waiting) → is_waiting_at w.conn.requests q.number ≡ true → At P w → At P (let_in w q)
let_in_kept k w q t h =
    let count = permits_taken w.conn.limit w.conn.free q.shape in
    timer_kept k (holds w q.number count) q.number q.timeout
    (took_kept k (record w { conn = holding w.conn q.number count }) q.number count w.conn.limit
    (k.admit w.conn.limit w.conn.requests w.conn.life w.conn.moved w.acts q.number count t h))

-- a request that waits for the connection, or for a permit, is moved
admitted_at_kept : {P : Option ℕ → List Request → Life → List ℕ → List LinkAct → Type 0} → IsKept P → (w : Work) (q : Waiting) (life : Life) → is_waiting_at w.conn.requests q.number ≡ true → At P w → At P (admitted_at w q life)
admitted_at_kept k w q (Ready l) t h =
    let v = round_begun w q.number in
    let u = round_waits w q.number t in
    seated_or_behind_kept k (let_in v q) q (let_in_admitted v q u) (let_in_kept k v q u (round_kept k w q.number h))
admitted_at_kept k w q (Ended e) t h = answered_kept k w q.number (outcome.Fault e) h
admitted_at_kept k w q Resting t h = h
admitted_at_kept k w q Dialing t h = h
admitted_at_kept k w q (Wanting l) t h = h
admitted_at_kept k w q (SettingUp l greeting) t h = h

-- and any other stays
pub admitted_kept : {P : Option ℕ → List Request → Life → List ℕ → List LinkAct → Type 0} → IsKept P → (w : Work) (q : Waiting) → At P w → At P (admitted w q)
admitted_kept {P = P} k w q h =
    chosen (At P) (is_waiting_at w.conn.requests q.number) (admitted_at w q w.conn.life) w (λ t. admitted_at_kept k w q w.conn.life t h) (λ f. h)

-- all that wait for the connection
admitted_each_kept : {P : Option ℕ → List Request → Life → List ℕ → List LinkAct → Type 0} → IsKept P → (w : Work) (qs : List Waiting) → At P w → At P (admitted_each w qs)
admitted_each_kept k w [] h = h
admitted_each_kept {P = P} k w (q ∷ qs) h = chosen (At P) (admits_none w.conn) _ _ (λ t. h) (λ f. admitted_each_kept k (admitted w q) qs (admitted_kept k w q h))

-- what a turn moves
pub moved_all_kept : {P : Option ℕ → List Request → Life → List ℕ → List LinkAct → Type 0} → IsKept P → (w : Work) → At P w → At P (moved_all w)
moved_all_kept k w h =
    let v = said w in
    let d = moved_up_all (started v) in
    admitted_each_kept k (still_waiting d []) d.conn.waiting (moved_up_all_kept k (started v) (started_kept k v (said_kept k w h)))

-- and the rounds that begin behind that
pub passed_kept : {P : Option ℕ → List Request → Life → List ℕ → List LinkAct → Type 0} → IsKept P → (w : Work) → At P w → At P (passed w)
passed_kept k w h = rounds_kept k (moved_all w) (moved_all_kept k w h)
