-- What news of its link does to a connection, and the leave of a caller. No request is moved.
use Rattle.std.specs.Prelude.{◌≤◌, ℕ, ◌+◌, ◌^◌, ◌==◌, nat_le, Bool, true, false, ◌&&◌, ◌||◌, List, [], ◌∷◌, ◌++◌, Option, Some, None, unwrap_or, codes, if◌then◌else◌}
use Rattle.redis_error.specs.declared.fault_kind.FaultKind.{FaultKind}
use Rattle.redis_error.specs.declared.fault_kind.FaultKind.TheVariants as kind
use Rattle.redis_error.specs.declared.redis_error.RedisError.{RedisError}
use Rattle.redis_error.specs.declared.redis_error.RedisError.TheVariants as error
use Rattle.driver_model.specs.declared.news.LinkFault.{LinkFault}
use Rattle.driver_model.specs.declared.news.LinkFault.TheVariants as fault
use Rattle.driver_model.specs.declared.outcome.Outcome.TheVariants as outcome
use Rattle.resp_value.specs.declared.push_kind.PushKind.TheVariants.{Disconnection}
use Rattle.driver_model.specs.News.{News, silence, connected, refused, overdue, took, came, failed, authorized, denied, deserted, renewed, unrenewed, late, unrepeated, dropped, shut}
use Rattle.connection_setup.specs.declared.judgement.SetupResult.{SetupResult}
use Rattle.connection_setup.specs.declared.judgement.SetupResult.TheVariants as result
use Rattle.connection_setup.specs.Setup.{Step, setup}
use Rattle.connection_setup.specs.Judgement.{judged}
use Rattle.driver_model.specs.declared.outcome.Verdict.{Verdict}
use Rattle.driver_model.specs.declared.outcome.Verdict.TheVariants as verdict
use Rattle.driver_model.specs.Setup.{says_nothing, setup_bytes, setup_shape}
use Rattle.driver_model.specs.Shape.{outcome_of}
use Rattle.link_core.specs.declared.message.Queued.{Queued}
use Rattle.link_core.specs.declared.message.Settled.{Settled}
use Rattle.link_core.specs.Link.{LinkState, fresh, enqueued, wrote_of, cancelled, faulted, closed_all}
use Rattle.link_core.specs.declared.message.Entry.{Entry}
use Rattle.link_core.specs.declared.message.NoticeAt.{NoticeAt}
use Rattle.link_core.specs.Dealing.{is_awaiting}
use Rattle.link_core.specs.Ends.{error_of}
use Rattle.link_core.specs.Link.{Reading, piece_read}
use Rattle.mux_conn.specs.declared.act.LinkAct.{LinkAct}
use Rattle.mux_conn.specs.declared.act.LinkAct.TheVariants as act
use Rattle.mux_conn.specs.declared.again.Again.{Again}
use Rattle.mux_conn.specs.declared.again.Again.TheVariants as again
use Rattle.mux_conn.specs.declared.connection.MultiplexedConnection.{MultiplexedConnection}
use Rattle.driver_model.specs.declared.hearing.Hearing.TheVariants as hearing
use Rattle.driver_model.specs.declared.hearing.Notice.{Notice}
use Rattle.driver_model.specs.declared.hearing.Notice.TheVariants as notice
use Rattle.driver_model.specs.declared.outcome.Shape.TheVariants.{Single}
use Rattle.driver_model.specs.Hearing.{hears_pushes, hears_messages, is_watching, felt}
use Rattle.resp_write.specs.Pack.{pack}
use Rattle.mux_conn.specs.declared.life.Greeting.{Greeting}
use Rattle.mux_conn.specs.declared.life.Greeting.TheVariants as greet
use Rattle.mux_conn.specs.declared.life.Life.{Life}
use Rattle.mux_conn.specs.declared.life.Life.TheVariants.{Resting, Dialing, Wanting, SettingUp, Ready, Ended}
use Rattle.mux_conn.specs.declared.request.Waiting.{Waiting}
use Rattle.mux_conn.specs.Connection.{Work, acted, at_life, with_link, with_setup, with_wanting, opened_on, is_ready, is_repeating}
use Rattle.mux_conn.specs.Requests.{is_open_at, closed, answered}
use Rattle.mux_conn.specs.Renewals.{no_renewal, renewing, source_asked, expecting, none_follow, late_for, renewal_id, is_done, replied}
use Rattle.mux_conn.specs.Repeats.{repeating, repeat_id}
use Rattle.credentials.specs.Credentials.{Credentials}

-- a link without messages, with the queue and the boundary of its connection
abbrev pub new_link : MultiplexedConnection → LinkState
new_link c = fresh c.size c.boundary

-- the numbers of requests that have no place
abbrev pub numbers_of : List Waiting → List ℕ
numbers_of [] = []
numbers_of (q ∷ qs) = q.number ∷ numbers_of qs

-- the waits of all that have no place are to be shown anew
abbrev pub all_fresh : Work → Work
all_fresh w = record w { conn = record w.conn { fresh = numbers_of w.conn.waiting } }

-- what is subscribed again is answered, whatever that is, or the time for it is over: where the link is up, requests go on
abbrev pub served : Work → Work
served w = if is_repeating w.conn then all_fresh (repeating w again.Nothing) else w

-- a message of a request, or the one that subscribes again, is settled
abbrev pub settled_other : Work → Settled → Work
settled_other w s = if s.id == repeat_id then served w else answered w s.id (outcome_of s.verdict)

-- a message that the link has settled: its request is answered, or new credentials are, or what is subscribed again
abbrev pub settled_one : Work → Settled → Work
settled_one w s = if s.id == renewal_id then renewing w (replied w.conn.renewal (is_done s.verdict)) else settled_other w s

-- each message that the link has settled is answered, in order
abbrev pub settled_each : Work → List Settled → Work
settled_each w [] = w
settled_each w (s ∷ ss) = settled_each (settled_one w s) ss

-- each of these requests is answered with this error
abbrev pub failed_each : Work → RedisError → List Waiting → Work
failed_each w e [] = w
failed_each w e (q ∷ qs) = failed_each (answered w q.number (outcome.Fault e)) e qs

-- nobody waits, for a place or for the connection
abbrev pub nobody_waits : Work → Work
nobody_waits w = record w { conn = record w.conn { waiting = []; admitted = [] } }

-- those that wait for a place are answered with it, and then those that wait for the connection
abbrev pub waiting_failed : Work → RedisError → Work
waiting_failed w e = failed_each (failed_each (nobody_waits w) e w.conn.admitted) e w.conn.waiting

-- what shows a notice
abbrev pub notice_act : Notice → LinkAct
notice_act (notice.Push info) = act.Push info
notice_act (notice.Message m) = act.Message m
notice_act (notice.Monitor v) = act.Monitor v

-- something is told
abbrev pub noticed : Work → Notice → Work
noticed w n = acted w (notice_act n)

-- this is told, in order
abbrev pub noticed_each : Work → List NoticeAt → Work
noticed_each w [] = w
noticed_each w (n ∷ ns) = noticed_each (noticed w n.notice) ns

-- what the link has settled is answered, and what came is told, each behind as many of these messages as were settled before it,
-- where n were answered so far
abbrev pub told_each : Work → ℕ → List NoticeAt → List Settled → Work
told_each w n ns [] = noticed_each w ns
told_each w n [] (s ∷ ss) = settled_each w (s ∷ ss)
told_each w n (x ∷ xs) (s ∷ ss) = if nat_le x.settled n then told_each (noticed w x.notice) n xs (s ∷ ss) else told_each (settled_one w s) (n + 1) (x ∷ xs) ss

-- what is told behind the first settled message
abbrev pub behind_first : List NoticeAt → List NoticeAt
behind_first [] = []
behind_first (x ∷ xs) = if x.settled == 0 then behind_first xs else x ∷ xs

-- the link is closed
abbrev pub cut_short : Work → Work
cut_short w = acted (at_life w (Ended error.Closed)) act.Close

-- its messages are answered, and then those that have no place
abbrev pub all_answered : Work → List Settled → Work
all_answered w out = waiting_failed (settled_each w out) error.Closed

-- the link ends: it is closed, its messages are answered, and then those that have no place
abbrev pub ended : Work → List Settled → Work
ended w out = all_answered (cut_short w) out

-- that the link has ended is told as a push, where somebody hears pushes
abbrev pub parted : Work → Work
parted w = if hears_pushes w.conn.hears then noticed w (notice.Push (record { kind = Disconnection; parts = [] })) else w

-- a link that was set up ends by a fault: it is closed, which is told, its messages are answered, and then those that have no
-- place
abbrev pub ended_by : Work → LinkState → LinkFault → Work
ended_by w link f = all_answered (parted (cut_short w)) (faulted (record { link = link; out = [] }) f).out

-- without a link, behind one that is over: nothing of that stays but the requests, and those that wait, whose waits are to be shown
-- anew
abbrev pub afresh : MultiplexedConnection → MultiplexedConnection
afresh c = record c {
  free = unwrap_or c.limit 0;
  info = c.address;
  renewal = no_renewal c.renewal.wanted c.renewal.within;
  again = again.Nothing;
  life = Resting;
  opened = false;
  admitted = [];
  fresh = numbers_of c.waiting;
  moved = [];
}

-- the connect of its next link is asked for, whether no other attempt follows it, and what is subscribed again on that link; the waits of
-- those that wait are to be shown anew
abbrev pub dialled : MultiplexedConnection → Bool → Again → MultiplexedConnection
dialled c is_last a = record c { last = is_last; again = a; life = Dialing; fresh = numbers_of c.waiting }

-- that it is ready, or that its opening failed, is shown, unless it was before
abbrev pub creation_told : Work → Option RedisError → Work
creation_told w e = record { conn = record w.conn { told = true }; acts = if w.conn.told then w.acts else w.acts ++ act.Created e ∷ [] }

-- its last attempt fails with this error, which is shown, and those that have no place are answered
abbrev pub given_up : Work → RedisError → Work
given_up w e = waiting_failed (creation_told (at_life w (Ended e)) (Some e)) e

-- an attempt to open it fails with this error: the last one, or another follows
abbrev pub opening_failed : Work → RedisError → Work
opening_failed w e = if w.conn.last then given_up w e else record w { conn = afresh w.conn }

-- the link is set up, which is shown, and a source is asked for new credentials, where they come of sources
abbrev pub made_ready : Work → LinkState → Work
made_ready w link = source_asked (creation_told (opened_on (all_fresh w) link) None)

-- the number of a greeting's message: no request has it
abbrev pub setup_id : Greeting → ℕ
setup_id greet.WithUser = 2 ^ 32
setup_id greet.WithoutUser = 2 ^ 32 + 1
setup_id greet.Monitor = 2 ^ 32 + 3

-- a greeting has the user name
abbrev pub has_user : Greeting → Bool
has_user greet.WithUser = true
has_user greet.WithoutUser = false
has_user greet.Monitor = false

-- the setup, with the user name or without it
abbrev pub steps_of : MultiplexedConnection → Greeting → List Step
steps_of c greeting = setup c.info (has_user greeting)

-- the message that sets a link up
abbrev pub setup_queued : List Step → ℕ → Queued
setup_queued steps id = record { id = id; packed = setup_bytes steps; shape = setup_shape steps; awaited = true }

-- the message of a greeting: MONITOR is one command
abbrev pub greeting_queued : MultiplexedConnection → Greeting → Queued
greeting_queued c greet.WithUser = setup_queued (steps_of c greet.WithUser) (setup_id greet.WithUser)
greeting_queued c greet.WithoutUser = setup_queued (steps_of c greet.WithoutUser) (setup_id greet.WithoutUser)
greeting_queued c greet.Monitor = record { id = setup_id greet.Monitor; packed = pack (codes "MONITOR" ∷ []); shape = Single; awaited = true }

-- a greeting takes its place on this link, and starts with the next pass
abbrev pub sets_up : Work → LinkState → Greeting → Work
sets_up w link greeting = with_setup w (enqueued link (greeting_queued w.conn greeting)) greeting

-- the setup is answered well: the link is ready, or its server is put into monitor mode first
abbrev pub greeted : Work → LinkState → Work
greeted w link = if is_watching w.conn.hears then sets_up w link greet.Monitor else made_ready w link

-- this link is up: it is set up, or nothing is to be said for it
abbrev pub come_up : Work → LinkState → Work
come_up w link = if says_nothing (steps_of w.conn greet.WithUser) then greeted w link else sets_up (all_fresh w) link greet.WithUser

-- this link is up, and its setup waits for credentials, for which a source is asked
abbrev pub comes_to_want : Work → LinkState → Work
comes_to_want w link = acted (with_wanting (all_fresh w) link) act.NeedCreds

-- the first answer to the connect: it succeeded
abbrev pub connected_at : Work → Life → Work
connected_at w Resting = w
connected_at w Dialing = if w.conn.renewal.wanted then comes_to_want w (new_link w.conn) else come_up w (new_link w.conn)
connected_at w (Wanting link) = w
connected_at w (SettingUp link greeting) = w
connected_at w (Ready link) = w
connected_at w (Ended e) = w

-- these credentials are said to the server
abbrev pub with_credentials : Work → Credentials → Work
with_credentials w c = record w { conn = record w.conn { info = record w.conn.info { username = Some c.username; password = Some c.password } } }

-- the first credentials came: the link is set up by them
abbrev pub authorized_at : Work → Credentials → Life → Work
authorized_at w c (Wanting link) = come_up (with_credentials w c) link
authorized_at w c Resting = w
authorized_at w c Dialing = w
authorized_at w c (SettingUp link greeting) = w
authorized_at w c (Ready link) = w
authorized_at w c (Ended e) = w

-- there are none: where the setup waits for them, the link is closed, and its opening fails with this error
abbrev pub unauthorized_at : Work → RedisError → Life → Work
unauthorized_at w e (Wanting link) = opening_failed (acted w act.Close) e
unauthorized_at w e Resting = w
unauthorized_at w e Dialing = w
unauthorized_at w e (SettingUp link greeting) = w
unauthorized_at w e (Ready link) = w
unauthorized_at w e (Ended x) = w

-- the first answer to the connect: it failed
abbrev pub refused_at : Work → FaultKind → Life → Work
refused_at w f Resting = w
refused_at w f Dialing = opening_failed w (error.Io f)
refused_at w f (Wanting link) = w
refused_at w f (SettingUp link greeting) = w
refused_at w f (Ready link) = w
refused_at w f (Ended e) = w

-- the time in which it was to be connected and set up is over: where it isn't, it is closed
abbrev pub overdue_at : Work → Life → Work
overdue_at w Resting = w
overdue_at w Dialing = opening_failed (acted w act.Close) (error.Io kind.TimedOut)
overdue_at w (Wanting link) = opening_failed (acted w act.Close) (error.Io kind.TimedOut)
overdue_at w (SettingUp link greeting) = opening_failed (acted w act.Close) (error.Io kind.TimedOut)
overdue_at w (Ready link) = w
overdue_at w (Ended e) = w

-- so many bytes were offered
abbrev pub CanTake : Life → ℕ → Type 0
CanTake (Ready link) count = count ≤ link.outbox.offered
CanTake Resting count = Unit {0}
CanTake Dialing count = Unit {0}
CanTake (Wanting link) count = count ≤ link.outbox.offered
CanTake (SettingUp link greeting) count = count ≤ link.outbox.offered
CanTake (Ended e) count = Unit {0}

abbrev pub taken_at : Work → ℕ → Life → Work
taken_at w count (Ready link) = with_link w (wrote_of link count)
taken_at w count Resting = w
taken_at w count Dialing = w
taken_at w count (Wanting link) = with_wanting w (wrote_of link count)
taken_at w count (SettingUp link greeting) = with_setup w (wrote_of link count) greeting
taken_at w count (Ended e) = w

-- the error with which the opening fails that a fault ends: MONITOR gets the fault itself once it has started, as a single command,
-- and what is said before it gets the closed connection, as a pipeline
abbrev pub greeting_error : Greeting → List Entry → LinkFault → RedisError
greeting_error greet.WithUser row f = error.Closed
greeting_error greet.WithoutUser row f = error.Closed
greeting_error greet.Monitor row f = if is_awaiting row then error_of f else error.Closed

-- the link ends where it is up; before it is set up its opening fails
abbrev pub failed_at : Work → LinkFault → Life → Work
failed_at w f (Ready link) = ended_by w link (felt w.conn.hears f)
failed_at w f Resting = w
failed_at w f Dialing = w
failed_at w f (Wanting link) = opening_failed (acted w act.Close) error.Closed
failed_at w f (SettingUp link greeting) = opening_failed (acted w act.Close) (greeting_error greeting link.row f)
failed_at w f (Ended e) = w

-- the stream of messages is dropped: a link of messages ends
abbrev pub dropped_at : Work → Life → Work
dropped_at w (Ready link) = ended_by w link fault.Ended
dropped_at w Resting = w
dropped_at w Dialing = opening_failed (acted w act.Close) error.Closed
dropped_at w (Wanting link) = opening_failed (acted w act.Close) error.Closed
dropped_at w (SettingUp link greeting) = opening_failed (acted w act.Close) error.Closed
dropped_at w (Ended e) = w

abbrev pub dropped_by : Work → Work
dropped_by w = if hears_messages w.conn.hears then dropped_at w w.conn.life else w

abbrev pub broken_at : Bool → Work → Work
broken_at broken w = if broken then failed_at w fault.Parse w.conn.life else w

-- what the link has settled is answered, what came is told, and what can't be read on ends it
abbrev pub read_to : Work → Reading → Work
read_to w r = broken_at (r.link.broken || r.strange) (told_each (with_link w r.link) 0 r.notices r.out)

-- what the replies to the setup come to
abbrev pub judged_by : List Step → Verdict → SetupResult
judged_by steps (verdict.Many replies) = judged steps replies
judged_by steps (verdict.One value) = result.Ready
judged_by steps verdict.Done = result.Ready
judged_by steps (verdict.Fault e) = result.Failed e

-- a greeting is answered well: behind MONITOR the link is ready
abbrev pub greeted_by : Work → LinkState → Greeting → Work
greeted_by w link greet.WithUser = greeted w link
greeted_by w link greet.WithoutUser = greeted w link
greeted_by w link greet.Monitor = made_ready w link

-- a greeting is answered: well, or the setup is sent once more without the user name, or the opening failed
abbrev pub set_up_by : Work → LinkState → Greeting → SetupResult → Work
set_up_by w link greeting result.Ready = greeted_by w link greeting
set_up_by w link greeting result.RepeatWithoutUser = sets_up w link greet.WithoutUser
set_up_by w link greeting (result.Failed e) = opening_failed (acted w act.Close) e
set_up_by w link greeting result.NoMemory = w

-- this is told on a link that is set up, and reaches nobody before
abbrev pub heard_on : Work → List NoticeAt → Work
heard_on w notices = if is_ready w.conn.life then noticed_each w notices else w

abbrev pub answered_setup : Work → LinkState → Greeting → List NoticeAt → List Settled → Work
answered_setup w link greeting notices [] = with_setup w link greeting
answered_setup w link greeting notices (s ∷ ss) = heard_on (set_up_by w link greeting (judged_by (steps_of w.conn greeting) s.verdict)) (behind_first notices)

-- what came can't be read on: it begins no value, or, where the link is set up now, ended with one that ends the link
abbrev pub is_unreadable : Reading → Work → Bool
is_unreadable r w = r.link.broken || (r.strange && is_ready w.conn.life)

-- a greeting is answered, if it is, what came behind it is told, and what can't be read on ends the link
abbrev pub read_setup : Work → Greeting → Reading → Work
read_setup w greeting r =
    let answered = answered_setup w r.link greeting r.notices r.out in
    broken_at (is_unreadable r answered) answered

-- bytes come while the setup waits for credentials: they answer nothing, nothing in them is told, and bytes that begin no value
-- end the link
abbrev pub read_wanting : Work → Reading → Work
read_wanting w r = broken_at r.link.broken (with_wanting w r.link)

-- bytes come
abbrev pub read_at : Work → List ℕ → Life → Work
read_at w piece (Ready link) = read_to w (piece_read w.conn.hears true link piece)
read_at w piece Resting = w
read_at w piece Dialing = w
read_at w piece (Wanting link) = read_wanting w (piece_read hearing.Nothing false link piece)
read_at w piece (SettingUp link greeting) = read_setup w greeting (piece_read w.conn.hears false link piece)
read_at w piece (Ended e) = w

-- everything is closed: without a link those that wait are answered
abbrev pub shut_at : Work → Life → Work
shut_at w (Ready link) = ended w (closed_all (record { link = link; out = [] })).out
shut_at w Resting = waiting_failed w error.Closed
shut_at w Dialing = ended w []
shut_at w (Wanting link) = ended w []
shut_at w (SettingUp link greeting) = ended w []
shut_at w (Ended e) = w

-- that message of a link that is set up leaves its queue, or is answered to nobody
abbrev pub cancelled_in : Life → ℕ → Life
cancelled_in (Ready link) p = Ready (cancelled link p)
cancelled_in Resting p = Resting
cancelled_in Dialing p = Dialing
cancelled_in (Wanting link) p = Wanting link
cancelled_in (SettingUp link greeting) p = SettingUp link greeting
cancelled_in (Ended e) p = Ended e

-- no more bytes are taken than were offered
abbrev pub IsWithin : Life → News → Type 0
IsWithin life (took count) = CanTake life count
IsWithin life silence = Unit {0}
IsWithin life connected = Unit {0}
IsWithin life (refused f) = Unit {0}
IsWithin life overdue = Unit {0}
IsWithin life (came piece) = Unit {0}
IsWithin life (failed f) = Unit {0}
IsWithin life (authorized c) = Unit {0}
IsWithin life (denied text) = Unit {0}
IsWithin life deserted = Unit {0}
IsWithin life (renewed c) = Unit {0}
IsWithin life unrenewed = Unit {0}
IsWithin life (late k) = Unit {0}
IsWithin life unrepeated = Unit {0}
IsWithin life dropped = Unit {0}
IsWithin life shut = Unit {0}

-- news of credentials
abbrev pub is_of_credentials : News → Bool
is_of_credentials (authorized c) = true
is_of_credentials (denied text) = true
is_of_credentials deserted = true
is_of_credentials (renewed c) = true
is_of_credentials unrenewed = true
is_of_credentials (late k) = true
is_of_credentials _ = false

-- the effect of news
abbrev pub applied : Work → News → Work
applied w silence = w
applied w connected = connected_at w w.conn.life
applied w (refused f) = refused_at w f w.conn.life
applied w overdue = overdue_at w w.conn.life
applied w (took count) = taken_at w count w.conn.life
applied w (came piece) = read_at w piece w.conn.life
applied w (failed f) = failed_at w f w.conn.life
applied w (authorized c) = authorized_at w c w.conn.life
applied w (denied text) = unauthorized_at w (error.Credentials text) w.conn.life
applied w deserted = unauthorized_at w (error.AuthFailed []) w.conn.life
applied w (renewed c) = record w { conn = expecting w.conn c }
applied w unrenewed = record w { conn = none_follow w.conn }
applied w (late k) = record w { conn = late_for w.conn k }
applied w unrepeated = served w
applied w dropped = dropped_by w
applied w shut = shut_at w w.conn.life

-- the caller of request p has gone: its message leaves the queue, or is answered to nobody
abbrev pub left : MultiplexedConnection → ℕ → MultiplexedConnection
left c p = if is_open_at c.requests p then record (closed c p) { life = cancelled_in c.life p } else c

-- the time in which request p was to be answered is over: where it is open, it is answered with that, and its message leaves
-- the queue, or is answered to nobody
abbrev pub timed_out : Work → ℕ → Work
timed_out w p = answered (if is_open_at w.conn.requests p then at_life w (cancelled_in w.conn.life p) else w) p (outcome.Fault (error.Io kind.TimedOut))
