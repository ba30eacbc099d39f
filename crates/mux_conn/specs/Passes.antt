-- Requests are moved as far as they can go.
use Rattle.std.specs.Prelude.{ℕ, ◌-◌, ◌==◌, min, Bool, true, false, ◌&&◌, not, List, [], ◌∷◌, ◌++◌, Option, Some, None, if◌then◌else◌}
use Rattle.resp_value.specs.declared.value.Value.TheVariants.{Nil}
use Rattle.driver_model.specs.declared.outcome.Outcome.TheVariants as outcome
use Rattle.driver_model.specs.declared.outcome.Shape.{Shape}
use Rattle.driver_model.specs.Shape.{permits_for}
use Rattle.link_core.specs.declared.message.Queued.{Queued}
use Rattle.link_core.specs.declared.message.Started.{Started}
use Rattle.link_core.specs.First.{first_replaced}
use Rattle.link_core.specs.Link.{Starting, enqueued, started_all}
use Rattle.mux_conn.specs.declared.act.LinkAct.{LinkAct}
use Rattle.mux_conn.specs.declared.act.LinkAct.TheVariants as act
use Rattle.mux_conn.specs.declared.connection.MultiplexedConnection.{MultiplexedConnection}
use Rattle.mux_conn.specs.declared.life.Greeting.{Greeting}
use Rattle.mux_conn.specs.declared.life.Greeting.TheVariants as greet
use Rattle.mux_conn.specs.declared.life.Life.{Life}
use Rattle.mux_conn.specs.declared.life.Life.TheVariants.{Resting, Dialing, Wanting, SettingUp, Ready, Ended}
use Rattle.mux_conn.specs.declared.request.Progress.TheVariants as progress
use Rattle.mux_conn.specs.declared.request.Waiting.{Waiting}
use Rattle.mux_conn.specs.Connection.{Work, acted, with_link, with_setup, is_serving, admits_none, has_room}
use Rattle.mux_conn.specs.Renewals.{renewed}
use Rattle.mux_conn.specs.Repeats.{repeated}
use Rattle.mux_conn.specs.Requests.{name_at, is_waiting_at, is_unbegun_at, is_admitted_at, with_permits, progressed, answered}
use Rattle.mux_conn.specs.Starts.{starts_with}

-- what shows that a greeting starts
abbrev pub greeting_act : Greeting → Started → LinkAct
greeting_act greet.WithUser s = act.SetUp s.msg s.need s.len
greeting_act greet.WithoutUser s = act.SetUp s.msg s.need s.len
greeting_act greet.Monitor s = act.Watch s.msg s.need s.len

-- the start of a greeting is shown
abbrev pub greeted_each : Work → Greeting → List Started → Work
greeted_each w greeting [] = w
greeted_each w greeting (s ∷ ss) = greeted_each (acted w (greeting_act greeting s)) greeting ss

abbrev pub greets_with : Work → Greeting → Starting → Work
greets_with w greeting s = greeted_each (with_setup w s.link greeting) greeting s.out

-- messages start as far as they can
abbrev pub started_at : Work → Life → Work
started_at w (Ready link) = starts_with w (started_all (record { link = link; out = [] }))
started_at w (SettingUp link greeting) = greets_with w greeting (started_all (record { link = link; out = [] }))
started_at w Resting = w
started_at w Dialing = w
started_at w (Wanting link) = w
started_at w (Ended e) = w

abbrev pub started : Work → Work
started w = started_at w w.conn.life

abbrev pub message_of : Waiting → Queued
message_of q = record { id = q.number; packed = q.packed; shape = q.shape; awaited = q.awaited }

-- request p was moved in this turn
abbrev pub noted : Work → ℕ → Work
noted w p = record w { conn = record w.conn { moved = w.conn.moved ++ p ∷ [] } }

-- a request takes its place in the queue
abbrev pub placed_at : Work → Waiting → Life → Work
placed_at w q (Ready link) = with_link (progressed (noted w q.number) q.number progress.Placed) (enqueued link (message_of q))
placed_at w q Resting = w
placed_at w q Dialing = w
placed_at w q (Wanting link) = w
placed_at w q (SettingUp link greeting) = w
placed_at w q (Ended e) = w

-- a command whose reply nobody awaits is answered with Nil at its place
abbrev pub told_at_place : Work → Waiting → Work
told_at_place w q = if q.awaited then w else answered w q.number (outcome.One Nil)

-- a request takes its place, and messages start
abbrev pub seated : Work → Waiting → Work
seated w q = started (told_at_place (placed_at w q w.conn.life) q)

-- those that wait for a place
abbrev pub still_admitted : Work → List Waiting → Work
still_admitted w qs = record w { conn = record w.conn { admitted = qs } }

-- a request that still waits for a place takes it
abbrev pub moved_up : Work → Waiting → Work
moved_up w q = if is_admitted_at w.conn.requests q.number then seated w q else w

-- those that wait for a place take theirs in order, as long as the queue has room
abbrev pub moved_up_each : Work → List Waiting → Work
moved_up_each w [] = still_admitted w []
moved_up_each w (q ∷ qs) = if has_room w.conn then moved_up_each (moved_up w q) qs else still_admitted w (q ∷ qs)

abbrev pub moved_up_all : Work → Work
moved_up_all w = moved_up_each (still_admitted w []) w.conn.admitted

-- a request waits for a place, behind the others
abbrev pub put_behind : Work → Waiting → Work
put_behind w q = still_admitted (noted w q.number) (w.conn.admitted ++ q ∷ [])

-- a request takes its place at once where the queue has room, and else it waits for one
abbrev pub seated_or_behind : Work → Waiting → Work
seated_or_behind w q = if has_room w.conn then seated w q else put_behind w q

-- the round of request p begins, where rounds are shown and it waits without one
abbrev pub round_begun : Work → ℕ → Work
round_begun w p =
    if w.conn.rounds && is_unbegun_at w.conn.requests p then acted (progressed w p progress.Begun) (act.Round (name_at w.conn.requests p)) else w

-- how many permits a message takes, where they are counted: as many as are free, and no more than it may
abbrev pub permits_taken : Option ℕ → ℕ → Shape → ℕ
permits_taken None free of_shape = 0
permits_taken (Some limit) free of_shape = min free (permits_for of_shape limit)

-- a request may take a place, and holds so many permits, which aren't free any more
abbrev pub holding : MultiplexedConnection → ℕ → ℕ → MultiplexedConnection
holding c p count = record c { requests = with_permits c.requests p progress.Admitted count; free = c.free - count }

-- where permits are counted, this is shown
abbrev pub took_shown : Work → ℕ → ℕ → Option ℕ → Work
took_shown w p count None = w
took_shown w p count (Some limit) = acted w (act.Took (name_at w.conn.requests p) count)

abbrev pub took : Work → ℕ → ℕ → Work
took w p count = took_shown (record w { conn = holding w.conn p count }) p count w.conn.limit

-- a timer is asked for, where it is to be answered within a time
abbrev pub timer_asked : Work → ℕ → Option ℕ → Work
timer_asked w p None = w
timer_asked w p (Some ms) = acted w (act.Timer (name_at w.conn.requests p) ms)

-- a request takes its permits, and its timer is asked for
abbrev pub let_in : Work → Waiting → Work
let_in w q = timer_asked (took w q.number (permits_taken w.conn.limit w.conn.free q.shape)) q.number q.timeout

-- a request that waits for the connection, or for a permit, is let in, once its round has begun; on a link that has ended it is answered
abbrev pub admitted_at : Work → Waiting → Life → Work
admitted_at w q (Ready link) = seated_or_behind (let_in (round_begun w q.number) q) q
admitted_at w q (Ended e) = answered w q.number (outcome.Fault e)
admitted_at w q Resting = w
admitted_at w q Dialing = w
admitted_at w q (Wanting link) = w
admitted_at w q (SettingUp link greeting) = w

abbrev pub admitted : Work → Waiting → Work
admitted w q = if is_waiting_at w.conn.requests q.number then admitted_at w q w.conn.life else w

-- those that wait for the connection
abbrev pub still_waiting : Work → List Waiting → Work
still_waiting w qs = record w { conn = record w.conn { waiting = qs } }

-- the requests that wait for the connection, or for permits, are moved in order, as long as they can be
abbrev pub admitted_each : Work → List Waiting → Work
admitted_each w [] = still_waiting w []
admitted_each w (q ∷ qs) = if admits_none w.conn then still_waiting w (q ∷ qs) else admitted_each (admitted w q) qs

abbrev pub admitted_all : Work → Work
admitted_all w = admitted_each (still_waiting w []) w.conn.waiting

-- the rounds of these requests begin, in order
abbrev pub rounds_of : Work → List ℕ → Work
rounds_of w [] = w
rounds_of w (p ∷ ps) = rounds_of (round_begun w p) ps

-- where rounds are shown, on a link that takes requests: of all that still wait, for a permit, the rounds begin. Those whose wait isn't to
-- be shown have begun before
abbrev pub rounds_begun : Work → Work
rounds_begun w = if w.conn.rounds && is_serving w.conn then rounds_of w w.conn.fresh else w

-- what the driver says itself on a link that is set up: what is subscribed again, and then new credentials
abbrev pub said : Work → Work
said w = renewed (repeated w)

-- the driver says what it has to, what waits in the queue starts, then those that wait for a place are moved, and then those that
-- wait for the connection
abbrev pub moved_all : Work → Work
moved_all w = admitted_all (moved_up_all (started (said w)))

-- every request is moved as far as it can go, and those that go on waiting for a permit begin their rounds
abbrev pub passed : Work → Work
passed w = rounds_begun (moved_all w)

-- it is the entry of request p
abbrev pub has_number : ℕ → Waiting → Bool
has_number p q = q.number == p

-- the entry of request p, if it is one of these
abbrev pub entry_of : ℕ → List Waiting → Option Waiting
entry_of p [] = None
entry_of p (q ∷ qs) = if has_number p q then Some q else entry_of p qs

abbrev pub without : ℕ → List Waiting → List Waiting
without p qs = first_replaced (has_number p) (λ _. []) qs

-- request p alone is moved as far as it can go, where it waits for a place
abbrev pub seated_alone : Work → ℕ → Option Waiting → Work
seated_alone w p None = w
seated_alone w p (Some q) = if has_room w.conn then moved_up (still_admitted w (without p w.conn.admitted)) q else w

-- and where it waits for the connection
abbrev pub admitted_alone : Work → ℕ → Option Waiting → Work
admitted_alone w p None = w
admitted_alone w p (Some q) = if admits_none w.conn then w else admitted (still_waiting w (without p w.conn.waiting)) q

-- request p alone is moved as far as it can go
abbrev pub advanced : Work → ℕ → Work
advanced w p =
    if is_admitted_at w.conn.requests p then seated_alone w p (entry_of p w.conn.admitted)
    else if is_waiting_at w.conn.requests p then admitted_alone w p (entry_of p w.conn.waiting) else w

abbrev pub is_there : Option Waiting → Bool
is_there None = false
is_there (Some q) = true

-- whether it moves
abbrev pub can_advance : MultiplexedConnection → ℕ → Bool
can_advance c p =
    if is_admitted_at c.requests p then is_there (entry_of p c.admitted) && has_room c
    else is_waiting_at c.requests p && (is_there (entry_of p c.waiting) && not (admits_none c))
