-- What is subscribed again: one message, which starts on a link once that is set up, before new credentials and all requests.
use Rattle.std.specs.Prelude.{ℕ, ◌+◌, ◌^◌, Bool, true, false, ◌&&◌, not, List, Option, Some, None, if◌then◌else◌}
use Rattle.driver_model.specs.declared.outcome.Shape.{Shape}
use Rattle.link_core.specs.declared.message.Queued.{Queued}
use Rattle.link_core.specs.declared.message.Started.{Started}
use Rattle.link_core.specs.Link.{LinkState, begun, holds_back, start_of}
use Rattle.mux_conn.specs.declared.act.LinkAct.{LinkAct}
use Rattle.mux_conn.specs.declared.act.LinkAct.TheVariants as act
use Rattle.mux_conn.specs.declared.again.Again.{Again}
use Rattle.mux_conn.specs.declared.again.Again.TheVariants as again
use Rattle.mux_conn.specs.declared.life.Life.{Life}
use Rattle.mux_conn.specs.declared.life.Life.TheVariants.{Resting, Dialing, Wanting, SettingUp, Ready, Ended}
use Rattle.mux_conn.specs.Connection.{Work, acted, with_link, is_ready}

-- its message is to start
abbrev pub is_to_start : Again → Bool
is_to_start again.Nothing = false
is_to_start (again.Due packed of_shape timed) = true
is_to_start again.Sent = false

-- and no timer was asked for it
abbrev pub is_untimed : Again → Bool
is_untimed again.Nothing = false
is_untimed (again.Due packed of_shape timed) = not timed
is_untimed again.Sent = false

-- one was
abbrev pub with_timer : Again → Again
with_timer again.Nothing = again.Nothing
with_timer (again.Due packed of_shape timed) = again.Due packed of_shape true
with_timer again.Sent = again.Sent

-- this is now true of what is subscribed again
abbrev pub repeating : Work → Again → Work
repeating w a = record w { conn = record w.conn { again = a } }

-- the number of the message that subscribes again: no request has it
abbrev pub repeat_id : ℕ
repeat_id = 2 ^ 32 + 4

-- that message
abbrev pub repeat_queued : List ℕ → Shape → Queued
repeat_queued packed of_shape = record { id = repeat_id; packed = packed; shape = of_shape; awaited = true }

-- its timer is asked for, where it is to be answered within a time
abbrev pub repeat_timed : Work → Option ℕ → Work
repeat_timed w None = w
repeat_timed w (Some ms) = acted w (act.RepeatTimer ms)

-- so it is once
abbrev pub repeat_asked : Work → Work
repeat_asked w =
    let a = w.conn.again in
    if is_untimed a then repeat_timed (repeating w (with_timer a)) w.conn.renewal.within else repeating w (with_timer a)

-- what shows that all is subscribed again
abbrev pub repeat_act : Started → LinkAct
repeat_act s = act.Repeated s.msg s.need s.len

-- it is, by this message, which starts before those in the queue
abbrev pub repeat_told : Work → LinkState → List ℕ → Shape → Work
repeat_told w link packed of_shape =
    let q = repeat_queued packed of_shape in
    acted (with_link (repeating w again.Sent) (begun link q)) (repeat_act (start_of link.started q))

-- where it is to be, on a link that isn't held back
abbrev pub repeat_moved : Work → Life → Again → Work
repeat_moved w (Ready link) (again.Due packed of_shape timed) = if holds_back link then w else repeat_told w link packed of_shape
repeat_moved w (Ready link) again.Nothing = w
repeat_moved w (Ready link) again.Sent = w
repeat_moved w Resting a = w
repeat_moved w Dialing a = w
repeat_moved w (Wanting link) a = w
repeat_moved w (SettingUp link greeting) a = w
repeat_moved w (Ended e) a = w

-- what is to be subscribed again is, once the link is set up
abbrev pub repeated : Work → Work
repeated w =
    if is_ready w.conn.life && is_to_start w.conn.again
    then repeat_moved (repeat_asked w) w.conn.life w.conn.again else w
