-- New credentials: they come of a source, and are told to the server of a link that is set up, one after another.
use Rattle.std.specs.Prelude.{ℕ, ◌+◌, ◌^◌, ◌==◌, Bool, true, false, ◌&&◌, ◌||◌, not, List, [], ◌∷◌, ◌++◌, Option, Some, None, if◌then◌else◌}
use Rattle.credentials.specs.Credentials.{Credentials}
use Rattle.credentials.specs.Message.{auth_bytes}
use Rattle.driver_model.specs.declared.outcome.Shape.TheVariants.{Confirmation}
use Rattle.driver_model.specs.declared.outcome.Verdict.{Verdict}
use Rattle.driver_model.specs.declared.outcome.Verdict.TheVariants as verdict
use Rattle.link_core.specs.declared.message.Queued.{Queued}
use Rattle.link_core.specs.declared.message.Started.{Started}
use Rattle.link_core.specs.Link.{LinkState, begun, holds_back, start_of, started_to}
use Rattle.mux_conn.specs.declared.act.LinkAct.{LinkAct}
use Rattle.mux_conn.specs.declared.act.LinkAct.TheVariants as act
use Rattle.mux_conn.specs.declared.connection.MultiplexedConnection.{MultiplexedConnection}
use Rattle.mux_conn.specs.declared.life.Life.{Life}
use Rattle.mux_conn.specs.declared.life.Life.TheVariants.{Resting, Dialing, Wanting, SettingUp, Ready, Ended}
use Rattle.mux_conn.specs.declared.renewal.Renewal.{Renewal}
use Rattle.mux_conn.specs.Connection.{Work, acted, with_link, is_ready, is_due, last_queued}
use Rattle.mux_conn.specs.Starts.{starts_with}

-- none came, where they are wanted or not, and are to be answered within so many milliseconds, if within any
abbrev pub no_renewal : Bool → Option ℕ → Renewal
no_renewal wanted within = record { wanted = wanted; within = within; waiting = []; asked = 0; pending = false; last = None; unanswered = false; over = false; lost = false }

-- this is now true of the new credentials
abbrev pub with_renewal : MultiplexedConnection → Renewal → MultiplexedConnection
with_renewal c r = record c { renewal = r }

abbrev pub renewing : Work → Renewal → Work
renewing w r = record w { conn = with_renewal w.conn r }

-- a source is asked for, where credentials come of sources
abbrev pub source_asked : Work → Work
source_asked w = if w.conn.renewal.wanted then acted w act.NeedRenewals else w

-- more of them may come
abbrev pub takes_more : Renewal → Bool
takes_more r = r.wanted && not r.over

-- new credentials came, which wait until those before them are answered
abbrev pub expected : Renewal → Credentials → Renewal
expected r c = record r { waiting = r.waiting ++ c ∷ [] }

abbrev pub expecting : MultiplexedConnection → Credentials → MultiplexedConnection
expecting c auth = if is_ready c.life && takes_more c.renewal then with_renewal c (expected c.renewal auth) else c

-- no more of them come
abbrev pub none_follow : MultiplexedConnection → MultiplexedConnection
none_follow c = with_renewal c (record c.renewal { over = true })

-- the number of the message that tells new credentials: no request has it
abbrev pub renewal_id : ℕ
renewal_id = 2 ^ 32 + 2

-- the message that tells these credentials
abbrev pub renewal_queued : Credentials → Queued
renewal_queued c = record { id = renewal_id; packed = auth_bytes c.username c.password; shape = Confirmation; awaited = true }

-- a server takes credentials where its reply is no error
abbrev pub is_done : Verdict → Bool
is_done verdict.Done = true
is_done (verdict.One value) = false
is_done (verdict.Many values) = false
is_done (verdict.Fault e) = false

-- those that were told last are answered: where the server doesn't take them, no others are told
abbrev pub replied : Renewal → Bool → Renewal
replied r done = record r { unanswered = false; lost = r.lost || not done }

-- those of that number are to be told, or were told last, and aren't answered
abbrev pub is_unanswered : Renewal → ℕ → Bool
is_unanswered r k = (k + 1 == r.asked) && (r.unanswered || r.pending)

-- the time for those of that number is over: where they aren't answered, no others are told
abbrev pub late_for : MultiplexedConnection → ℕ → MultiplexedConnection
late_for c k = if is_unanswered c.renewal k then with_renewal c (record c.renewal { lost = true }) else c

-- some more are to be told, behind the requests up to this one, if there is one
abbrev pub asked_next : Renewal → Option ℕ → Renewal
asked_next r last = record r { asked = r.asked + 1; pending = true; last = last }

-- they are told, and these wait
abbrev pub told_next : Renewal → List Credentials → Renewal
told_next r cs = record r { waiting = cs; pending = false; unanswered = true }

-- the timer of new credentials of this number is asked for, where they are to be answered within a time
abbrev pub renewal_timed : Work → ℕ → Option ℕ → Work
renewal_timed w number None = w
renewal_timed w number (Some ms) = acted w (act.RenewalTimer number ms)

-- so it is for those that are next, once. The requests that are in the queue then start before them
abbrev pub renewal_asked : Work → Work
renewal_asked w =
    let r = w.conn.renewal in
    if r.pending then w else renewal_timed (renewing w (asked_next r (last_queued w.conn.life))) r.asked r.within

-- a message starts at once on a link that is set up
abbrev pub begun_in : Life → Queued → Life
begun_in (Ready link) q = Ready (begun link q)
begun_in Resting q = Resting
begun_in Dialing q = Dialing
begun_in (Wanting link) q = Wanting link
begun_in (SettingUp link greeting) q = SettingUp link greeting
begun_in (Ended e) q = Ended e

-- what shows that new credentials are told
abbrev pub renewal_act : Started → LinkAct
renewal_act s = act.Renewed s.msg s.need s.len

-- those that took their places before them start as far as they can
abbrev pub started_ahead_at : Work → Life → Work
started_ahead_at w (Ready link) = starts_with w (started_to w.conn.renewal.last (record { link = link; out = [] }))
started_ahead_at w Resting = w
started_ahead_at w Dialing = w
started_ahead_at w (Wanting link) = w
started_ahead_at w (SettingUp link greeting) = w
started_ahead_at w (Ended e) = w

abbrev pub started_ahead : Work → Work
started_ahead w = started_ahead_at w w.conn.life

-- these are told, and the others wait: their message starts before those that are left in the queue
abbrev pub renewal_told : Work → LinkState → Credentials → List Credentials → Work
renewal_told w link c cs =
    let q = renewal_queued c in
    acted (with_link (renewing w (told_next w.conn.renewal cs)) (begun link q)) (renewal_act (start_of link.started q))

-- the first of these are told on a link that isn't held back
abbrev pub renewal_moved : Work → Life → List Credentials → Work
renewal_moved w (Ready link) (c ∷ cs) = if holds_back link then w else renewal_told w link c cs
renewal_moved w (Ready link) [] = w
renewal_moved w Resting cs = w
renewal_moved w Dialing cs = w
renewal_moved w (Wanting link) cs = w
renewal_moved w (SettingUp link greeting) cs = w
renewal_moved w (Ended e) cs = w

-- the new credentials that are next are told, where the link is set up, behind those that took their places before them
abbrev pub renewed : Work → Work
renewed w =
    let ahead = started_ahead (renewal_asked w) in
    if is_ready w.conn.life && is_due w.conn.renewal
    then renewal_moved ahead ahead.conn.life ahead.conn.renewal.waiting else w
