-- A connection in the middle of a turn, and its life.
use Rattle.std.specs.Prelude.{ℕ, ◌^◌, ◌==◌, nat_le, Bool, true, false, ◌&&◌, ◌||◌, not, List, [], ◌∷◌, ◌++◌, Option, None, Some, if◌then◌else◌}
use Rattle.credentials.specs.Credentials.{Credentials}
use Rattle.link_core.specs.Link.{LinkState, first_in, last_in, holds_back, is_full_beside}
use Rattle.mux_conn.specs.declared.act.LinkAct.{LinkAct}
use Rattle.mux_conn.specs.declared.again.Again.{Again}
use Rattle.mux_conn.specs.declared.again.Again.TheVariants as again
use Rattle.mux_conn.specs.declared.connection.MultiplexedConnection.{MultiplexedConnection}
use Rattle.mux_conn.specs.declared.life.Greeting.{Greeting}
use Rattle.mux_conn.specs.declared.life.Life.{Life}
use Rattle.mux_conn.specs.declared.life.Life.TheVariants.{Resting, Dialing, Wanting, SettingUp, Ready, Ended}
use Rattle.mux_conn.specs.declared.renewal.Renewal.{Renewal}

-- a connection, and the acts of the turn so far
pub record Work : Type 0 where
  pub conn : MultiplexedConnection
  pub acts : List LinkAct

-- this connection, and these acts so far
abbrev pub work_with : MultiplexedConnection → List LinkAct → Work
work_with conn acts = record { conn = conn; acts = acts }

-- one more act of this turn
abbrev pub acted : Work → LinkAct → Work
acted w a = record w { acts = w.acts ++ a ∷ [] }

abbrev pub at_life : Work → Life → Work
at_life w life = record w { conn = record w.conn { life = life } }

-- the link of a connection that is up
abbrev pub with_link : Work → LinkState → Work
with_link w link = at_life w (Ready link)

-- the link of a connection whose setup waits for credentials
abbrev pub with_wanting : Work → LinkState → Work
with_wanting w link = at_life w (Wanting link)

-- the link of a connection that is set up
abbrev pub with_setup : Work → LinkState → Greeting → Work
with_setup w link greeting = at_life w (SettingUp link greeting)

-- it is up and set up by this link
abbrev pub opened_on : Work → LinkState → Work
opened_on w link = record w { conn = record w.conn { life = Ready link; opened = true } }

-- there is no link, and none is asked for
abbrev pub is_resting : Life → Bool
is_resting Resting = true
is_resting Dialing = false
is_resting (Wanting link) = false
is_resting (SettingUp link greeting) = false
is_resting (Ready link) = false
is_resting (Ended e) = false

-- its connect isn't answered
abbrev pub awaits_connect : Life → Bool
awaits_connect Resting = false
awaits_connect Dialing = true
awaits_connect (Wanting link) = false
awaits_connect (SettingUp link greeting) = false
awaits_connect (Ready link) = false
awaits_connect (Ended e) = false

-- it is up, and its setup waits for credentials
abbrev pub awaits_credentials : Life → Bool
awaits_credentials Resting = false
awaits_credentials Dialing = false
awaits_credentials (Wanting link) = true
awaits_credentials (SettingUp link greeting) = false
awaits_credentials (Ready link) = false
awaits_credentials (Ended e) = false

-- it is up, and what is said to the server before the first request isn't answered
abbrev pub is_setting_up : Life → Bool
is_setting_up Resting = false
is_setting_up Dialing = false
is_setting_up (Wanting link) = false
is_setting_up (SettingUp link greeting) = true
is_setting_up (Ready link) = false
is_setting_up (Ended e) = false

abbrev pub is_ready : Life → Bool
is_ready Resting = false
is_ready Dialing = false
is_ready (Wanting link) = false
is_ready (SettingUp link greeting) = false
is_ready (Ready link) = true
is_ready (Ended e) = false

-- no permit is free, of so many, if they are counted
abbrev pub has_no_permit : Option ℕ → ℕ → Bool
has_no_permit None free = false
has_no_permit (Some limit) free = free == 0

-- no request that waits for the connection, or for a permit of it, can be moved
abbrev pub admits_none_at : Life → Bool → Bool
admits_none_at Resting empty = true
admits_none_at Dialing empty = true
admits_none_at (Wanting link) empty = true
admits_none_at (SettingUp link greeting) empty = true
admits_none_at (Ready link) empty = empty
admits_none_at (Ended e) empty = false

-- something is to be subscribed again, and isn't answered
abbrev pub is_outstanding : Again → Bool
is_outstanding again.Nothing = false
is_outstanding (again.Due packed of_shape timed) = true
is_outstanding again.Sent = true

-- so it is on a link that is set up
abbrev pub is_repeating : MultiplexedConnection → Bool
is_repeating c = is_ready c.life && is_outstanding c.again

-- the link is set up, and takes requests: what is subscribed again is answered, if anything is
abbrev pub is_serving : MultiplexedConnection → Bool
is_serving c = is_ready c.life && not (is_outstanding c.again)

abbrev pub admits_none : MultiplexedConnection → Bool
admits_none c = admits_none_at c.life (is_outstanding c.again || has_no_permit c.limit c.free)

-- some credentials wait to be told
abbrev pub are_some : List Credentials → Bool
are_some [] = false
are_some (c ∷ cs) = true

-- new credentials are to be told next: they came, and those before them were answered, well and in time
abbrev pub is_due : Renewal → Bool
is_due r = not (r.unanswered || r.lost) && are_some r.waiting

-- how many messages count beside the queue: new credentials do that are to be told
abbrev pub in_front : Renewal → ℕ
in_front r = if is_due r then 1 else 0

-- it is up, and the queue holds less than its size, where so many messages are counted that are not in it
abbrev pub has_room_at : Life → ℕ → Bool
has_room_at Resting n = false
has_room_at Dialing n = false
has_room_at (Wanting link) n = false
has_room_at (SettingUp link greeting) n = false
has_room_at (Ready link) n = not (is_full_beside link n)
has_room_at (Ended e) n = false

abbrev pub has_room : MultiplexedConnection → Bool
has_room c = has_room_at c.life (in_front c.renewal)

-- no message starts on it, if it is set up
abbrev pub is_held_back : Life → Bool
is_held_back Resting = false
is_held_back Dialing = false
is_held_back (Wanting link) = false
is_held_back (SettingUp link greeting) = false
is_held_back (Ready link) = holds_back link
is_held_back (Ended e) = false

-- the request whose message starts next, where it is up and one is in the queue
abbrev pub first_queued : Life → Option ℕ
first_queued Resting = None
first_queued Dialing = None
first_queued (Wanting link) = None
first_queued (SettingUp link greeting) = None
first_queued (Ready link) = first_in link.queue
first_queued (Ended e) = None

-- the request whose message starts last of those in the queue, where it is up and one is in the queue
abbrev pub last_queued : Life → Option ℕ
last_queued Resting = None
last_queued Dialing = None
last_queued (Wanting link) = None
last_queued (SettingUp link greeting) = None
last_queued (Ready link) = last_in link.queue
last_queued (Ended e) = None

-- how many messages of a link that is up have started
abbrev pub started_in : Life → ℕ
started_in Resting = 0
started_in Dialing = 0
started_in (Wanting link) = link.started
started_in (SettingUp link greeting) = link.started
started_in (Ready link) = link.started
started_in (Ended e) = 0

-- the number 2^32 - 1 was given to a message of the link
abbrev pub is_spent_in : Life → Bool
is_spent_in life = nat_le (2 ^ 32) (started_in life)

-- a message of its link was given the number 2^32 - 1
abbrev pub runs_out : Work → Bool
runs_out w = is_spent_in w.conn.life

-- new credentials were given it
abbrev pub renewals_run_out : Work → Bool
renewals_run_out w = nat_le (2 ^ 32) w.conn.renewal.asked

-- a message of its link was given it, or new credentials were
abbrev pub is_used_up : MultiplexedConnection → Bool
is_used_up c = is_spent_in c.life || nat_le (2 ^ 32) c.renewal.asked

abbrev pub uses_up : Work → Bool
uses_up w = is_used_up w.conn
