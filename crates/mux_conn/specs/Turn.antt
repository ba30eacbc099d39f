-- What a turn ends with, and a whole turn of a connection.
use Rattle.std.specs.Prelude.{ℕ, nat_le, Bool, true, false, ◌&&◌, Option, None, Some, unwrap_or, List, [], ◌∷◌, if◌then◌else◌}
use Rattle.connection_info.specs.declared.address.RedisConnectionInfo.{RedisConnectionInfo}
use Rattle.driver_model.specs.declared.action.WaitKind.{WaitKind}
use Rattle.driver_model.specs.declared.action.WaitKind.TheVariants as wait
use Rattle.driver_model.specs.declared.hearing.Hearing.{Hearing}
use Rattle.driver_model.specs.News.{News}
use Rattle.link_core.specs.Link.{LinkState, offered_of}
use Rattle.link_core.specs.Outbox.{can_offer}
use Rattle.mux_conn.specs.declared.act.LinkAct.TheVariants as act
use Rattle.mux_conn.specs.declared.again.Again.TheVariants as again
use Rattle.mux_conn.specs.declared.connection.MultiplexedConnection.{MultiplexedConnection}
use Rattle.mux_conn.specs.declared.renewal.Renewal.{Renewal}
use Rattle.mux_conn.specs.declared.life.Greeting.{Greeting}
use Rattle.mux_conn.specs.declared.life.Life.{Life}
use Rattle.mux_conn.specs.declared.life.Life.TheVariants.{Resting, Dialing, Wanting, SettingUp, Ready, Ended}
use Rattle.mux_conn.specs.Connection.{Work, acted, with_link, with_setup, is_repeating, first_queued}
use Rattle.mux_conn.specs.Requests.{name_at, is_waiting_at, is_admitted_at, is_placed_at}
use Rattle.mux_conn.specs.Effects.{applied}
use Rattle.mux_conn.specs.Passes.{passed}

-- a connection whose connect isn't answered, without requests: its opening is the only attempt
abbrev pub dialing : ℕ → ℕ → Option ℕ → Hearing → RedisConnectionInfo → Renewal → MultiplexedConnection
dialing size boundary limit hears info renewal = record {
  size = size;
  boundary = boundary;
  limit = limit;
  free = unwrap_or limit 0;
  hears = hears;
  info = info;
  address = info;
  renewal = renewal;
  again = again.Nothing;
  life = Dialing;
  last = true;
  told = false;
  opened = false;
  rounds = false;
  requests = [];
  waiting = [];
  admitted = [];
  fresh = [];
  moved = [];
  starts = tt;
  settled = tt;
  notices = tt;
  failure = None;
}

-- all unwritten bytes are offered, unless an offer is unanswered
abbrev pub offers : Work → LinkState → Work
offers w link = if can_offer link.outbox then acted (with_link w (offered_of link)) (act.Write link.outbox.unwritten) else w

-- the same while the link is set up
abbrev pub setup_offered : Work → LinkState → Greeting → Work
setup_offered w link greeting = if can_offer link.outbox then acted (with_setup w (offered_of link) greeting) (act.Write link.outbox.unwritten) else w

abbrev pub written_at : Work → Life → Work
written_at w (Ready link) = offers w link
written_at w Resting = w
written_at w Dialing = w
written_at w (Wanting link) = w
written_at w (SettingUp link greeting) = setup_offered w link greeting
written_at w (Ended e) = w

abbrev pub written : Work → Work
written w = written_at w w.conn.life

-- the message p is that one, or stands behind it
abbrev pub is_from : Option ℕ → ℕ → Bool
is_from None p = false
is_from (Some first) p = nat_le first p

-- what a request that was moved in this turn waits for, if it waits: a place, or, where it is in the queue, room
abbrev pub moved_wait : MultiplexedConnection → ℕ → Option WaitKind
moved_wait c p =
    if is_admitted_at c.requests p then Some wait.Place
    else if is_placed_at c.requests p && is_from (first_queued c.life) p then Some wait.Room else None

-- what a request waits for that waits for its connection, where nothing is subscribed again: the next attempt, the connect, the
-- credentials for its setup, the setup, or a permit
abbrev pub early_wait : Life → WaitKind
early_wait Resting = wait.Backoff
early_wait Dialing = wait.Connect
early_wait (Wanting link) = wait.Creds
early_wait (SettingUp link greeting) = wait.Setup
early_wait (Ready link) = wait.Permit
early_wait (Ended e) = wait.Permit

-- on a link that is set up it waits for what is subscribed again there, as long as that isn't answered
abbrev pub waits_for : MultiplexedConnection → WaitKind
waits_for c = if is_repeating c then wait.Resubscribe else early_wait c.life

-- what a request waits for that has come into this turn without permits, if it waits
abbrev pub fresh_wait : MultiplexedConnection → ℕ → Option WaitKind
fresh_wait c p = if is_waiting_at c.requests p then Some (waits_for c) else None

abbrev pub wait_shown : Work → ℕ → Option WaitKind → Work
wait_shown w p None = w
wait_shown w p (Some kind) = acted w (act.Wait (name_at w.conn.requests p) kind)

-- the waits of requests that were moved in this turn are shown
abbrev pub moved_each_shown : Work → List ℕ → Work
moved_each_shown w [] = w
moved_each_shown w (p ∷ ps) = moved_each_shown (wait_shown w p (moved_wait w.conn p)) ps

abbrev pub moved_shown : Work → Work
moved_shown w = moved_each_shown (record w { conn = record w.conn { moved = [] } }) w.conn.moved

-- and those of requests that came in it, or whose connect was answered
abbrev pub fresh_each_shown : Work → List ℕ → Work
fresh_each_shown w [] = w
fresh_each_shown w (p ∷ ps) = fresh_each_shown (wait_shown w p (fresh_wait w.conn p)) ps

abbrev pub fresh_shown : Work → Work
fresh_shown w = fresh_each_shown (record w { conn = record w.conn { fresh = [] } }) w.conn.fresh

abbrev pub waits_shown : Work → Work
waits_shown w = fresh_shown (moved_shown w)

-- what a turn ends with: the link's one write, and the waits that began
abbrev pub flushed : Work → Work
flushed w = waits_shown (written w)

-- a whole turn: the news has its effect, requests are moved, and bytes and waits are shown
abbrev pub stepped : Work → News → Work
stepped w news = flushed (passed (applied w news))
