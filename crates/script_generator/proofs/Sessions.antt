-- The sessions that the generated script leads to.
use Rattle.std.proofs.Common.{ℕ, true, false, List, [], Option, None}
use Rattle.connection_info.specs.declared.address.RedisConnectionInfo.{RedisConnectionInfo}
use Rattle.driver_model.specs.declared.hearing.Hearing.TheVariants as hearing
use Rattle.driver_model.specs.declared.kind.SessionKind.TheVariants as kind
use Rattle.link_core.specs.declared.message.Entry.{Entry}
use Rattle.link_core.specs.declared.outbox.Outbox.{Outbox}
use Rattle.link_core.specs.Link.{LinkState}
use Rattle.mux_conn.specs.declared.again.Again.TheVariants as again
use Rattle.mux_conn.specs.declared.connection.MultiplexedConnection.{MultiplexedConnection}
use Rattle.mux_conn.specs.declared.life.Life.{Life}
use Rattle.mux_conn.specs.declared.life.Life.TheVariants.{Ready}
use Rattle.mux_conn.specs.declared.request.Pending.{Pending}
use Rattle.mux_conn.specs.declared.request.Request.{Request}
use Rattle.mux_conn.specs.declared.request.Waiting.{Waiting}
use Rattle.mux_conn.specs.Renewals.{no_renewal}
use Rattle.single_session.specs.declared.core_state.Core.{Core}

-- a link without queue, of these messages that take items, of so many that started, with these bytes to be written
abbrev pub link_with : List Entry → ℕ → Outbox → LinkState
link_with row started outbox = record { size = 50; boundary = 8192; queue = []; row = row; started = started; outbox = outbox; rest = []; broken = false; failed = false }

-- nothing is to be written
abbrev pub no_bytes : Outbox
no_bytes = record { unwritten = []; offered = 0 }

-- a connection that was set up, of this life and these requests, of which these wait for it, and these are to be shown
abbrev pub connection_with : RedisConnectionInfo → Life → List Request → List Waiting → List ℕ → List ℕ → MultiplexedConnection
connection_with info life requests waiting fresh moved = record {
  size = 50;
  boundary = 8192;
  limit = None;
  free = 0;
  hears = hearing.Nothing;
  info = info;
  address = info;
  renewal = no_renewal false None;
  again = again.Nothing;
  life = life;
  last = true;
  told = true;
  opened = true;
  rounds = false;
  requests = requests;
  waiting = waiting;
  admitted = [];
  fresh = fresh;
  moved = moved;
  starts = tt;
  settled = tt;
  notices = tt;
  failure = None;
}

-- a connection in which nobody waits
abbrev pub still : RedisConnectionInfo → Life → List Request → MultiplexedConnection
still info life requests = connection_with info life requests [] [] []

-- a session over a connection, before its turn of that number, with these requests of its submissions
abbrev pub session_with : ℕ → List (Option Pending) → MultiplexedConnection → Core
session_with turns table connection = record { kind = kind.Single; manager = None; turns = turns; links = 1; shut = false; timeout = None; timers = []; sources = []; table = table; single = record { link = 0; connection = connection } }

-- a session whose link is up
abbrev pub up : RedisConnectionInfo → ℕ → List (Option Pending) → List Request → LinkState → Core
up info turns table requests link = session_with turns table (still info (Ready link) requests)
