-- A link whose greeting has started: the setup, or MONITOR.
use Rattle.std.specs.Prelude.{◌≡◌, ℕ, ◌==◌, true, false, List, [], ◌∷◌}
use Rattle.connection_info.specs.declared.address.RedisConnectionInfo.{RedisConnectionInfo}
use Rattle.connection_setup.specs.Setup.{setup}
use Rattle.driver_model.specs.News.{connected, came}
use Rattle.driver_model.specs.Setup.{setup_bytes, setup_shape}
use Rattle.driver_model.specs.declared.action.Owner.{Owner}
use Rattle.driver_model.specs.declared.action.Owner.TheVariants as owner
use Rattle.driver_model.specs.declared.hearing.Hearing.{Hearing}
use Rattle.link_core.specs.declared.message.NoticeAt.{NoticeAt}
use Rattle.link_core.specs.declared.message.Queued.{Queued}
use Rattle.link_core.specs.Link.{LinkState, Reading, begun, fresh}
use Rattle.legal_trace.specs.Ledger.{Ledger, Start, asks, begins, hears, ledger}
use Rattle.link_laws.specs.Notices.{SayTheSame, AreApart}

-- the setup, with the user name
abbrev pub setup_start : RedisConnectionInfo → Start
setup_start info = let steps = setup info true in record { owner = owner.Setup; shape = setup_shape steps; bytes = setup_bytes steps }

-- a greeting as a message of that number, whose verdict is wanted
abbrev pub greeting_of : ℕ → Start → Queued
greeting_of id s = record { id = id; packed = s.bytes; shape = s.shape; awaited = true }

-- a new link on which it has started
abbrev pub greeting_link : ℕ → ℕ → ℕ → Start → LinkState
greeting_link size boundary id s = begun (fresh size boundary) (greeting_of id s)

-- its ledger when bytes have come
abbrev pub greeting_ledger : Hearing → RedisConnectionInfo → Start → List ℕ → Ledger
greeting_ledger h info s piece = ledger (asks info false h true false ∷ hears 1 connected ∷ begins s ∷ hears 2 (came piece) ∷ [])

-- a notice stands behind some settled message
abbrev pub IsBehind : NoticeAt → Type 0
IsBehind p = (p.settled == 0) ≡ false

-- the link and its ledger hear the same, each where it came, and a value ends the one where it ends the other
pub record HearAlike (name : ℕ → Owner) (l : Ledger) (r : Reading) : Type 0 where
  pub same : SayTheSame r.notices l.notices
  pub apart : AreApart name l r.notices l.notices 0 r.out
  pub strange : l.strange ≡ r.strange
