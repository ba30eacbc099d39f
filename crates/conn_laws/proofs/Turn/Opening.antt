-- The opening: the first link is asked for.
use Rattle.std.proofs.Common.{None, Some, [], ap, arith, subst, ◌≡◌, true}
use Rattle.driver_model.specs.declared.config.Config.{Config}
use Rattle.driver_model.specs.Config.{manager_of, told_info, hearing_of, wants_credentials}
use Rattle.legal_trace.specs.Managers.{is_last, settings_in}
use Rattle.legal_trace.specs.Again.{repeats_in}
use Rattle.legal_trace.proofs.Managers.{no_settings}
use Rattle.legal_trace.specs.Ledger.{Line, asks}
use Rattle.legal_trace.specs.Story.{blank_story}
use Rattle.conn_laws.proofs.Ties.Tied.{TiedLines, TiedNames, TiedWaits, no_link, link_in}
use Rattle.conn_laws.proofs.Ties.Numbers.{IsIn}
use Rattle.mux_conn.specs.declared.again.Again.{Again}
use Rattle.mux_conn.specs.declared.life.Life.{Life}
use Rattle.link_core.specs.Link.{LinkState}
use Rattle.link_laws.specs.Settles.{awaited_ids}

-- no attempt follows the first, where the session doesn't come back
pub last_first : (config : Config) → manager_of config ≡ None → is_last (settings_in (Some config)) 0 ≡ true
last_first config none = ap (λ s. is_last s 0) (no_settings config none)

-- the line that its connect is
abbrev pub first_line : Config → Line
first_line config = asks (told_info config) (wants_credentials config) (hearing_of config) (is_last (settings_in (Some config)) 0) (repeats_in (settings_in (Some config)) [])

-- its lines
pub opening_lines : TiedLines (λ n. blank_story) [] no_link [] [] [] []
opening_lines = record { line = omega arith; queued = tt; entries = tt; packs = tt; packed_in = tt; there = λ p e. cc }

-- its waits
pub opening_waits : (a : Again) (life : Life) → link_in life ≡ no_link → TiedWaits (λ n. blank_story) [] a life [] []
opening_waits a life bare = record {
  early = λ p w. cc;
  backoff = λ p w e. cc;
  connect = λ p w e. cc;
  creds = λ p link w e. cc;
  setup = λ p link u w e. cc;
  resubscribe = λ p link w e goes. cc;
  permit = λ p link w e none. cc;
  place = λ p a. cc;
  room = λ p i. absurd (subst (λ (x : LinkState). IsIn p (awaited_ids x.queue)) bare i);
  newer = omega arith;
  rising = omega arith;
  no_backoff = λ p i. absurd i;
  no_connect = λ p i. absurd i;
  no_creds = λ p link i. absurd i;
  no_setup = λ p link u i. absurd i;
  no_resubscribe = λ p link i. absurd i;
  unpermitted = λ p link w e goes. cc;
  no_permit = λ p link i. absurd i;
  no_place = λ p i. absurd i;
  seatless = λ p a e. cc a;
  no_room = λ p i. absurd i;
}

-- its names
pub opening_names : TiedNames [] []
opening_names = record { few = omega arith; named = λ p r e. cc; kept = λ n p e. cc; rising = λ p q r s less e k. cc }
