-- A history, and the same history with the cancel of a started request in it.
use Rattle.std.specs.Prelude.{◌≡◌, ℕ, ◌+◌, ◌^◌, ◌<◌, ◌≤◌, List, [], ◌∷◌, ◌++◌, length, true, false, Some, slice_get}
use Rattle.connection_setup.specs.Setup.{setup}
use Rattle.driver_model.specs.Config.{hearing_of, told_info, wants_credentials}
use Rattle.driver_model.specs.Hearing.{is_watching}
use Rattle.driver_model.specs.Setup.{says_nothing}
use Rattle.driver_model.specs.declared.action.Action.{Action}
use Rattle.driver_model.specs.declared.action.Action.TheVariants as action
use Rattle.driver_model.specs.declared.action.Cause.TheVariants as cause
use Rattle.driver_model.specs.declared.config.Config.{Config}
use Rattle.driver_model.specs.declared.event.Event.{Event}
use Rattle.driver_model.specs.declared.event.EventKind.TheVariants as event
use Rattle.driver_model.specs.declared.event.Submission.{Submission}
use Rattle.link_core.specs.Link.{LinkState, is_full, holds_back}
use Rattle.link_core.specs.Waiting.{without}
use Rattle.mux_conn.specs.declared.life.Life.TheVariants.{Ready}
use Rattle.mux_conn.specs.Connection.{has_no_permit, is_outstanding}
use Rattle.mux_conn.specs.declared.request.Pending.{Pending}
use Rattle.mux_conn.specs.declared.request.Progress.TheVariants as progress
use Rattle.mux_conn.specs.declared.request.Request.{Request}
use Rattle.single_session.specs.declared.core_state.Core.{Core}
use Rattle.single_session.specs.Replay.{first_link, state_after, trace_of}
use Rattle.cancel_laws.specs.ButFor.{but_for, all_unnumbered}

-- the caller of submission n drops its request
abbrev pub cancel_of : ℕ → ℕ → Event
cancel_of word n = record { word = word; kind = event.Cancel n }

-- the link's connect succeeded
abbrev pub connected_at : ℕ → Event
connected_at word = record { word = word; kind = event.Connected first_link }

-- a submission is handed in
abbrev pub handed_in_at : ℕ → Submission → Event
handed_in_at word s = record { word = word; kind = event.Submit s }

-- nothing is to be said to the server before the first request, no credentials are to come of a source, and the server is not to be
-- put into monitor mode
abbrev pub SaysNothing : Config → Type 0
SaysNothing config = (wants_credentials config ≡ false) × (says_nothing (setup (told_info config) true) ≡ true) × (is_watching (hearing_of config) ≡ false)

-- where a session is in which the link's connect succeeded, and this submission was handed in after it
abbrev pub handed_in_after_connect : Config → ℕ → ℕ → ℕ → Submission → Core
handed_in_after_connect config word draw later s = state_after config word (connected_at draw ∷ handed_in_at later s ∷ [])

-- the link is ready and takes requests, nothing holds it back, its queue has room, a permit is free, nothing was shut down, and there
-- is a number for one more submission
pub record IsFree (core : Core) : Type 0 where
  pub link : LinkState
  pub ready : core.single.connection.life ≡ Ready link
  pub goes : holds_back link ≡ false
  pub room : is_full link ≡ false
  pub serves : is_outstanding core.single.connection.again ≡ false
  pub permit : has_no_permit core.single.connection.limit core.single.connection.free ≡ false
  pub unshut : core.shut ≡ false
  pub numbered : length core.table < 2 ^ 32

-- submission n is a request that is neither answered nor cancelled; it has had its place, and its message has left the
-- queue of the link, which is up; and there are no more submissions than there are numbers for them
pub record HasStarted (n : ℕ) (core : Core) : Type 0 where
  pub pending : Pending
  pub there : slice_get core.table n ≡ Some (Some pending)
  pub request : Request
  pub known : slice_get core.single.connection.requests pending.number ≡ Some request
  pub placed : request.progress ≡ progress.Placed
  pub link : LinkState
  pub up : core.single.connection.life ≡ Ready link
  pub gone : without link.queue pending.number ≡ link.queue
  pub numbered : length core.table ≤ 2 ^ 32

-- the two traces are the same up to the one more event; that event's turn shows nothing; and then the turns show the
-- same, but for their numbers and for the outcomes of submission n, of which there are none where the event came
pub record GoesOn (config : Config) (word n : ℕ) (before : List Event) (more : Event) (after : List Event) : Type 0 where
  pub later : List Action
  pub later_with : List Action
  pub plain : trace_of config word (before ++ after) ≡ trace_of config word before ++ later
  pub with_more : trace_of config word (before ++ more ∷ after) ≡ trace_of config word before ++ action.Turn (length before + 1) (cause.Event more) ∷ later_with
  pub alike : but_for n later ≡ all_unnumbered later_with
