-- What a manager knows of subscriptions: which submissions are subscription calls, and what the confirmed ones come to.
use Rattle.std.specs.Prelude.{ℕ, ◌==◌, false, List, [], ◌∷◌, ◌++◌, length, Option, Some, None, slice_get, if◌then◌else◌}
use Rattle.resp_write.specs.Command.{CommandList}
use Rattle.resp_write.specs.Pack.{pack_pipeline}
use Rattle.sub_tracker.specs.Held.{TrackerState, holding, held_with, held_after}
use Rattle.sub_tracker.specs.Pipeline.{resubscription}
use Rattle.driver_model.specs.declared.event.EventKind.{EventKind}
use Rattle.driver_model.specs.declared.event.EventKind.TheVariants as event
use Rattle.driver_model.specs.declared.event.Submission.{Submission}
use Rattle.driver_model.specs.declared.event.Submission.TheVariants as submission
use Rattle.driver_model.specs.declared.outcome.Outcome.{Outcome}
use Rattle.driver_model.specs.declared.outcome.Outcome.TheVariants as outcome
use Rattle.driver_model.specs.Shape.{shape_inside}
use Rattle.mux_conn.specs.declared.act.LinkAct.{LinkAct}
use Rattle.mux_conn.specs.declared.act.LinkAct.TheVariants as act
use Rattle.mux_conn.specs.declared.again.Again.{Again}
use Rattle.mux_conn.specs.declared.again.Again.TheVariants as again
use Rattle.single_session.specs.declared.subscriptions.Call.{Call}
use Rattle.single_session.specs.declared.subscriptions.Subscriptions.{Subscriptions}

-- nothing was handed in, and nothing is subscribed
abbrev pub no_subscriptions : Subscriptions
no_subscriptions = record { calls = []; tracker = holding (held_after []) }

-- which call a submission is, if it is one
abbrev pub call_of : Submission → Option Call
call_of (submission.Subscription what names) = Some (record { action = what; names = names })
call_of (submission.Cmd args) = None
call_of (submission.NoReply args) = None
call_of (submission.Pipe commands) = None
call_of (submission.Multi commands) = None
call_of (submission.Packed offset count commands) = None
call_of (submission.Ping message) = None

-- an event may hand in one more submission
abbrev pub asked_by : List (Option Call) → EventKind → List (Option Call)
asked_by calls (event.Submit what) = calls ++ call_of what ∷ []
asked_by calls _ = calls

-- what is subscribed behind this call, where a submission is one
abbrev pub tracked_call : TrackerState → Option (Option Call) → TrackerState
tracked_call t None = t
tracked_call t (Some None) = t
tracked_call t (Some (Some call)) = holding (held_with t.held call.action call.names)

-- and behind this outcome of that submission: a call counts where it is confirmed
abbrev pub tracked_behind : Subscriptions → ℕ → Outcome → Subscriptions
tracked_behind s n outcome.Done = record s { tracker = tracked_call s.tracker (slice_get s.calls n) }
tracked_behind s n (outcome.One value) = s
tracked_behind s n (outcome.Many values) = s
tracked_behind s n (outcome.Fault e) = s

-- what an act says of it
abbrev pub tracked_by : Subscriptions → LinkAct → Subscriptions
tracked_by s (act.Outcome n o) = tracked_behind s n o
tracked_by s _ = s

abbrev pub tracked_each : Subscriptions → List LinkAct → Subscriptions
tracked_each s [] = s
tracked_each s (a ∷ more) = tracked_each (tracked_by s a) more

-- an event came, which showed these acts
abbrev pub informed : Subscriptions → EventKind → List LinkAct → Subscriptions
informed s kind acts = tracked_each (record s { calls = asked_by s.calls kind }) acts

-- these commands are to be sent on the next link, if there are any
abbrev pub repeat_of : CommandList → Again
repeat_of p = if length p.commands == 0 then again.Nothing else again.Due (pack_pipeline p) (shape_inside (length p.commands)) false

-- what is subscribed again on the next link, by one message
abbrev pub repeat_after : Subscriptions → Again
repeat_after s = repeat_of (resubscription s.tracker.held)
