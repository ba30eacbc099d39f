-- What is subscribed, by the calls that were confirmed, and the message that subscribes it again on a new link.
use Rattle.std.specs.Prelude.{◌==◌, Bool, false, ◌&&◌, not, List, [], ◌∷◌, length, Option, Some, None}
use Rattle.resp_write.specs.Pack.{pack_pipeline}
use Rattle.manager_config.specs.declared.config.ConnectionManagerConfig.{ConnectionManagerConfig}
use Rattle.sub_tracker.specs.Subscribed.{Request}
use Rattle.sub_tracker.specs.Held.{held_after}
use Rattle.sub_tracker.specs.Pipeline.{resubscription}
use Rattle.driver_model.specs.declared.action.Owner.TheVariants as owner
use Rattle.driver_model.specs.declared.event.Submission.{Submission}
use Rattle.driver_model.specs.declared.event.Submission.TheVariants as submission
use Rattle.driver_model.specs.declared.outcome.Outcome.{Outcome}
use Rattle.driver_model.specs.declared.outcome.Outcome.TheVariants as outcome
use Rattle.driver_model.specs.Shape.{shape_inside}
use Rattle.legal_trace.specs.Ledger.{Start}

-- the subscription call that a submission is, if it is one: what it does, and its names
abbrev pub calls_of : Submission → List Request
calls_of (submission.Subscription what names) = (what, names) ∷ []
calls_of (submission.Cmd args) = []
calls_of (submission.NoReply args) = []
calls_of (submission.Pipe commands) = []
calls_of (submission.Multi commands) = []
calls_of (submission.Packed offset count commands) = []
calls_of (submission.Ping message) = []

abbrev pub calls_in : Option Submission → List Request
calls_in None = []
calls_in (Some what) = calls_of what

-- the call counts once it is confirmed
abbrev pub confirmed : Option Submission → Outcome → List Request
confirmed what outcome.Done = calls_in what
confirmed what (outcome.One value) = []
confirmed what (outcome.Many values) = []
confirmed what (outcome.Fault e) = []

-- what subscribes again all that is subscribed after these calls, in one message
abbrev pub again_message : List Request → Start
again_message calls =
    let p = resubscription (held_after calls) in
    record { owner = owner.Resub; shape = shape_inside (length p.commands); bytes = pack_pipeline p }

-- something is subscribed after these calls
abbrev pub is_subscribed : List Request → Bool
is_subscribed calls = not (length (resubscription (held_after calls)).commands == 0)

-- where a session comes back so, that is subscribed again on its next link
abbrev pub repeats_in : Option ConnectionManagerConfig → List Request → Bool
repeats_in None calls = false
repeats_in (Some settings) calls = settings.automatic_resubscription && is_subscribed calls
