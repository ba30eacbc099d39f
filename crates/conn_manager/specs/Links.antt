-- Which links a manager hears, and what it subscribes again.
use Rattle.std.specs.Prelude.{◌≡◌, ℕ, true, false, List, [], ◌∷◌, ◌++◌, length, Some, slice_get}
use Rattle.resp_write.specs.Command.{CommandList}
use Rattle.resp_write.specs.Pack.{pack_pipeline}
use Rattle.redis_error.specs.declared.redis_error.RedisError.{RedisError}
use Rattle.driver_model.specs.News.{News}
use Rattle.driver_model.specs.declared.outcome.Outcome.TheVariants as outcome
use Rattle.mux_conn.specs.Internal.{asked_inside}
use Rattle.driver_model.specs.Shape.{shape_inside}
use Rattle.sub_tracker.specs.Held.{held_after}
use Rattle.sub_tracker.specs.Pipeline.{Resubscribes}
use Rattle.sub_tracker.specs.Subscribed.{Request}
use Rattle.conn_manager.specs.declared.manager.ConnectionManager.{ConnectionManager}
use Rattle.conn_manager.specs.declared.request.Call.{Call}
use Rattle.conn_manager.specs.declared.request.Stage.TheVariants as stage
use Rattle.mux_client.specs.Events.{nothing, on_link, late_request, late_resubscription, rest_over}
use Rattle.conn_manager.specs.Hearing.{resubscription_name}
use Rattle.conn_manager.specs.Manager.{is_current, is_open_at, answered}
use Rattle.manager_generations.specs.Generations.{rests_behind}
use Rattle.manager_generations.specs.Phases.{is_resubscribing}
use Rattle.conn_manager.specs.Turn.{turned, resubscription_begun}

-- A turn in which something happened to a link that was asked for before the last one is one in which nothing happened.
abbrev pub OldLinksAreSilent : Type 0
OldLinksAreSilent =
    (m : ConnectionManager) (draw link : ℕ) (news : News) → is_current m.generations link ≡ false
    → turned m draw (on_link link news) ≡ turned m draw nothing

-- So is the timer of a request that was handed to such a link, that of what subscribes again on one, and that of a wait which doesn't
-- go on.
abbrev pub OldTimersAreSilent : Type 0
OldTimersAreSilent =
    (m : ConnectionManager) (draw : ℕ)
    → ((p link number : ℕ) → slice_get m.stages p ≡ Some (stage.Sent link number) → is_current m.generations link ≡ false → turned m draw (late_request p) ≡ turned m draw nothing)
    × ((link : ℕ) → is_current m.generations link ≡ false → turned m draw (late_resubscription link) ≡ turned m draw nothing)
    × ((number attempt : ℕ) → rests_behind m.generations number attempt ≡ false → turned m draw (rest_over number attempt) ≡ turned m draw nothing)

-- A subscription call that the server confirms is noted behind those that were.
abbrev pub ConfirmedCallsAreTracked : Type 0
ConfirmedCallsAreTracked =
    (m : ConnectionManager) (p : ℕ) (call : Call) (history : List Request) → m.tracker.held ≡ held_after history
    → is_open_at m.stages p ≡ true → slice_get m.calls p ≡ Some (Some call)
    → (answered m p outcome.Done).tracker.held ≡ held_after (history ++ (call.action, call.names) ∷ [])

-- One that is answered with an error isn't.
abbrev pub FailedCallsAreNotTracked : Type 0
FailedCallsAreNotTracked = (m : ConnectionManager) (p : ℕ) (e : RedisError) → (answered m p (outcome.Fault e)).tracker ≡ m.tracker

-- this connection with one more message behind, which has these commands and is of no caller
abbrev pub with_message : ConnectionManager → CommandList → ConnectionManager → Type 0
with_message old p new = new.conn ≡ asked_inside old.conn resubscription_name (pack_pipeline p) (shape_inside (length p.commands))

-- Once a link is set up on which is to be subscribed again, its first message subscribes exactly the names that are subscribed at
-- this moment, by the calls that were confirmed.
abbrev pub SubscribesWhatIsSubscribed : Type 0
SubscribesWhatIsSubscribed =
    (m : ConnectionManager) (history : List Request) → m.tracker.held ≡ held_after history
    → is_resubscribing m.generations.phase ≡ true → m.conn.requests ≡ []
    → (p : CommandList) × Resubscribes history p × with_message m p (resubscription_begun m)
