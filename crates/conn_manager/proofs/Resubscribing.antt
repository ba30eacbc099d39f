-- What is subscribed again.
use Rattle.std.proofs.Common.{◌≡◌, ℕ, ◌==◌, Bool, true, false, ◌&&◌, List, [], ◌∷◌, ◌++◌, length, Option, None, Some, slice_get, refl, ap, ◌∙◌}
use Rattle.sub_tracker.specs.Held.{held_after}
use Rattle.sub_tracker.specs.Pipeline.{resubscription}
use Rattle.sub_tracker.proofs.Held.{held_resubscribes, held_with_last}
use Rattle.mux_conn.specs.declared.request.Request as request
use Rattle.conn_manager.specs.declared.manager.ConnectionManager.{ConnectionManager}
use Rattle.conn_manager.specs.declared.request.Call.{Call}
use Rattle.manager_generations.specs.Generations.{rests_behind}
use Rattle.conn_manager.specs.Manager.{is_current, is_open_at, tracked_call}
use Rattle.manager_generations.specs.Phases.{is_resubscribing}
use Rattle.conn_manager.specs.Turn.{settled, passed, flushed, late_at, resubscription_late, rest_ended, resubscription_timed, resubscribes}
use Rattle.conn_manager.specs.Links.{OldLinksAreSilent, OldTimersAreSilent, ConfirmedCallsAreTracked, FailedCallsAreNotTracked, SubscribesWhatIsSubscribed, with_message}
use Rattle.containers.proofs.Choices.{left_if, if_true, chosen}

pub silent : OldLinksAreSilent
silent m draw link news old =
    ap (λ (n : ConnectionManager). flushed (passed (settled n) draw) draw) (left_if (is_current m.generations link) _ m old)

-- a turn depends on what the effect makes of the manager alone
as_effect : (m n : ConnectionManager) (draw : ℕ) → m ≡ n → flushed (passed (settled m) draw) draw ≡ flushed (passed (settled n) draw) draw
as_effect m n draw is = ap (λ (x : ConnectionManager). flushed (passed (settled x) draw) draw) is

pub timers_silent : OldTimersAreSilent
timers_silent m draw = (
  (λ p link number is old. as_effect (late_at m draw (slice_get m.stages p)) m draw (ap (late_at m draw) is ∙ left_if (is_current m.generations link) _ m old)),
  (λ link old. as_effect (resubscription_late m draw link) m draw (left_if (is_current m.generations link && is_resubscribing m.generations.phase) _ m (ap (λ (b : Bool). b && is_resubscribing m.generations.phase) old))),
  (λ number attempt over. as_effect (rest_ended m number attempt) m draw (left_if (rests_behind m.generations number attempt) _ m over)),
)

pub confirmed_tracked : ConfirmedCallsAreTracked
confirmed_tracked m p call history is open_at does =
    if_true (λ (n : ConnectionManager). n.tracker.held ≡ held_after (history ++ (call.action, call.names) ∷ [])) (is_open_at m.stages p) _ m open_at
    (ap (λ (c : Option (Option Call)). (tracked_call m.tracker c).held) does ∙ held_with_last history m.tracker.held call.action call.names is)

pub failed_untracked : FailedCallsAreNotTracked
failed_untracked m p e = chosen (λ (n : ConnectionManager). n.tracker ≡ m.tracker) (is_open_at m.stages p) _ m (λ _. refl) (λ _. refl)

-- a timer changes no connection
timed_conn : (m : ConnectionManager) (ms : Option ℕ) → (resubscription_timed m ms).conn ≡ m.conn
timed_conn m None = refl
timed_conn m (Some ms) = refl

none_asked : (m : ConnectionManager) → m.conn.requests ≡ [] → (length m.conn.requests == 0) ≡ true
none_asked m none = ap (λ (rs : List request.Request). length rs == 0) none

both_hold : (a b : Bool) → a ≡ true → b ≡ true → (a && b) ≡ true
both_hold true true x y = refl
both_hold true false x y = cc
both_hold false b x y = cc

pub again : SubscribesWhatIsSubscribed
again m history is subscribing none =
    let p = resubscription m.tracker.held in (
      p,
      held_resubscribes history m.tracker.held is,
      if_true (with_message m p) (is_resubscribing m.generations.phase && (length m.conn.requests == 0)) (resubscribes m) m
          (both_hold (is_resubscribing m.generations.phase) (length m.conn.requests == 0) subscribing (none_asked m none))
          (timed_conn _ m.generations.settings.config.connection.response_timeout),
    )
