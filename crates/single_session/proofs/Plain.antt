-- The turns of a session that doesn't come back: an event has its effect, all is moved, and its acts are shown.
use Rattle.std.proofs.Common.{◌≡◌, ℕ, List, [], ◌∷◌, length, false, Option, None, ap, ◌∙◌}
use Rattle.std.specs.Prelude.{is_some}
use Rattle.containers.proofs.Choices.{left_if}
use Rattle.manager_config.specs.declared.config.ConnectionManagerConfig.{ConnectionManagerConfig}
use Rattle.driver_model.specs.declared.config.Config.{Config}
use Rattle.driver_model.specs.declared.event.Event.{Event}
use Rattle.driver_model.specs.declared.event.EventKind.{EventKind}
use Rattle.driver_model.specs.Config.{manager_of, is_lazy, address}
use Rattle.single_session.specs.declared.core_state.Core.{Core}
use Rattle.single_session.specs.Generations.{has_ended}
use Rattle.single_session.specs.Turn.{counted, whole_effect, numbered, passed_by, ended_apart, next_turn, shown_each, effects_of}
use Rattle.single_session.specs.Replay.{as_managed, single_core, opening_core, run_on, state_after}
use Rattle.single_session.proofs.Stays.{turn_plain}

pub plain_turn : (c : Core) (kind : EventKind) → is_some c.manager ≡ false → next_turn c kind ≡ numbered (whole_effect (counted c) kind)
unfolding next_turn
plain_turn c kind plain = left_if (is_some c.manager) (ended_apart (numbered (passed_by (counted c) kind)) (has_ended c.single.connection.life) kind) (numbered (whole_effect (counted c) kind)) plain

pub plain_effects : (c : Core) (e : Event) → is_some c.manager ≡ false → effects_of c e ≡ shown_each c.single.link (length c.timers) (length c.sources) (next_turn c e.kind).acts
plain_effects c e plain = left_if (is_some c.manager) _ (shown_each c.single.link (length c.timers) (length c.sources) (next_turn c e.kind).acts) plain

-- where its configuration is that of such a session, it is one behind any history
plain_on : (c : Core) (es : List Event) → is_some c.manager ≡ false → is_some (run_on c es).manager ≡ false
plain_on c [] plain = plain
plain_on c (e ∷ es) plain = plain_on (next_turn c e.kind).core es (turn_plain c e.kind ∙ plain)

pub plain_opening : (config : Config) (word : ℕ) → manager_of config ≡ None → opening_core config word ≡ single_core config
plain_opening config word none = ap (λ (m : Option ConnectionManagerConfig). as_managed m (address config) (is_lazy config) (single_core config)) none

pub plain_after : (config : Config) (word : ℕ) (es : List Event) → manager_of config ≡ None → is_some (state_after config word es).manager ≡ false
unfolding state_after
plain_after config word es none = plain_on (opening_core config word) es (ap (λ (c : Core). is_some c.manager) (plain_opening config word none))
