-- Traces that end too soon: what is due in their last turn wasn't done.
use Rattle.std.proofs.Common.{ℕ, List, refl, inl, inr}
use Rattle.driver_model.specs.declared.config.Config.{Config}
use Rattle.driver_model.specs.declared.event.Event.{Event}
use Rattle.legal_trace.specs.Book.{book}
use Rattle.legal_trace.specs.Legal.{Legal}
use Rattle.trace_examples.specs.Traces.{held_back, left_out, started_unoffered}

-- a request that is in no wait
pub forgotten : (config : Config) (word : ℕ) (events : List Event) → Legal config word events (left_out config word) → ⊥
unfolding book
forgotten config word events h = elim (h.settled.goes 0 refl) [ inl started ↦ cc started.last | inr waits ↦ cc waits.shown ]

-- bytes that are never offered
pub never_offered : (config : Config) (word : ℕ) (events : List Event) → Legal config word events (started_unoffered config word) → ⊥
unfolding book
never_offered config word events h = elim (h.settled.written.offered 0 refl) [ inl none ↦ cc none | inr some ↦ some refl ]

-- a message that is held back on a link that is up
pub held_back_last : (config : Config) (word : ℕ) (events : List Event) → Legal config word events (held_back config word) → ⊥
unfolding book
held_back_last config word events h = elim (h.settled.goes 1 refl) [ inl started ↦ cc started.last | inr waits ↦ cc waits.shown ]
