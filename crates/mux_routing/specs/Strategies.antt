-- How a read strategy picks replicas.
use Rattle.std.specs.Prelude.{ℕ, ◌+◌, ◌%◌, nat_lt, if◌then◌else◌}
use Rattle.mux_routing.specs.declared.strategy.ReadStrategy.{ReadStrategy}
use Rattle.mux_routing.specs.declared.strategy.ReadStrategy.TheVariants.{Random, RoundRobin}

-- which of so many replicas: that of a draw, or the next in turn
abbrev pub place_picked : ReadStrategy → ℕ → ℕ → ℕ
place_picked Random replicas draw = draw % replicas
place_picked (RoundRobin next) replicas draw = next % replicas

-- the strategy after a pick: the counter stands still at the greatest number of 32 bits
abbrev pub after_pick : ReadStrategy → ℕ → ℕ → ReadStrategy
after_pick Random replicas draw = Random
after_pick (RoundRobin next) replicas draw = RoundRobin (if nat_lt next 4_294_967_295 then next + 1 else next)
