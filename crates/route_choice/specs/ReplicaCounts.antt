-- A strategy that counts the replicas of a slot, and picks the first.
use Rattle.std.specs.Prelude.{ℕ}
use Rattle.route_choice.specs.declared.replica_count.ReplicaCount.{ReplicaCount}

abbrev pub first_replica : ReplicaCount → ℕ → ℕ → ℕ
first_replica count replicas draw = 0

abbrev pub counted : ReplicaCount → ℕ → ℕ → ReplicaCount
counted count replicas draw = record { replicas = replicas }
