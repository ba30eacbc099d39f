-- A strategy that counts replicas has seen some exactly where a strategy is asked.
use Rattle.std.proofs.Common.{◌≡◌, ℕ, zero, suc, nat_lt, ◌&&◌, Bool, true, false, length, Option, Some, None, arith, if◌then◌else◌}
use Rattle.std.proofs.lemmas.Bool.Decides.{nat_tests}
use Rattle.command_table.specs.declared.routing.SlotAddr.{SlotAddr}
use Rattle.mux_routing.specs.Shards.{Shard, asks, may_pick, reads_after}
use Rattle.route_choice.specs.declared.replica_count.ReplicaCount.{ReplicaCount}
use Rattle.route_choice.specs.ReplicaCounts.{counted}

abbrev pub has_seen : Option ReplicaCount → Bool
has_seen None = false
has_seen (Some count) = nat_lt 0 count.replicas

none_yet : nat_lt 0 0 ≡ false
none_yet = grind (arith, nat_tests)

by_asking : (may : Bool) (n : ℕ) → has_seen (if may && nat_lt 0 n then Some (record { replicas = n }) else Some (record { replicas = 0 })) ≡ (may && nat_lt 0 n)
by_asking true zero = grind (arith, nat_tests)
by_asking true (suc n) = grind (arith, nat_tests)
by_asking false n = none_yet

pub counts : (addr : SlotAddr) (shard : Option Shard) (draw : ℕ) → has_seen (reads_after counted addr shard draw (Some (record { replicas = 0 }))) ≡ asks addr shard
counts addr None draw = none_yet
counts addr (Some shard) draw = by_asking (may_pick addr) (length shard.replicas)
