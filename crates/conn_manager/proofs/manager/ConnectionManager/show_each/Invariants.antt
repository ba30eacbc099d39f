use Rattle.std.proofs.Common.{◌≡◌, length}
use Rattle.conn_manager.specs.Turn.{wait_shown_each}
use Rattle.conn_manager.specs.Manager.{standing}
use Rattle.conn_manager.proofs.manager.ConnectionManager.show_each.Given as goal

abbrev pub invariant-loop-number : goal.invariant-loop-number
invariant-loop-number l = record {
  done : wait_shown_each l.self l.wait l.rest ≡ wait_shown_each l.fn.self l.fn.wait l.fn.requests;
  stands : standing l.self ≡ standing l.fn.self;
}

abbrev pub decreases-loop-number : goal.decreases-loop-number
decreases-loop-number l = length l.rest
