use Rattle.std.proofs.Common.{◌≡◌, length}
use Rattle.conn_manager.specs.Manager.{standing}
use Rattle.conn_manager.specs.Spending.{SpendsRounds}
use Rattle.conn_manager.specs.Turn.{round_each}
use Rattle.conn_manager.proofs.manager.ConnectionManager.round_each.Given as goal

abbrev pub invariant-loop-request : goal.invariant-loop-request
invariant-loop-request l = record {
  done : round_each l.self l.draw l.rest ≡ round_each l.fn.self l.fn.draw l.fn.requests;
  stands : standing l.self ≡ standing l.fn.self;
  spends : SpendsRounds l.self l.draw l.rest → SpendsRounds l.fn.self l.fn.draw l.fn.requests;
}

abbrev pub decreases-loop-request : goal.decreases-loop-request
decreases-loop-request l = length l.rest
