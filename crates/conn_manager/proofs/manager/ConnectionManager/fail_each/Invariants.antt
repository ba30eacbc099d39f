use Rattle.std.proofs.Common.{◌≡◌, length}
use Rattle.conn_manager.specs.Manager.{failed_each, standing}
use Rattle.conn_manager.proofs.manager.ConnectionManager.fail_each.Given as goal

abbrev pub invariant-loop-request : goal.invariant-loop-request
invariant-loop-request l = record {
  done : failed_each l.self l.error l.rest ≡ failed_each l.fn.self l.fn.error l.fn.requests;
  stands : standing l.self ≡ standing l.fn.self;
}

abbrev pub decreases-loop-request : goal.decreases-loop-request
decreases-loop-request l = length l.rest
