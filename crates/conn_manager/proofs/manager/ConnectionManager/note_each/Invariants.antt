use Rattle.std.proofs.Common.{◌≡◌, length}
use Rattle.conn_manager.specs.Hearing.{noted_each}
use Rattle.conn_manager.specs.Manager.{standing}
use Rattle.conn_manager.proofs.manager.ConnectionManager.note_each.Given as goal

abbrev pub invariant-loop-act : goal.invariant-loop-act
invariant-loop-act l = record {
  done : noted_each l.self l.draw l.rest ≡ noted_each l.fn.self l.fn.draw l.fn.acts.items;
  stands : standing l.self ≡ standing l.fn.self;
}

abbrev pub decreases-loop-act : goal.decreases-loop-act
decreases-loop-act l = length l.rest
