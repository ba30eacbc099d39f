use Rattle.std.proofs.Common.{◌≡◌, length, take}
use Rattle.link_core.specs.Link.{started_to}
use Rattle.link_core.proofs.link.LinkCore.start_each_to.Given as goal

abbrev pub invariant-starts : goal.invariant-starts
invariant-starts l = record {
  all : started_to l.fn.last (record { link = l.self; out = l.out.items }) ≡ started_to l.fn.last (record { link = l.fn.self; out = l.fn.out.items });
  front : take (length l.fn.out.items) l.out.items ≡ l.fn.out.items;
}

abbrev pub decreases-starts : goal.decreases-starts
decreases-starts l = length l.self.queue
