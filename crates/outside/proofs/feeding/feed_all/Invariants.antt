use Rattle.std.proofs.Common.{◌≡◌, ◌≤◌, ◌-◌, length, false}
use Rattle.outside.specs.Feeding.{Passed}
use Rattle.outside.proofs.feeding.feed_all.Given as goal

abbrev pub invariant-reads : goal.invariant-reads
invariant-reads g l = record {
  passed : Passed (g.S.Source.left l.fn.source) (g.S.Source.left l.source) (g.F.Feed.kept l.fn.feed) (g.F.Feed.kept l.feed);
  wants : g.F.Feed.enough l.feed ≡ false;
  same : g.F.Feed.most l.feed ≡ g.F.Feed.most l.fn.feed;
  later : g.S.Source.fault_count l.fn.source ≤ g.S.Source.fault_count l.source;
}

abbrev pub decreases-reads : goal.decreases-reads
decreases-reads g l = g.F.Feed.most l.feed - length (g.F.Feed.kept l.feed)
