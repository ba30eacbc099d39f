use Rattle.std.proofs.Common.{◌≡◌, length}
use Rattle.single_session.specs.Done.{put_each}
use Rattle.shared_session.proofs.session.commit.Given as goal

abbrev pub invariant-loop-next : goal.invariant-loop-next
invariant-loop-next l = put_each l.outcomes l.rest ≡ put_each l.fn.outcomes l.fn.done.items

abbrev pub decreases-loop-next : goal.decreases-loop-next
decreases-loop-next l = length l.rest
