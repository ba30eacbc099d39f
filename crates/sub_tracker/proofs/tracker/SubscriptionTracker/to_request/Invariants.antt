use Rattle.std.proofs.Common.{◌≡◌, ◌++◌, drop}
use Rattle.sub_tracker.proofs.tracker.SubscriptionTracker.to_request.Given as goal

-- the names that were taken and the arguments that are left are all but the first
abbrev pub invariant-loop-arg : goal.invariant-loop-arg
invariant-loop-arg l = l.names ++ l.arg-iterator ≡ drop 1 l.fn.command.args
