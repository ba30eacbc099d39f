use Rattle.std.proofs.Common.{drop}
use Rattle.resp_write.proofs.Written.{Leads, empty}
use Rattle.resp_write.proofs.argument_lists.RefSliceToRedisArgs.write_redis_args.Given as goal

-- what the elements left become is all that is wanting
abbrev pub invariant-loop-item : goal.invariant-loop-item
invariant-loop-item g l = Leads g.T.ToRedisArgs.args_of l.item-items (drop l.item-index l.item-items) empty l.more
