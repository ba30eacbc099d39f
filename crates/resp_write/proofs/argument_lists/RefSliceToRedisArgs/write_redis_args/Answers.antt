use Rattle.resp_write.specs.Arguments.{of_each, of_part}
use Rattle.resp_write.proofs.Written.{all_written, empty, written_at_end, written_part}
use Rattle.resp_write.proofs.argument_lists.RefSliceToRedisArgs.write_redis_args.Goals as goal

pub returns-clause-ok : goal.returns-clause-ok
returns-clause-ok g c =
    let each = of_each g.T.ToRedisArgs.args_of in
    let items = c.args.self.now in
    let more = c.loop-item.more in
    let written = all_written g.T.ToRedisArgs.args_of items.now c.loop-item.item-index empty more c.loop-item-test.false c.loop-item.invariant in
    written_at_end (of_part (λ items. items.now) each) items c.args.cmd.now more c.append.new.self c.append.result c.append.ensures.ok (written_part (λ items. items.now) each items empty more written)
