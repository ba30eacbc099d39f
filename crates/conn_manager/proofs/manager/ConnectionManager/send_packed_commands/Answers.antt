use Rattle.std.specs.Prelude.{true, None}
use Rattle.resp_write.specs.Pack.{pack_pipeline}
use Rattle.driver_model.specs.declared.outcome.Shape.TheVariants.{Pipeline}
use Rattle.conn_manager.specs.Calls.{sent}
use Rattle.conn_manager.proofs.manager.ConnectionManager.send_packed_commands.Goals as goal

pub returns-in-Err-clause-err : goal.returns-in-Err-clause-err
returns-in-Err-clause-err c =
    let pipeline = c.args.pipeline.now in
    c.refuse_unsent.ensures.err (sent c.args.self.now (pack_pipeline pipeline) (Pipeline c.args.offset c.args.count pipeline.atomic) true None) (pack_pipeline pipeline)
