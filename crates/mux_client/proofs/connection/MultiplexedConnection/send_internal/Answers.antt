use Rattle.resp_write.specs.Pack.{pack_pipeline}
use Rattle.mux_client.proofs.connection.MultiplexedConnection.send_internal.Goals as goal

pub returns-in-Err-clause-err : goal.returns-in-Err-clause-err
returns-in-Err-clause-err c = c.refuse_unsent.ensures.err (pack_pipeline c.args.pipeline.now)
