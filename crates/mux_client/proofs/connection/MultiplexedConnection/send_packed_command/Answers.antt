use Rattle.resp_write.specs.Pack.{pack}
use Rattle.mux_client.proofs.connection.MultiplexedConnection.send_packed_command.Goals as goal

pub returns-in-Err-clause-err : goal.returns-in-Err-clause-err
returns-in-Err-clause-err c = c.refuse_unsent.ensures.err (pack c.args.command.now.args)
