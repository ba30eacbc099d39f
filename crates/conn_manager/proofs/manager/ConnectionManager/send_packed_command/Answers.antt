use Rattle.std.specs.Prelude.{not, None}
use Rattle.resp_write.specs.Pack.{pack}
use Rattle.driver_model.specs.declared.outcome.Shape.TheVariants.{Single}
use Rattle.conn_manager.specs.Calls.{sent}
use Rattle.conn_manager.proofs.manager.ConnectionManager.send_packed_command.Goals as goal

pub returns-in-Err-clause-err : goal.returns-in-Err-clause-err
returns-in-Err-clause-err c =
    let command = c.args.command.now in
    c.refuse_unsent.ensures.err (sent c.args.self.now (pack command.args) Single (not command.no_response) None) (pack command.args)
