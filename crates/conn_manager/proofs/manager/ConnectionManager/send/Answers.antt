use Rattle.conn_manager.specs.Calls.{sent}
use Rattle.conn_manager.proofs.manager.ConnectionManager.send.Goals as goal

pub returns-in-Err-clause-err : goal.returns-in-Err-clause-err
returns-in-Err-clause-err c = c.in-Err.ensures.err (sent c.args.self.now c.args.packed c.args.shape c.args.awaited c.args.call)
