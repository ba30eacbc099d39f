use Rattle.std.proofs.Common.{rules}
use Rattle.conn_manager.proofs.SubscriptionCalls.{called_by}
use Rattle.conn_manager.proofs.manager.ConnectionManager.call.Goals as goal

pub returns-clause-sent : goal.returns-clause-sent
returns-clause-sent c = called_by c.args.self.now c.send.new.self c.args.action c.args.names.now _ _ c.send.result (search rules) (search rules) c.send.ensures.sent

pub returns-in-Err-clause-err : goal.returns-in-Err-clause-err
returns-in-Err-clause-err c = c.refuse_unsent.ensures.call c.args.action c.args.names.now (search rules)

pub returns-in-Err-clone-clause-err : goal.returns-in-Err-clone-clause-err
returns-in-Err-clone-clause-err c = c.refuse_unsent-in-Err-clone.ensures.call c.args.action c.args.names.now (search rules)
