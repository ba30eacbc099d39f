use Rattle.cluster_retries.proofs.round_end.EndError.redirect_node.Goals as goal

pub returns-in-Server : goal.returns-in-Server
returns-in-Server c = rw c.in-Server.is c.redirect_node.ensures
