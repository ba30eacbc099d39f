use Rattle.std.proofs.Common.{IfOk, subst}
use Rattle.connection_info.specs.declared.address.ConnectionInfo.{ConnectionInfo}
use Rattle.mux_client.specs.Makers.{Keeps}
use Rattle.mux_client.proofs.Words.{all_keep}
use Rattle.mux_client.proofs.makers.ClientConnectionGetters.get_multiplexed_async_connection_with_config.Goals as goal

pub returns-clause-keeps : goal.returns-clause-keeps
returns-clause-keeps c =
    let config = c.args.config.now in
    subst (λ (info : ConnectionInfo). IfOk c.words.result (Keeps info config)) c.get_connection_info.ensures
    (all_keep c.get_connection_info.result.now config c.words.result c.words.ensures.read c.words.ensures.value)
