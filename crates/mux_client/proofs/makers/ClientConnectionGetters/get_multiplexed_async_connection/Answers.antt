use Rattle.std.proofs.Common.{◌≡◌, IfOk, subst}
use Rattle.connection_info.specs.Config.{default_config}
use Rattle.connection_info.specs.declared.address.ConnectionInfo.{ConnectionInfo}
use Rattle.connection_info.specs.declared.config.AsyncConnectionConfig.{AsyncConnectionConfig}
use Rattle.driver_model.specs.declared.config.Config.{Config}
use Rattle.mux_client.specs.Makers.{config_of, Keeps}
use Rattle.mux_client.proofs.Words.{all_keep}
use Rattle.mux_client.proofs.makers.ClientConnectionGetters.get_multiplexed_async_connection.Goals as goal

pub returns-clause-value : goal.returns-clause-value
returns-clause-value c =
    let info = c.get_connection_info.result.now in
    subst (λ (said : ConnectionInfo). IfOk c.words.result (λ (words : Config). words ≡ config_of said default_config)) c.get_connection_info.ensures
    (subst (λ (config : AsyncConnectionConfig). IfOk c.words.result (λ (words : Config). words ≡ config_of info config)) c.new.ensures c.words.ensures.value)

pub returns-clause-keeps : goal.returns-clause-keeps
returns-clause-keeps c =
    let info = c.get_connection_info.result.now in
    subst (λ (said : ConnectionInfo). IfOk c.words.result (Keeps said _)) c.get_connection_info.ensures
    (subst (λ (config : AsyncConnectionConfig). IfOk c.words.result (Keeps info config)) c.new.ensures
    (all_keep info c.new.result c.words.result c.words.ensures.read c.words.ensures.value))
