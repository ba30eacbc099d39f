use Rattle.std.proofs.Common.{◌≡◌, ap, ◌∙◌}
use Rattle.cluster_client.specs.Config.{own_config}
use Rattle.cluster_client.specs.declared.settings.ClusterKind.TheVariants.{Cluster}
use Rattle.cluster_client.proofs.Keeping.{made_keep, own_keep}
use Rattle.cluster_client.proofs.client.ClusterClient.get_async_connection.Goals as goal

pub returns-clause-keeps : goal.returns-clause-keeps
returns-clause-keeps c =
    let client = c.args.self.now in
    let config = c.own_config-config.result in
    let own : config ≡ own_config client.params = c.own_config-config.ensures ∙ ap own_config c.params.ensures in
    own_keep Cluster client config c.settings.result own
    (made_keep Cluster client config c.settings.result c.settings.ensures.sound c.settings.ensures.read c.settings.ensures.value)
