use Rattle.cluster_client.specs.declared.settings.ClusterKind.TheVariants.{Cluster}
use Rattle.cluster_client.proofs.Keeping.{made_keep}
use Rattle.cluster_client.proofs.client.ClusterClient.get_async_connection_with_config.Goals as goal

pub returns-clause-keeps : goal.returns-clause-keeps
returns-clause-keeps c =
    made_keep Cluster c.args.self.now c.args.config.now c.settings.result c.settings.ensures.sound c.settings.ensures.read c.settings.ensures.value
