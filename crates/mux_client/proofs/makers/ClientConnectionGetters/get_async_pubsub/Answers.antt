use Rattle.std.proofs.Common.{IfOk, refl, subst}
use Rattle.connection_info.specs.declared.address.ConnectionInfo.{ConnectionInfo}
use Rattle.driver_model.specs.declared.kind.SessionKind.TheVariants as kind
use Rattle.mux_client.specs.Makers.{pubsub_of, KeepsLink}
use Rattle.mux_client.proofs.Words.{link_keeps}
use Rattle.mux_client.proofs.makers.ClientConnectionGetters.get_async_pubsub.Goals as goal

pub returns-clause-keeps : goal.returns-clause-keeps
returns-clause-keeps c =
    let info = c.get_connection_info.result.now in
    subst (λ (said : ConnectionInfo). IfOk c.pubsub_words.result (KeepsLink kind.PubSub said)) c.get_connection_info.ensures
    (link_keeps kind.PubSub info (pubsub_of info) c.pubsub_words.result refl refl c.pubsub_words.ensures.read c.pubsub_words.ensures.value)
