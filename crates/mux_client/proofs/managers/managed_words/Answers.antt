use Rattle.std.proofs.Common.{rules, subst}
use Rattle.connection_info.specs.Written.{ReadsBack}
use Rattle.mux_client.proofs.Managed.{managed_keep}
use Rattle.mux_client.proofs.managers.managed_words.Goals as goal

pub returns-clause-keeps : goal.returns-clause-keeps
returns-clause-keeps c =
    managed_keep c.args.lazy c.args.client.now c.args.config.now _ (search rules)
    (subst ReadsBack c.get_connection_info-info.ensures c.in_ok-address.ensures.read)
