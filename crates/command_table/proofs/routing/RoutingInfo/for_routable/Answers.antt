use Rattle.std.proofs.Common.{ap, ◌∙◌}
use Rattle.std.proofs.lemmas.Result.{IfOk-weaker}
use Rattle.command_table.specs.Routing.{routing_of}
use Rattle.command_table.proofs.Splitting.{parts_are_of_keys}
use Rattle.command_table.proofs.routing.RoutingInfo.for_routable.Goals as goal

pub returns-clause-parts : goal.returns-clause-parts
returns-clause-parts c = IfOk-weaker c.routing_of.result _ _ (λ r e. parts_are_of_keys c.args.cmd.now.args r (e ∙ ap routing_of c.args-2.ensures)) c.routing_of.ensures
