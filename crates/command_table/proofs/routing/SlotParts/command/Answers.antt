use Rattle.command_table.proofs.PartCommands.{each_part, if_some}
use Rattle.command_table.proofs.routing.SlotParts.command.Goals as goal

pub returns-clause-each : goal.returns-clause-each
returns-clause-each c = λ policy h lt.
    if_some
    c.command_of_part.result
    c.args.cmd.now
    c.args.self.now
    c.args.k
    c.command_of_part.ensures
    (each_part c.args.cmd.now c.args.self.now c.args.k policy h lt)
