-- What a pipeline ends as when the command that it lent comes back.
use Rattle.std.specs.Prelude.{◌≡◌, Result}
use Rattle.std.specs.Borrow.{LendsSoOk, MutBor, Fml}
use Rattle.resp_write.specs.Command.{Command, CommandList, with_command}
use Rattle.resp_write.specs.contracts.pipeline.Pipeline.{the_row}
use Rattle.resp_write.specs.contracts.command.Cmd.{the_row as command_row}

-- one more command after an Ok, which is what was left in the place that was lent; as it was after an Err
abbrev pub lends_last : {E : Type 0} → MutBor CommandList → Result (MutBor Command) E → Fml
lends_last p r =
    LendsSoOk the_row command_row p r
    (λ n c. n ≡ with_command p.now c)
    (λ n. n ≡ p.now)
