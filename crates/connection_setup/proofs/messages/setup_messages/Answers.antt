use Rattle.std.proofs.Common.{ap, ◌∙◌}
use Rattle.connection_setup.specs.Setup.{library, opening_of, selection, setup, with_steps}
use Rattle.connection_setup.proofs.Steps.{three_parts}
use Rattle.connection_setup.proofs.messages.setup_messages.Goals as goal

pub returns : goal.returns
returns c =
    let info = c.args.info.now in
    three_parts _ _ _ _ (opening_of info c.args.with_user) (selection info.db) (library info.skip_set_lib_name) c.in_ok-add_opening.ensures c.in_ok-add_selection.ensures c.in_ok-add_library.ensures
    ∙ ap (λ p. with_steps p (setup info c.args.with_user)) c.pipe-pipeline.ensures
