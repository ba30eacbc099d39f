use Rattle.std.proofs.Common.{All, ◌∙◌, subst}
use Rattle.std.proofs.lemmas.List.{take_all}
use Rattle.std.proofs.lemmas.List.Elements.{All-more}
use Rattle.text_laws.specs.Fits.{AreBytes}
use Rattle.run_record.proofs.fits.commands_fit.Goals as goal

pub loop-command-preserved : goal.loop-command-preserved
loop-command-preserved c =
    All-more (All AreBytes) c.args.commands.now c.loop-command.command-index c.command-item.result c.loop-command-test.true c.loop-command.invariant
    (subst (All AreBytes) (c.as_slice.ensures ∙ c.command-item.is) c.words_fit.ensures)

pub returns : goal.returns
returns c = subst (All (All AreBytes)) (take_all c.loop-command.command-index c.args.commands.now c.loop-command-test.false) c.loop-command.invariant
