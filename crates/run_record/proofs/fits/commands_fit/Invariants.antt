use Rattle.std.proofs.Common.{All, take}
use Rattle.text_laws.specs.Fits.{AreBytes}
use Rattle.run_record.proofs.fits.commands_fit.Given as goal

abbrev pub invariant-loop-command : goal.invariant-loop-command
invariant-loop-command l = All (All AreBytes) (take l.command-index l.commands)
