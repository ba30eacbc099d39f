use Rattle.std.proofs.Common.{All, take}
use Rattle.text_laws.specs.Fits.{AreBytes}
use Rattle.run_record.proofs.fits.words_fit.Given as goal

abbrev pub invariant-loop-word : goal.invariant-loop-word
invariant-loop-word l = All AreBytes (take l.word-index l.words)
