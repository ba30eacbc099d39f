use Rattle.session_program.proofs.Texts.{gains_more, decides_ended, decides_passed}
use Rattle.session_program.proofs.reading.read_text.Goals as goal

pub returns-in-Ended-clause-text : goal.returns-in-Ended-clause-text
returns-in-Ended-clause-text g c = decides_ended _ (gains_more c.reads.invariant.gains (c.in_ok-read_once.ensures.ended (cc))) (c.in_ok-read_once.ensures.end (cc))

pub returns-in-Passed-clause-text : goal.returns-in-Passed-clause-text
returns-in-Passed-clause-text g c = decides_passed _ _ c.reads.invariant.gains (c.in_ok-read_once.ensures.passed (cc))
