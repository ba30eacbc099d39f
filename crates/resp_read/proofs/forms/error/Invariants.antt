use Rattle.resp_read.proofs.Scans.{IsSpaceless}
use Rattle.resp_read.proofs.forms.error.Given as goal

abbrev pub invariant-loop-i : goal.invariant-loop-i
invariant-loop-i l = IsSpaceless l.i l.line
