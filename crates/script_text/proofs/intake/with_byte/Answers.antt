use Rattle.script_text.proofs.Glued.{counts_end, counts_more}
use Rattle.script_text.proofs.intake.with_byte.Goals as goal

pub returns-then-byte-eq10 : goal.returns-then-byte-eq10
returns-then-byte-eq10 c text h = rw c.if-byte-eq10.true (counts_end c.args.tally text c.requires h)

pub returns-else-byte-eq10 : goal.returns-else-byte-eq10
returns-else-byte-eq10 c text h = counts_more c.args.tally text c.args.byte c.requires c.if-byte-eq10.false h
