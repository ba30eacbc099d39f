use Rattle.std.proofs.Common.{sym}
use Rattle.script_text.proofs.Glue.{glued_separator}
use Rattle.script_text.proofs.line.Line.separate.Goals as goal

pub returns : goal.returns
returns c = rw (← c.self.view_is) (rw c.in_ok-push.ensures.items (rw c.new.ensures (sym (glued_separator c.self.inside.words.items c.self.inside.more.items))))
