use Rattle.live_lines.proofs.Sources.{enough_decides}
use Rattle.live_lines.proofs.reading.read_text.Goals as goal

pub returns-in-Ok-Enough-clause-text : goal.returns-in-Ok-Enough-clause-text
returns-in-Ok-Enough-clause-text g c =
    enough_decides _ c.feed_all.new.feed.bytes c.new.ensures c.in-Ok-Enough.ensures.fed (rw c.in-Ok-Enough.field-0-is at c.in-Ok-Enough.ensures.enough)
