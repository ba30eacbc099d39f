use Rattle.resp_read.proofs.ReaderLaws.{reading_still}
use Rattle.resp_read.proofs.reader.Reader.forget_given.Goals as goal

pub invariant_of-self : goal.invariant_of-self
invariant_of-self c =
    let r = c.self.inside in
    let h = c.forget_given.ensures in
    reading_still r.limits r.course c.forget_given.new.self r.seen r.health c.self.invariant h.course h.rest h.unread
