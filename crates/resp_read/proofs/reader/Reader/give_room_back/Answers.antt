use Rattle.resp_read.proofs.ReaderLaws.{reading_still}
use Rattle.resp_read.proofs.reader.Reader.give_room_back.Goals as goal

pub invariant_of-self : goal.invariant_of-self
invariant_of-self c =
    let r = c.self.inside in
    let h = c.give_room_back.ensures in
    reading_still r.limits r.course c.give_room_back.new.self r.seen r.health c.self.invariant h.course h.rest h.unread

pub invariant_of-self-else-give_room_back : goal.invariant_of-self-else-give_room_back
invariant_of-self-else-give_room_back c =
    let r = c.self.inside in
    let h = c.give_room_back.ensures in
    reading_still r.limits r.course c.give_room_back.new.self r.seen r.health c.self.invariant h.course h.rest h.unread
