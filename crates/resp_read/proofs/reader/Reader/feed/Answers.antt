use Rattle.resp_read.proofs.ReaderLaws.{reading_fed}
use Rattle.resp_read.proofs.reader.Reader.feed.Goals as goal

pub invariant_of-self : goal.invariant_of-self
invariant_of-self c =
    let r = c.self-in-Sound.inside in
    let fed = c.feed.new.self in
    let h = c.in-Ok.ensures in
    reading_fed r.limits r.course (record { tape = fed.tape; at = fed.at; place = fed.place; frames = fed.frames }) r.seen r.health c.self-in-Sound.invariant h.course c.args.piece.now h.rest h.unread
