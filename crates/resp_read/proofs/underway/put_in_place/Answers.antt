use Rattle.std.proofs.Common.{sym, refl, vec_len}
use Rattle.resp_read.proofs.FrameLaws.{put_at}
use Rattle.resp_read.proofs.underway.put_in_place.Goals as goal

pub returns-in-Some : goal.returns-in-Some
returns-in-Some c =
    let frames = c.args.frames.now in
    put_at c.args.value frames.items c.in-Some.frame.now c.add.new.self (vec_len frames) frames.ok.0 (c.in-Some.ensures.variant.0 refl) (sym c.in-Some.ensures.value) c.add.result c.add.ensures
