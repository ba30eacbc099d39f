use Rattle.std.proofs.Common.{arith, length, sym, ◌∙◌}
use Rattle.outside.specs.World.{link_given}
use Rattle.live_run.proofs.Runs.{broke_call}
use Rattle.live_run.proofs.Turns.{read_one, read_broken}
use Rattle.live_run.proofs.deeds.read_link.Goals as goal

pub returns-in-Err-clause-err : goal.returns-in-Err-clause-err
returns-in-Err-clause-err g c = broke_call _ c.read-answer.ensures.tells

pub returns-in-Ok-settle-clause-did : goal.returns-in-Ok-settle-clause-did
returns-in-Ok-settle-clause-did g c =
    read_one c.args.link (length c.args.room.now) c.requires (sym c.is_up.ensures ∙ c.if-not-is_up.false) c.read-answer.ensures.tells (c.in-Ok.ensures (length c.args.room.now))
    (c.after_read.ensures.noted (length c.args.room.now) (link_given c.read-answer.new.room c.read-answer.result)) c.in-Ok-settle.ensures.ok

pub returns-in-Err-settle-clause-err : goal.returns-in-Err-settle-clause-err
returns-in-Err-settle-clause-err g c =
    read_broken c.args.link (length c.args.room.now) c.requires (sym c.is_up.ensures ∙ c.if-not-is_up.false) c.read-answer.ensures.tells (c.in-Ok.ensures (length c.args.room.now)) c.in-Err-settle.ensures.err

pub returns-in-Err-clause-few : goal.returns-in-Err-clause-few
returns-in-Err-clause-few g c = omega arith

pub returns-in-Err-settle-clause-few : goal.returns-in-Err-settle-clause-few
returns-in-Err-settle-clause-few g c = c.in-Err-settle.ensures.few
