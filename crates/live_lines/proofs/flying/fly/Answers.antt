use Rattle.std.proofs.Common.{◌∙◌}
use Rattle.live_lines.proofs.Counted.{as_many}
use Rattle.live_lines.proofs.Flown.{broke_off, flown}
use Rattle.live_lines.proofs.Planned.{none_refused}
use Rattle.live_lines.proofs.RunningOut.{broke_many, broke_out, off_stopped}
use Rattle.live_lines.proofs.Unbroken.{none_broke}
use Rattle.live_lines.proofs.flying.fly.Goals as goal

pub returns-in-Err-drive-clause-err : goal.returns-in-Err-drive-clause-err
returns-in-Err-drive-clause-err g c =
    let s = c.in-Ok.ensures in
    let broke = c.in-Err-drive.ensures.err in
    let good = none_broke c.args.plan c.word-word.result c.args.lines.items c.in-Ok.made.1.items c.submitted.new.actions.items c.in-Err-drive.error c.in-Ok.made.0 c.drive.new.session s.sound s.submitted s.asked broke in
    c.refused.ensures c.args.plan c.args.lines.items _ _ (none_refused c.args.plan s.sound s.bare)
    (broke_out c.args.plan c.word-word.result c.args.lines.items c.in-Ok.made.1.items _ c.in-Err-drive.error c.in-Ok.made.0 c.drive.new.session s.submitted broke)
    (off_stopped c.args.plan c.args.lines.items c.in-Err-drive.error good (broke_off c.args.plan c.args.lines.items c.word-word.result c.in-Ok.made.1.items c.submitted.new.actions.items c.in-Err-drive.error c.in-Ok.made.0 c.drive.new.session c.word-word.ensures.tells s.submitted s.asked broke))
    (broke_many c.args.plan c.word-word.result c.args.lines.items c.in-Ok.made.1.items _ c.in-Err-drive.error c.in-Ok.made.0 c.drive.new.session s.sound s.submitted broke c.in-Err-drive.ensures.few)

pub refused-requires : goal.refused-requires
refused-requires g c =
    none_broke c.args.plan c.word-word.result c.args.lines.items c.in-Ok.made.1.items c.submitted.new.actions.items c.in-Err-drive.error c.in-Ok.made.0 c.drive.new.session
    c.in-Ok.ensures.sound c.in-Ok.ensures.submitted c.in-Ok.ensures.asked c.in-Err-drive.ensures.err

pub returns-in-Ok-drive-clause-flight : goal.returns-in-Ok-drive-clause-flight
returns-in-Ok-drive-clause-flight g c =
    let s = c.in-Ok.ensures in
    flown c.args.plan c.args.lines.items _ c.word-word.result c.events_taken-count.result c.submitted.new.actions.items c.in-Ok.made.0 s.sound s.bare c.word-word.ensures.tells s.submitted s.asked (c.events_taken-count.ensures ∙ as_many c.args.plan c.word-word.result c.args.lines.items c.in-Ok.made.1.items c.in-Ok.made.0 s.submitted) c.in-Ok-drive.ensures.driven
