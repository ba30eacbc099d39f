use Rattle.std.proofs.Common.{arith, ◌≡◌, length}
use Rattle.live_run.proofs.Whole.{idled}
use Rattle.live_run.proofs.running.round.Goals as goal

pub returns-clause-did : goal.returns-clause-did
returns-clause-did g c =
    let same : length c.pass.new.session.events ≡ length c.args.session.now.events = first_of (omega (arith, c.events_taken.ensures, c.events_taken-before.ensures, c.if-events_taken-before.false), cc) in
    idled c.args.idle same c.wait.ensures.tells (rw c.in-Ok-None.field-0-is at c.in-Ok-None.ensures.did)
