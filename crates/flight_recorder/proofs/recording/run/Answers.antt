use Rattle.std.proofs.Common.{inl}
use Rattle.flight_recorder.proofs.recording.run.Goals as goal

pub returns-in-Ok : goal.returns-in-Ok
returns-in-Ok g c = inl (c.in-Ok.flight, c.in-Ok.ensures.plan, c.in-Ok.ensures.flight, c.write_record.ensures)
