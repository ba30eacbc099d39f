use Rattle.std.proofs.Common.{◌≡◌, ◌≤◌, ◌+◌, drop}
use Rattle.single_session.specs.Replay.{trace_of, outcomes_in}
use Rattle.session_program.specs.Notes.{open_from}
use Rattle.session_program.proofs.counting.count_open.Given as goal

abbrev pub invariant-loop-place : goal.invariant-loop-place
invariant-loop-place l =
    let outcomes = outcomes_in (trace_of l.session.config l.session.word l.session.events) in
    record {
      counted : open_from outcomes 0 l.kept ≡ l.count + open_from outcomes l.place (drop l.place l.kept);
      few : l.count ≤ l.place;
    }
