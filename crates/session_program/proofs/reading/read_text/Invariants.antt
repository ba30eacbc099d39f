use Rattle.std.proofs.Common.{◌≤◌, ◌-◌, [], length}
use Rattle.script_text.specs.Script.{max_text}
use Rattle.session_program.specs.Reading.{Gains}
use Rattle.session_program.proofs.reading.read_text.Given as goal

abbrev pub invariant-reads : goal.invariant-reads
invariant-reads g l = record {
  gains : Gains (g.S.Source.left l.fn.source) (g.S.Source.left l.source) [] l.intake;
  later : g.S.Source.fault_count l.fn.source ≤ g.S.Source.fault_count l.source;
}

abbrev pub decreases-reads : goal.decreases-reads
decreases-reads g l = max_text - length l.intake
