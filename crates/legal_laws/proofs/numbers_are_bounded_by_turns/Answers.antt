use Rattle.legal_laws.proofs.Counts.Few.{gives_few, legal_runs_late, numbers_left}
use Rattle.legal_laws.proofs.numbers_are_bounded_by_turns.Goals as goal

pub returns-clause-given : goal.returns-clause-given
returns-clause-given c = gives_few

pub returns-clause-left : goal.returns-clause-left
returns-clause-left c = numbers_left

pub returns-clause-late : goal.returns-clause-late
returns-clause-late c = legal_runs_late
