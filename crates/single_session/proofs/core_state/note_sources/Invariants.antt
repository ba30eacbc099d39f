use Rattle.std.proofs.Common.{◌≡◌, ◌++◌, drop}
use Rattle.single_session.specs.Turn.{sources_of}
use Rattle.single_session.proofs.core_state.note_sources.Given as goal

-- what is kept and what is left are the whole
abbrev pub invariant-loop-act : goal.invariant-loop-act
invariant-loop-act l = l.sources ++ sources_of l.link (drop l.act-index l.acts) ≡ l.fn.sources ++ sources_of l.link l.acts
