use Rattle.std.specs.Prelude.{codes}
use Rattle.connection_setup.specs.Setup.{library_fact}
use Rattle.connection_setup.proofs.Steps.{two_parts}
use Rattle.connection_setup.proofs.messages.add_library.Goals as goal

pub returns : goal.returns
returns c =
    rw c.if-skip.false
    (two_parts _ _ _ (library_fact (codes "LIB-NAME") (codes "redis-rs")) (library_fact (codes "LIB-VER") (codes "1.7.0")) c.in_ok-add_fact.ensures c.in_ok-add_fact-2.ensures)
