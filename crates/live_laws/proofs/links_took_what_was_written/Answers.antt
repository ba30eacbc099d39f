use Rattle.std.proofs.Common.{List, ◌++◌, ◌∙◌, ap}
use Rattle.outside.specs.declared.world.Call.{Call}
use Rattle.live_laws.specs.Laws.{taken_in}
use Rattle.live_laws.specs.Taken.{taken}
use Rattle.live_laws.proofs.Fronts.{run_front}
use Rattle.live_laws.proofs.Runs.{run_taken, run_takes_all, run_told}
use Rattle.live_laws.proofs.links_took_what_was_written.Goals as goal

pub returns : goal.returns
returns c = record {
  done = λ early old new before after count ending l sound good unspent run. run_taken run l sound good unspent;
  told = λ early told calls before after count ending l sound good unspent run. run_taken run l sound good unspent ∙ ap (λ (xs : List Call). taken_in before l ++ taken l xs) (run_told told calls run);
  all = λ early old new before after count ending l sound good unspent quiet run. run_takes_all run l sound good unspent quiet;
  front = λ early old new before after count ending l sound good unspent quiet run. run_front run l sound good unspent quiet;
}
