use Rattle.std.proofs.Common.{List, subst}
use Rattle.outside.specs.declared.world.Call.{Call}
use Rattle.live_run.specs.Deeds.{traced}
use Rattle.live_laws.specs.Dials.{IsPicked, connects_in, dials_in}
use Rattle.live_laws.proofs.Connecting.{connects_rise, dialled_once, run_picked}
use Rattle.live_laws.proofs.Runs.{run_told}
use Rattle.live_laws.proofs.links_are_dialled_in_order.Goals as goal

pub returns : goal.returns
returns c = record {
  done = λ old new before after count ending run. run_picked run;
  told = λ told calls before after count ending run. subst (λ (xs : List Call). IsPicked (dials_in xs) (connects_in (traced after))) (run_told told calls run) (run_picked run);
  once = λ old new before after count ending n sound good unspent run. dialled_once n sound good unspent run;
  rise = connects_rise;
}
