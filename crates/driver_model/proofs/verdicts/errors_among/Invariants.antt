use Rattle.std.proofs.Common.{◌≡◌, ◌++◌, drop}
use Rattle.resp_value.specs.View.{list_view}
use Rattle.driver_model.specs.Shape.{errors_from}
use Rattle.driver_model.proofs.verdicts.errors_among.Given as goal

-- what is noted and what is left are the whole
abbrev pub invariant-loop-value : goal.invariant-loop-value
invariant-loop-value l = record {
  at : l.position ≡ l.value-index;
  noted : l.errors ++ errors_from l.position (list_view (drop l.value-index l.values)) ≡ errors_from 0 (list_view l.values);
}
