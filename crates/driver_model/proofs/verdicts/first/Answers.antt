use Rattle.std.proofs.Common.{◌≡◌, List, ◌∷◌, sym, ap, ◌∙◌}
use Rattle.resp_value.specs.Data.{Data}
use Rattle.resp_value.specs.View.{data_of, value_of, value_of-data_of}
use Rattle.resp_value.specs.declared.value.Value.{Value}
use Rattle.driver_model.specs.Shape.{first_of}
use Rattle.driver_model.proofs.verdicts.first.Goals as goal

first_value : (got rest : List Data) (v : Value) → got ≡ data_of v ∷ rest → v ≡ value_of (first_of got)
first_value got rest v e = sym (value_of-data_of v) ∙ ap (λ (ds : List Data). value_of (first_of ds)) (sym e)

pub returns-in-Some : goal.returns-in-Some
returns-in-Some c = first_value c.args.values _ c.in-Some.value c.in-Some.ensures
