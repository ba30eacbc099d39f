-- The reply to a subscription call, as a value and as the item that it is.
use Rattle.std.proofs.Common.{◌≡◌, List, refl}
use Rattle.resp_value.specs.Data.{Data, nil, int, bulk, array, simple, okay, dict, attribute, set, double, boolean, verbatim, big, push, error}
use Rattle.resp_value.specs.View.{data_of, value_of}
use Rattle.driver_model.specs.Shape.{first_of, confirmed}

of_value : (d : Data) → confirmed (data_of (value_of d)) ≡ confirmed d
of_value nil = refl
of_value (int n) = refl
of_value (bulk t) = refl
of_value (array ds) = refl
of_value (simple t) = refl
of_value okay = refl
of_value (dict ms) = refl
of_value (attribute d ms) = refl
of_value (set ds) = refl
of_value (double t) = refl
of_value (boolean b) = refl
of_value (verbatim s t) = refl
of_value (big t) = refl
of_value (push k ds) = refl
of_value (error e) = refl

pub of_first : (got : List Data) → confirmed (data_of (value_of (first_of got))) ≡ confirmed (first_of got)
of_first got = of_value (first_of got)
