-- The first server error that a value is or holds.
use Rattle.std.specs.Prelude.{Option, Some, None}
use Rattle.std.specs.Option.{option_or}
use Rattle.resp_value.specs.declared.server_error.ServerError.{ServerError}
use Rattle.resp_value.specs.Data.{Data, array, dict, attribute, set, push, error, Items, no_items, item, Members, no_members, member}

-- an attribute's value stands before its attributes, and a key before its value
abbrev mutual
  pub first_error : Data → Option ServerError
  first_error (error e) = Some e
  first_error (array ds) = error_among ds
  first_error (set ds) = error_among ds
  first_error (push kind ds) = error_among ds
  first_error (dict ms) = error_in_pairs ms
  first_error (attribute d ms) = option_or (first_error d) (error_in_pairs ms)
  first_error _ = None

  pub error_among : Items → Option ServerError
  error_among no_items = None
  error_among (item d ds) = option_or (first_error d) (error_among ds)

  pub error_in_pairs : Members → Option ServerError
  error_in_pairs no_members = None
  error_in_pairs (member k d ms) = option_or (option_or (first_error k) (first_error d)) (error_in_pairs ms)

-- of a key and its value
abbrev pub error_in_pair : Data → Data → Option ServerError
error_in_pair k d = option_or (first_error k) (first_error d)
