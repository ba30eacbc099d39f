use Rattle.std.proofs.Common.{refl}
use Rattle.resp_value.specs.ErrorTable.{kind_of, method_of, needs_new_link}
use Rattle.protocol_examples.specs.Errors.{told_by_code, codes_of_errors, other_codes, told_by_error, errors_of_the_driver, faults, told_of_links, ends_of_links, unrecoverable_methods}
use Rattle.protocol_examples.proofs.Computed.{gives}
use Rattle.protocol_examples.proofs.Others.{tells_nothing}
use Rattle.protocol_examples.proofs.errors.errors_tell_how_to_go_on.Goals as goal

pub returns : goal.returns
unfolding kind_of method_of
returns c = record {
  codes = gives told_by_code codes_of_errors refl;
  others = tells_nothing;
  some_others = gives told_by_code other_codes refl;
  driver = gives told_by_error errors_of_the_driver refl;
  faults = gives told_by_error faults refl;
  ends = gives told_of_links ends_of_links refl;
  unrecoverable = gives needs_new_link unrecoverable_methods refl;
}
