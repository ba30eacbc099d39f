use Rattle.std.proofs.Common.{refl}
use Rattle.std.specs.Fmt.{digits}
use Rattle.percent_encoding.specs.Percent.{percent_encode_byte}
use Rattle.trace_text.specs.Words.{escaped}
use Rattle.protocol_examples.specs.Errors.{line_of_error, errors_in_words}
use Rattle.protocol_examples.proofs.Computed.{gives}
use Rattle.protocol_examples.proofs.errors.errors_have_these_words.Goals as goal

pub returns : goal.returns
unfolding digits percent_encode_byte escaped
returns c = gives line_of_error errors_in_words refl
