use Rattle.canonical_laws.proofs.Given.{read_is_value, read_is_readable, read_again}
use Rattle.canonical_laws.proofs.ShortTexts.{short_text_again}
use Rattle.canonical_laws.proofs.Spelled.{some_text}
use Rattle.canonical_laws.proofs.a_value_that_was_read_is_readable.Goals as goal

pub returns : goal.returns
returns c = record { value = read_is_value; from_some_text = some_text; readable = read_is_readable; read_again = read_again; short_text = short_text_again }
