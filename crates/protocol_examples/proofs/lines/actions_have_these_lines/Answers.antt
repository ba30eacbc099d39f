use Rattle.std.proofs.Common.{refl}
use Rattle.std.specs.Fmt.{digits}
use Rattle.percent_encoding.specs.Percent.{percent_encode_byte}
use Rattle.trace_text.specs.Words.{escaped}
use Rattle.trace_text.specs.Show.{action_line}
use Rattle.protocol_examples.specs.Lines.{lines_of_links, lines_of_waits, lines_of_answers}
use Rattle.protocol_examples.proofs.Computed.{gives}
use Rattle.protocol_examples.proofs.lines.actions_have_these_lines.Goals as goal

pub returns : goal.returns
unfolding digits percent_encode_byte escaped
returns c = record { links = gives action_line lines_of_links refl; waits = gives action_line lines_of_waits refl; answers = gives action_line lines_of_answers refl }
