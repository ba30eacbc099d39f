use Rattle.std.proofs.Common.{refl}
use Rattle.percent_encoding.proofs.OnLiterals.{percent_encoding_on_literals}
use Rattle.script_text.specs.EventLine.{calls, event_of, others}
use Rattle.script_text.specs.Words.{unescaped, words_of_line}
use Rattle.protocol_examples.specs.Lines.{event_told, lines_of_submissions, lines_of_events}
use Rattle.protocol_examples.proofs.Computed.{gives}
use Rattle.protocol_examples.proofs.lines.lines_tell_these_events.Goals as goal

pub returns : goal.returns
unfolding percent_encoding_on_literals calls event_of others unescaped words_of_line
returns c = record { submissions = gives event_told lines_of_submissions refl; events = gives event_told lines_of_events refl }
