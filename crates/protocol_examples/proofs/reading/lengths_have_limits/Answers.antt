use Rattle.std.proofs.Common.{refl}
use Rattle.resp_read.specs.Grammar.{max_depth}
use Rattle.protocol_examples.specs.Limits.{greatest_lengths, lengths_too_great}
use Rattle.protocol_examples.proofs.Computed.{are_short, are_malformed}
use Rattle.protocol_examples.proofs.LineEnds.{longest_line, longer_line}
use Rattle.protocol_examples.proofs.reading.lengths_have_limits.Goals as goal

pub returns : goal.returns
unfolding max_depth
returns c = record { longest_line = longest_line; longer_line = longer_line; announced = are_short greatest_lengths refl; not_announced = are_malformed lengths_too_great refl }
