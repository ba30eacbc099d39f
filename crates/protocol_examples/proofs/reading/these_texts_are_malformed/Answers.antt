use Rattle.std.proofs.Common.{refl}
use Rattle.resp_read.specs.Grammar.{max_depth}
use Rattle.protocol_examples.specs.Grammar.{malformed_lines, malformed_lengths}
use Rattle.protocol_examples.proofs.Computed.{are_malformed}
use Rattle.protocol_examples.proofs.reading.these_texts_are_malformed.Goals as goal

pub returns : goal.returns
unfolding max_depth
returns c = record { lines = are_malformed malformed_lines refl; lengths = are_malformed malformed_lengths refl }
