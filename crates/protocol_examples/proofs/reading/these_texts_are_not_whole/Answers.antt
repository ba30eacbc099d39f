use Rattle.std.proofs.Common.{refl}
use Rattle.resp_read.specs.Grammar.{max_depth}
use Rattle.protocol_examples.specs.Grammar.{short_lines, short_lengths}
use Rattle.protocol_examples.proofs.Computed.{are_short}
use Rattle.protocol_examples.proofs.reading.these_texts_are_not_whole.Goals as goal

pub returns : goal.returns
unfolding max_depth
returns c = record { lines = are_short short_lines refl; lengths = are_short short_lengths refl }
