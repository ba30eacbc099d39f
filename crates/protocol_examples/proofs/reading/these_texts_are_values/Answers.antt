use Rattle.std.proofs.Common.{refl}
use Rattle.resp_value.specs.Kinds.{kind_of}
use Rattle.resp_read.specs.Grammar.{max_depth}
use Rattle.protocol_examples.specs.Grammar.{lines, scalars, sized_texts, lists, tagged}
use Rattle.protocol_examples.proofs.Computed.{are_values}
use Rattle.protocol_examples.proofs.reading.these_texts_are_values.Goals as goal

pub returns : goal.returns
unfolding max_depth kind_of
returns c = record { lines = are_values lines refl; scalars = are_values scalars refl; sized = are_values sized_texts refl; lists = are_values lists refl; tagged = are_values tagged refl }
