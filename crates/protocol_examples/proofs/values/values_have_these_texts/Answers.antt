use Rattle.std.proofs.Common.{refl}
use Rattle.std.specs.Fmt.{digits}
use Rattle.resp_write.specs.Canonical.{canonical, kind_text}
use Rattle.protocol_examples.specs.Canonical.{texts_of_scalars, texts_of_aggregates, texts_of_kinds}
use Rattle.protocol_examples.proofs.Computed.{gives}
use Rattle.protocol_examples.proofs.values.values_have_these_texts.Goals as goal

pub returns : goal.returns
unfolding digits
returns c = record { scalars = gives canonical texts_of_scalars refl; aggregates = gives canonical texts_of_aggregates refl; kinds = gives kind_text texts_of_kinds refl }
