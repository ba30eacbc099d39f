use Rattle.std.proofs.Common.{refl}
use Rattle.resp_value.specs.Kinds.{kind_of, has_reply}
use Rattle.protocol_examples.specs.Pushes.{kinds_of_texts, other_kinds, replies_of_kinds}
use Rattle.protocol_examples.proofs.Computed.{gives}
use Rattle.protocol_examples.proofs.Others.{is_other}
use Rattle.protocol_examples.proofs.values.pushes_have_these_kinds.Goals as goal

pub returns : goal.returns
unfolding kind_of
returns c = record { kinds = gives kind_of kinds_of_texts refl; others = is_other; some_others = gives kind_of other_kinds refl; replies = gives has_reply replies_of_kinds refl }
