use Rattle.canonical_laws.proofs.Unlimited.{read_back_unlimited, read_again_unlimited, listed_again}
use Rattle.canonical_laws.proofs.a_canonical_text_is_read_back_without_limits.Goals as goal

pub returns : goal.returns
returns c = record { at_depth = read_back_unlimited; read_again = read_again_unlimited; listed = listed_again }
