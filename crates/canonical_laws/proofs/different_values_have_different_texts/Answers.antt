use Rattle.canonical_laws.proofs.Unlimited.{same_front_unlimited, same_front, same_value}
use Rattle.canonical_laws.proofs.different_values_have_different_texts.Goals as goal

pub returns : goal.returns
returns c = record { same = same_value; followed = same_front; without_limits = same_front_unlimited }
