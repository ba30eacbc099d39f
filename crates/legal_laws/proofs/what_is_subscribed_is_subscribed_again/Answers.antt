use Rattle.legal_laws.proofs.Internal.Resubscribed.{subscribes_as_it_was}
use Rattle.legal_laws.proofs.what_is_subscribed_is_subscribed_again.Goals as goal

pub returns : goal.returns
returns c = subscribes_as_it_was
