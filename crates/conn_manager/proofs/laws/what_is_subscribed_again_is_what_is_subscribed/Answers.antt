use Rattle.conn_manager.proofs.Resubscribing.{again, confirmed_tracked, failed_untracked}
use Rattle.conn_manager.proofs.laws.what_is_subscribed_again_is_what_is_subscribed.Goals as goal

pub returns : goal.returns
returns c = record { again = again; confirmed = confirmed_tracked; failed = failed_untracked }
