use Rattle.conn_manager.proofs.Resubscribing.{silent, timers_silent}
use Rattle.conn_manager.proofs.laws.an_event_of_an_older_link_changes_nothing.Goals as goal

pub returns : goal.returns
returns c = record { links = silent; timers = timers_silent }
