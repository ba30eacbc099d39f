use Rattle.cluster_plan.proofs.Creating.{connects_each, fails_where_none, last_counts, reconnects_where_none}
use Rattle.cluster_plan.proofs.laws.a_reconnect_asks_each_initial_address.Goals as goal

pub returns : goal.returns
returns c = record { each = connects_each; none = fails_where_none; last = last_counts; empty = reconnects_where_none }
