-- A tracker may go to another thread, and threads may share it. With `crossing` a search proves the same of what holds trackers.
use denote.Param.Send.{IsSend, IsSync}
use Rattle.std.proofs.MapsCrossingOver as sets
use Rattle.resp_value.proofs.Threads as values
use Rattle.sub_tracker.specs.contracts.name_set.NameSet as NameSet
use Rattle.sub_tracker.specs.contracts.tracker.SubscriptionTracker as Tracker

names_send : IsSend NameSet.the_field.row
names_send = search (sets.crosses, values.crossing) depth 60 fits 20000

names_sync : IsSync NameSet.the_field.row
names_sync = search (sets.crosses, values.crossing) depth 60 fits 20000

pub tracker_send : IsSend Tracker.the_field.row
tracker_send = search (names_send, values.crossing) depth 60 fits 20000

pub tracker_sync : IsSync Tracker.the_field.row
tracker_sync = search (names_sync, values.crossing) depth 60 fits 20000

pub ruleset crossing = (tracker_send, tracker_sync, values.crossing)
