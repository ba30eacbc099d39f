-- Values may go to another thread, and threads may share them. With `crossing` a search proves the same of a type that holds values,
-- and doesn't go down into them again at each place.
use denote.Param.Send.{IsSend, IsSync, sendable}
use Rattle.std.proofs.Crossing.{crosses}
use Rattle.resp_value.proofs.value.Inner.TheLaws.TheKnot as knot
use Rattle.resp_value.specs.contracts.value.Pairs as Pairs
use Rattle.resp_value.specs.contracts.value.Value as Value
use Rattle.resp_value.specs.contracts.value.Values as Values

pub value_send : IsSend Value.the_field.row
value_send = search (crosses, knot.crosses, sendable) depth 60 fits 20000

pub value_sync : IsSync Value.the_field.row
value_sync = search (crosses, knot.crosses, sendable) depth 60 fits 20000

pub list_send : IsSend Values.the_field.row
list_send = search (crosses, knot.crosses, sendable) depth 60 fits 20000

pub list_sync : IsSync Values.the_field.row
list_sync = search (crosses, knot.crosses, sendable) depth 60 fits 20000

pub pairs_send : IsSend Pairs.the_field.row
pairs_send = search (crosses, knot.crosses, sendable) depth 60 fits 20000

pub pairs_sync : IsSync Pairs.the_field.row
pairs_sync = search (crosses, knot.crosses, sendable) depth 60 fits 20000

pub ruleset crossing = (value_send, value_sync, list_send, list_sync, pairs_send, pairs_sync, crosses, sendable)
