use Rattle.protocol_examples.proofs.Nesting.{each_nests, each_holds_nil, none_nests_deeper, none_holds_empty, none_holds_less}
use Rattle.protocol_examples.proofs.reading.a_hundred_aggregates_nest.Goals as goal

pub returns : goal.returns
returns c = record { at_most = each_nests; nil_inside = each_holds_nil; one_more = none_nests_deeper; empty_inside = none_holds_empty; less_inside = none_holds_less }
