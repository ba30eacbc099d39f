use Rattle.std.proofs.Common.{◌≡◌, ◌≤◌, false, length, take, drop, map}
use Rattle.resp_value.specs.View.{data_of}
use Rattle.link_core.specs.Dealing.{dealing_on, taken_each}
use Rattle.link_core.proofs.dealing.take_each.Given as goal

abbrev pub invariant-values : goal.invariant-values
invariant-values l = record {
  settled : l.call.settled ≤ length l.out.items;
  noted : l.call.noted ≤ length l.notices.items;
  taken : taken_each l.call.hearing l.call.ready (dealing_on l.row (drop l.call.settled l.out.items) (drop l.call.noted l.notices.items) false) (map data_of l.came) ≡ taken_each l.call.hearing l.call.ready (dealing_on l.fn.row (drop l.call.settled l.fn.out.items) (drop l.call.noted l.fn.notices.items) false) (map data_of l.fn.came);
  first : take l.call.settled l.out.items ≡ take l.call.settled l.fn.out.items;
  first_notices : take l.call.noted l.notices.items ≡ take l.call.noted l.fn.notices.items;
}

abbrev pub decreases-values : goal.decreases-values
decreases-values l = length l.came
