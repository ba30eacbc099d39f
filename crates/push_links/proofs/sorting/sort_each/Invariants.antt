use Rattle.std.proofs.Common.{◌≡◌, ◌++◌, length, take}
use Rattle.push_links.specs.Links.{others_of_messages, with_messages}
use Rattle.push_links.proofs.sorting.sort_each.Given as goal

abbrev pub invariant-loop-act : goal.invariant-loop-act
invariant-loop-act l = record {
  gained : with_messages l.stream.held l.rest ≡ with_messages l.fn.stream.held l.fn.acts.items;
  others : l.out.items ++ others_of_messages l.rest ≡ l.fn.out.items ++ others_of_messages l.fn.acts.items;
  front : take (length l.fn.out.items) l.out.items ≡ l.fn.out.items;
  held : take (length l.fn.stream.held.items) l.stream.held.items ≡ l.fn.stream.held.items;
}

abbrev pub decreases-loop-act : goal.decreases-loop-act
decreases-loop-act l = length l.rest
